-- `lines::descriptions::trimmed` meets its contract: what stands behind the last byte that is no space is spaces. Assumes nothing.
use Rattle.std.proofs.Common.{◌≡◌, ◌≢◌, ◌<◌, ℕ, get_or, take, arith, sym, ◌∙◌}
use Rattle.std.proofs.lemmas.Grind.{common_steps}
use lib.Seq.{get_or-take}
use Rattle.lines.proofs.Spaces.{trimmed_none, trimmed_last}
use Rattle.lines.proofs.descriptions.trimmed.Goals as goal

pub returns-in-Some : goal.returns-in-Some
returns-in-Some c =
    let n = c.args.n in
    let s = c.args.s.now in
    let last = c.in-Some.last in
    let low : last < n = grind (arith, common_steps) in
    let here : get_or (take n s) last 0 ≢ 32 = grind (arith, common_steps) in
    let behind : (k : ℕ) → last < k → k < n → get_or (take n s) k 0 ≡ 32 = grind (arith, common_steps) in
    (sym (trimmed_last n last s low (λ e. here (get_or-take n s last 0 low ∙ e)) (λ k h l. sym (get_or-take n s k 0 l) ∙ behind k h l)), omega arith)

pub returns-in-None : goal.returns-in-None
returns-in-None c =
    let n = c.args.n in
    let s = c.args.s.now in
    let all : (k : ℕ) → k < n → get_or (take n s) k 0 ≡ 32 = grind (arith, common_steps) in
    (sym (trimmed_none n s (λ k h. sym (get_or-take n s k 0 h) ∙ all k h)), omega arith)

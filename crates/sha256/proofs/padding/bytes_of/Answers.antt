-- `sha256::padding::bytes_of` meets its contract: after i turns the bytes of the first i words stand in front. Assumes nothing.
use Rattle.std.proofs.Common.{◌≡◌, ℕ, ◌*◌, length, take, sym, refl, ap, ◌∙◌, subst, arith, take_all, rules}
use Rattle.digest_sha2.specs.Sha2.{all_bytes}
use Rattle.digest_sha2.proofs.Bytes.{all_more}
use Rattle.sha256.proofs.padding.bytes_of.Goals as goal

pub loop-i-init : goal.loop-i-init
unfolding all_bytes
loop-i-init c = (refl, refl)

pub loop-i-preserved : goal.loop-i-preserved
loop-i-preserved c =
    let l = c.loop-i in
    (c.put_big32.auto.s ∙ l.invariant.0, cc (all_more 4 c.args.s l.d l.i (omega arith) (omega arith) l.invariant.1))

pub returns : goal.returns
returns c =
    let l = c.loop-i in
    let s = c.args.s in
    let n : length s ≡ 8 = search rules in
    let e : l.i ≡ 8 = omega arith in
    sym (take_all 32 l.d (omega arith)) ∙ subst (λ (i : ℕ). take (4 * i) l.d ≡ all_bytes 4 (take i s)) e l.invariant.1 ∙ ap (all_bytes 4) (take_all 8 s (omega arith))

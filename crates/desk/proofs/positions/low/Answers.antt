-- `desk::positions::low` meets its contract: there are forty-eight places, and their bytes were compared. Assumes nothing.
use Prim.Native.Nat.{ℕ, ◌+◌, ◌*◌, ◌-◌}
use mathlib.Core.Path.{◌≡◌, sym, ap, ◌∙◌}
use native.Mathlib.Omega.{arith}
use borrow.Author.Rules.{rules}
use mathlib.Core.Bool.{false≢true}
use Rattle.words.specs.Bytes.{part}
use Rattle.sizes.specs.Sizes.{place_len}
use Rattle.desk.specs.Together.{together_len, none_above}
use Rattle.desk.proofs.positions.low.Goals as goal

pub returns-then-n-i-lt-TOGETHER : goal.returns-then-n-i-lt-TOGETHER
returns-then-n-i-lt-TOGETHER c = λ e. absurd (false≢true e)

pub returns : goal.returns
returns c =
    λ e.
    let a = c.args in
    let s : place_len * a.i + together_len - place_len * a.i ≡ together_len = omega arith in
    (search rules, ap (λ (n : ℕ). none_above (part a.d.now (place_len * a.i) n) a.top.now) (sym s) ∙ (sym c.none_above.ensures ∙ e))

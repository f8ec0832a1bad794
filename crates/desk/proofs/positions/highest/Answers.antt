-- `desk::positions::highest` meets its contract: zeros are good places, and each put keeps them good. Assumes nothing.
use Prim.Native.Nat.{ℕ, suc, ◌*◌}
use mathlib.Core.Path.{◌≡◌, sym, ap, ◌∙◌}
use mathlib.Core.List.{[], ◌∷◌, ◌++◌}
use native.Mathlib.Omega.{arith}
use borrow.Author.Rules.{rules}
use Rattle.words.specs.Bytes.{splice}
use Rattle.words.specs.Numbers.{bytes_of}
use Rattle.sizes.specs.Sizes.{place_len}
use Rattle.desk.specs.Layout.{place_at}
use Rattle.desk.specs.Good.{places_good}
use Rattle.desk.specs.Together.{together}
use Rattle.desk.proofs.Places.{place-good}
use Rattle.desk.proofs.Together.{zeros-good}
use Rattle.desk.proofs.positions.highest.Goals as goal

pub loop-i-init : goal.loop-i-init
loop-i-init c = (search rules, zeros-good _ (search rules))

pub loop-i-preserved : goal.loop-i-preserved
loop-i-preserved c =
    let l = c.loop-i in
    let most = c.args.most in
    let i = l.i in
    let last-is = c.last-last.ensures in
    let e : place_at (suc i) ≡ place_len * i = omega arith in
    let g =
    place-good l.top together (suc i) c.last-last.result 1 (omega (arith, l.invariant.0)) (omega arith) (omega (arith, c.loop-i-test.true)) most
    (search rules) (search rules) (omega arith) l.invariant.1 in
    let p = c.put_place.ensures ∙ ap (λ (a : ℕ). splice l.top a (bytes_of 2 c.last-last.result ++ (1 ∷ []))) (sym e) in
    (c.put_place.auto.dst ∙ l.invariant.0, ap (places_good most together) p ∙ g)

-- `script::request_after` meets its contract: what `numbers` and `rest_good` found decides. Assumes nothing.
use Prim.Native.Nat.{◌-◌}
use mathlib.Core.Path.{◌≡◌, refl, sym, ap, ◌∙◌}
use native.Mathlib.Omega.{arith}
use lib.ListN.{length, drop}
use Rattle.text.specs.Fronts.{rest_in}
use Rattle.script.specs.Lines.{rest_good}
use Rattle.text.proofs.Found as laws
use Rattle.script.proofs.request_after.Goals as goal

pub returns : goal.returns
returns c =
    let a = c.args in
    let xs = a.line.now in
    let f = laws.found 2 xs (a.w - 1) (omega arith) _ _ c.numbers.ensures.value c.in_ok-at.was in
    let e = ap (rest_good a.kind) (sym (laws.rest-is 2 xs (a.w - 1) _ f)) ∙ sym c.rest_good.ensures ∙ c.if-not-rest_good.false in
    let v = laws.found-are 2 xs (a.w - 1) (omega arith) _ f _ _ refl c.numbers.ensures.out_after in
    let t : c.min-text.result ≡ length xs - length (drop 1 (rest_in a.w 2 xs)) = omega (arith, c.min-text.ensures, laws.text-place 2 xs (a.w - 1) _ f, f.fits) in
    rw (f.there, e, t, v)

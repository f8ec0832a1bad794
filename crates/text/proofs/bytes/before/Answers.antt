-- `text::bytes::before` meets its contract: what stands before the first b is as long as the library's place of it. Assumes nothing.
use mathlib.Core.Path.{◌≡◌, ◌∙◌, ap}
use native.Mathlib.Omega.{arith}
use lib.ListN.{length}
use lib.Dec.{eqb}
use Rattle.std.proofs.Common.{rules, tests}
use Rattle.std.specs.Prelude.{position, unwrap_or}
use Rattle.std.proofs.lemmas.Iterator.{YieldsList-from_slice}
use Rattle.std.proofs.lemmas.Iterator.Search.{position_from_yields_List}
use Rattle.text.specs.Fronts.{before}
use Rattle.text.proofs.Fronts.{before_position, before_length}
use Rattle.text.proofs.bytes.before.Goals as goal

pub returns : goal.returns
returns c =
    let b = c.args.b in
    let s = c.args.s.now in
    let e : c.position.result ≡ position (λ x. eqb x b) s = position_from_yields_List (λ x. eqb x b) _ _ c.position.result c.position.ensures.ran (YieldsList-from_slice _ c.iter.ensures.rest) (λ x d q k. search (rules, tests)) in
    let u : c.unwrap_or.result ≡ length (before b s) = c.unwrap_or.ensures ∙ ap (λ p. unwrap_or p (length s)) e ∙ before_position b s in
    (u, omega (arith, before_length b s))

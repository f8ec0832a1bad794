-- `lines::fronts::spaces` meets its contract: they are as many as the library's place of the first byte that is none. Assumes nothing.
use mathlib.Core.Path.{◌≡◌, ◌∙◌, ap}
use mathlib.Core.Bool.{not}
use native.Mathlib.Omega.{arith}
use lib.ListN.{length}
use lib.Dec.{eqb}
use Rattle.std.proofs.Common.{rules, tests}
use Rattle.std.specs.Prelude.{position, unwrap_or}
use Rattle.std.proofs.lemmas.Iterator.{YieldsList-from_slice}
use Rattle.std.proofs.lemmas.Iterator.Search.{position_from_yields_List}
use Rattle.text.specs.Text.{space}
use Rattle.lines.specs.Line.{leading}
use Rattle.lines.proofs.Spaces.{leading_position, leading-most}
use Rattle.lines.proofs.fronts.spaces.Goals as goal

pub returns : goal.returns
returns c =
    let s = c.args.s.now in
    let e : c.position.result ≡ position (λ x. not (eqb x space)) s = position_from_yields_List (λ x. not (eqb x space)) _ _ c.position.result c.position.ensures.ran (YieldsList-from_slice _ c.iter.ensures.rest) (λ x d q k. search (rules, tests)) in
    let u : c.unwrap_or.result ≡ leading s = c.unwrap_or.ensures ∙ ap (λ p. unwrap_or p (length s)) e ∙ leading_position s in
    (u, omega (arith, leading-most s))

-- A line that is longer than any that can be read ends the run, whichever line was to come. Assumes nothing.
use Prim.Native.Nat.{ℕ, ◌<◌}
use mathlib.Core.Path.{◌≡◌, sym, ap, subst}
use mathlib.Core.Bool.{Bool, false}
use mathlib.Core.List.{List, ◌++◌}
use native.Mathlib.Omega.{arith}
use lib.ListN.{length, length-append}
use Rattle.words.specs.Bytes.{splice}
use Rattle.text.specs.Text.{bad_line}
use Rattle.std.specs.Prelude.{Option}
use Rattle.setup.specs.declared.Store.{Store}
use Rattle.setup.specs.Setup.{most_line}
use Rattle.script.specs.declared.Request.{Request}
use Rattle.script.proofs.Bounds.{too_long}
use Rattle.runs.specs.declared.run.Run.{Run}
use Rattle.runs.specs.declared.run.Run.TheVariants as run
use Rattle.runs.specs.Shelf.{Shelf}
use Rattle.runs.specs.Run.{first_step, second_step, request_step, step_of, is_over, Sound}
use Rattle.shelf.specs.Turns.{Said}

ends : (r : Run) (xs : List ℕ) (sh : Shelf) → most_line < length xs → Sound r → is_over r ≡ false → ((step_of r xs sh).run ≡ run.Over) × ((step_of r xs sh).text ≡ bad_line)
ends run.First xs sh h s g = let e = (too_long xs h).no_store in (ap (λ (q : Option Store). (first_step q sh).run) e, ap (λ (q : Option Store). (first_step q sh).text) e)
ends (run.Second x) xs sh h s g =
    let e = (too_long xs h).no_start x.ids s.ids_high in
    (ap (λ (q : Bool). (second_step q x xs sh).run) e, ap (λ (q : Bool). (second_step q x xs sh).text) e)
ends (run.Ready x k) xs sh h s g =
    let e = (too_long xs h).no_request in
    (ap (λ (q : Option Request). (request_step q x k xs sh).run) e, ap (λ (q : Option Request). (request_step q x k xs sh).text) e)
ends run.Over xs sh h s g = absurd (let z : ◌≡◌ {A = ℕ} 0 1 = cc in omega arith)

-- whatever stands after its front
pub long-ends : (r : Run) (front rest : List ℕ) (sh : Shelf) (out out' : List ℕ) → most_line < length front → Sound r → is_over r ≡ false → out' ≡ splice out 0 bad_line
    → Said (step_of r (front ++ rest) sh) out out'
long-ends r front rest sh out out' h s g e =
    let p = ends r (front ++ rest) sh (omega (arith, length-append front rest)) s g in
    record { run_is = p.0; text_is = subst (λ (t : List ℕ). out' ≡ splice out 0 t) (sym p.1) e }

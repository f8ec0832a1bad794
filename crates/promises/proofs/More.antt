-- One more event: what it gets to is reached. Assumes nothing.
use Rattle.std.specs.Prelude.{Ok}
use mathlib.Core.Path.{◌≡◌, refl, sym, ap, subst, ◌∙◌}
use mathlib.Core.List.{List, [], ◌∷◌, ◌++◌}
use Prim.Native.Nat.{ℕ}
use Rattle.sizes.specs.declared.Sizes.{Sizes}
use Rattle.promises.specs.Stores.{Store, Start, format_for}
use Rattle.promises.specs.Steps.{State, begin, Event, after, run, Hands, Fair, AllFair, Reached}

module _ (store : Store) (s : Sizes) (hands : Hands) where
  run_more : (st : State) (es : List Event) (e : Event) → run store s st (es ++ (e ∷ [])) ≡ after store s (run store s st es) e
  run_more st [] e = refl
  run_more st (x ∷ es) e = run_more (after store s st x) es e

  fair-more : (st : State) (es : List Event) (e : Event) → AllFair hands store s st es → Fair hands store (run store s st es) e → AllFair hands store s st (es ++ (e ∷ []))
  fair-more st [] e f g = (g, tt)
  fair-more st (x ∷ es) e f g = (f.0, fair-more (after store s st x) es e f.1 g)

module _ (store : Store) (b : Start) (hands : Hands) where
  pub reached-begin : (lent : List ℕ) → (format_for b lent).answer ≡ Ok tt → Reached store b hands (begin b lent)
  reached-begin lent f = record { lent = lent; formats = f; events = []; fair = tt; here = refl }

  pub reached-more : (st : State) → Reached store b hands st → (e : Event) → Fair hands store st e → Reached store b hands (after store b.sizes st e)
  reached-more st r e g =
      record {
        lent = r.lent;
        formats = r.formats;
        events = r.events ++ (e ∷ []);
        fair =
            fair-more store b.sizes hands (begin b r.lent) r.events e r.fair (subst (λ (x : State). Fair hands store x e) (sym r.here) g);
        here = run_more store b.sizes hands (begin b r.lent) r.events e ∙ ap (λ (x : State). after store b.sizes x e) r.here;
      }

-- The worked figures hold. Assumes nothing.
use Prim.Native.Nat.{ℕ}
use mathlib.Core.Path.{◌≡◌, refl, ap, ap₂, ◌∙◌}
use mathlib.Core.List.{List}
use native.Mathlib.Omega.{arith}
use lib.ListN.{length}
use Rattle.sizes.specs.declared.Sizes.{Sizes}
use Rattle.sizes.specs.Sizes.{sized}
use Rattle.sizes.specs.Figures.{size_figures}
use Rattle.slots.specs.Slots.{Block}
use Rattle.items.specs.Items.{Means}
use Rattle.placing.specs.Filling.{left, rest}
use Rattle.placing.specs.Placing.{remaining}
use Rattle.placing.specs.Figures.{placing_figures}
use Rattle.draws.specs.Figures.{draw_figures}
use Rattle.store.specs.Steps.{to_place, new_stash}
use Rattle.promises.specs.Stores.{ours}
use Rattle.promises.specs.Figures.{four, PlacesFour, Figures}
use Rattle.promises.proofs.Exactly.{exactly}

one-over : (r₁ r₂ r₃ r₄ : List ℕ) → length (remaining (sized 2 1) 2 (four r₁ r₂ r₃ r₄)) ≡ 1
unfolding remaining rest left
one-over r₁ r₂ r₃ r₄ = refl

remains : (m : Means) (desk path buffer : List ℕ) → PlacesFour m desk path buffer → length (new_stash m desk path) ≡ 1
remains m desk path buffer p =
    ap₂ (λ (s : Sizes) (l : ℕ). length (remaining s l (to_place m desk path))) p.sizes p.leaf
    ∙ ap (λ (bs : List Block). length (remaining (sized 2 1) 2 bs)) p.blocks ∙ one-over p.r₁ p.r₂ p.r₃ p.r₄

pub figures : (m : Means) → Figures m (ours m)
figures m =
    record {
      sizes = size_figures;
      placing = placing_figures;
      one_accepts = λ desk path buffer p e. (exactly m).otherwise desk path buffer p.ready p.genuine p.not_worn (omega (arith, remains m desk path buffer p));
      none_full = λ desk path buffer p e. ((exactly m).full desk path buffer p.ready p.genuine).1 (p.not_worn, omega (arith, remains m desk path buffer p));
      draws = draw_figures;
    }

-- The figures of the paper that are proved, as far as they are about draws: one statement. L = 2. Assumes nothing.
use Rattle.std.specs.Prelude.{ℕ, ◌≡◌, refl, List, [], ◌∷◌, ◌++◌}
use Rattle.bags.specs.Bags.{those}
use Rattle.draws.specs.Draws.{shown, leaves_shown, indices, unshown, order, rearrange, rearranged}

abbrev first : List ℕ
first = (3 ∷ 0 ∷ 1 ∷ []) ++ (2 ∷ 2 ∷ 0 ∷ [])

abbrev second : List ℕ
second = (3 ∷ 2 ∷ 0 ∷ []) ++ (1 ∷ 2 ∷ 0 ∷ [])

pub record DrawFigures : Type 0 where
  -- starts 3, 0, 1, draws 2, 2, 0: ids 1, 1, 2 ask for 3, 2, 0
  pub first_shown : leaves_shown 3 (1 ∷ 1 ∷ 2 ∷ []) first ≡ 3 ∷ 2 ∷ 0 ∷ []
  -- starts 3, 2, 0, draws 1, 2, 0, a rearrangement: ids 1, 2, 3 ask for 3, 2, 0
  pub second_rearranged : rearranged first (rearrange 3 (1 ∷ 1 ∷ 2 ∷ []) (1 ∷ 2 ∷ 3 ∷ [])) ≡ second
  pub second_shown : leaves_shown 3 (1 ∷ 2 ∷ 3 ∷ []) second ≡ 3 ∷ 2 ∷ 0 ∷ []

pub draw_figures : DrawFigures
unfolding shown leaves_shown indices those unshown order rearrange rearranged
draw_figures = record { first_shown = refl; second_rearranged = refl; second_shown = refl }

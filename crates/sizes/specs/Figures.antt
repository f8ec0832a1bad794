-- The figures of the paper that are proved, as far as they are about sizes: one statement. Assumes nothing.
use Rattle.std.specs.Prelude.{ℕ, ◌≡◌, refl, List, [], ◌∷◌, map}
use Rattle.sizes.specs.Sizes.{sized, inner_len, leaf_len, path_len, most_path, tree_len, desk_len, bucket_at}

-- the buckets of the path to a leaf in a tree of height l, at the levels named
abbrev pub way : ℕ → ℕ → List ℕ → List ℕ
way l leaf ks = map (bucket_at (sized l 1) leaf) ks

pub record SizeFigures : Type 0 where
  pub way_2_2 : way 2 2 (0 ∷ 1 ∷ 2 ∷ []) ≡ 0 ∷ 2 ∷ 5 ∷ []
  pub way_3_5 : way 3 5 (0 ∷ 1 ∷ 2 ∷ 3 ∷ []) ≡ 0 ∷ 2 ∷ 5 ∷ 12 ∷ []
  pub way_1_1 : way 1 1 (0 ∷ 1 ∷ []) ≡ 0 ∷ 2 ∷ []
  pub inner_4 : inner_len (sized 3 4) ≡ 346
  pub leaf_4 : leaf_len (sized 3 4) ≡ 280
  pub path_3_4 : path_len (sized 3 4) ≡ 1318
  pub path_1_1 : path_len (sized 1 1) ≡ 218
  pub path_longest : path_len (sized 12 8) ≡ most_path
  pub desk_3_2 : desk_len 3 2 ≡ 331
  pub tree_2_1 : tree_len (sized 2 1) ≡ 730

pub size_figures : SizeFigures
size_figures =
    record {
      way_2_2 = refl;
      way_3_5 = refl;
      way_1_1 = refl;
      inner_4 = refl;
      leaf_4 = refl;
      path_3_4 = refl;
      path_1_1 = refl;
      path_longest = refl;
      desk_3_2 = refl;
      tree_2_1 = refl;
    }

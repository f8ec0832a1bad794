-- Placing by one walk: each element goes to the first bucket whose test it passes and that has room. Buckets are numbered by their height: 0 is the
-- leaf's, and n, the number of buckets, is the height of what finds no room. Assumes nothing.
use Rattle.std.specs.Prelude.{ℕ, zero, suc, ◌+◌, ◌-◌, Bool, ◌&&◌, cond, List, [], ◌∷◌, get_or, set, eqb, ltb, leb}
use Rattle.sizes.specs.declared.Sizes.{Sizes}
use Rattle.sizes.specs.Sizes.{most_height, bucket_at}
use Rattle.slots.specs.Slots.{Block}
use Rattle.placing.specs.Placing.{on_way}

-- the first of n numbers from h on that passes; h + n where none does
unfoldable pub seek : (ℕ → Bool) → ℕ → ℕ → ℕ
seek f zero h = h
seek f (suc n) h = cond (f h) h (seek f n (suc h))

-- one more at height h
abbrev pub bump : List ℕ → ℕ → List ℕ
bump used h = set used h (get_or used h 0 + 1)

module _ {A : Type 0} where
  -- the bucket's test is passed, and it holds fewer than z
  abbrev pub free : (ℕ → A → Bool) → ℕ → List ℕ → A → ℕ → Bool
  free t z used x h = t h x && ltb (get_or used h 0) z

  -- the heights that elements get, one after another, where `used` says how many each height has; and how many each has then
  unfoldable pub heights : (ℕ → A → Bool) → ℕ → ℕ → List ℕ → List A → List ℕ
  heights t z n used [] = []
  heights t z n used (x ∷ xs) = seek (free t z used x) n 0 ∷ heights t z n (bump used (seek (free t z used x) n 0)) xs

  unfoldable pub used_by : (ℕ → A → Bool) → ℕ → ℕ → List ℕ → List A → List ℕ
  used_by t z n used [] = used
  used_by t z n used (x ∷ xs) = used_by t z n (bump used (seek (free t z used x) n 0)) xs

  -- those whose height is h, and those whose height is h or more
  unfoldable pub pick : ℕ → List ℕ → List A → List A
  pick h [] xs = []
  pick h (k ∷ ks) [] = []
  pick h (k ∷ ks) (x ∷ xs) = cond (eqb k h) (x ∷ pick h ks xs) (pick h ks xs)

  unfoldable pub from : ℕ → List ℕ → List A → List A
  from h [] xs = []
  from h (k ∷ ks) [] = []
  from h (k ∷ ks) (x ∷ xs) = cond (leb h k) (x ∷ from h ks xs) (from h ks xs)

-- ---- of blocks, on the path to a leaf

-- the bucket at height h lies on the way to the block's leaf
abbrev pub passes : Sizes → ℕ → ℕ → Block → Bool
passes s leaf h b = on_way s leaf (s.height - h) b

-- the same for a leaf x, and there is room
abbrev pub has_room : Sizes → ℕ → List ℕ → ℕ → ℕ → Bool
has_room s leaf used x h = eqb (bucket_at s x (s.height - h)) (bucket_at s leaf (s.height - h)) && ltb (get_or used h 0) s.slots

-- a height for each level, and one for what remains
abbrev pub most_heights : ℕ
most_heights = most_height + 2

abbrev pub given : Sizes → ℕ → List ℕ → List Block → List ℕ
given s leaf used bs = heights (passes s leaf) s.slots (s.height + 1) used bs

abbrev pub used_in : Sizes → ℕ → List ℕ → List Block → List ℕ
used_in s leaf used bs = used_by (passes s leaf) s.slots (s.height + 1) used bs

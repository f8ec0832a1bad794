-- Lengths: what they are where sizes are in range, and where not. Assumes nothing.
use mathlib.Core.Path.{◌≡◌}
use mathlib.Core.Bool.{true, false}
use Prim.Native.Nat.{ℕ}
use Rattle.sizes.specs.declared.Sizes.{Sizes}
use Rattle.sizes.specs.Sizes.{sizes_good, ids_good, desk_len}
use Rattle.exports.specs.Codes.{length_by, desk_length}

pub length-out : (length : Sizes → ℕ) (s : Sizes) → sizes_good s ≡ false → length_by length s ≡ 0
unfolding length_by
length-out length s h = rw h

pub length-in : (length : Sizes → ℕ) (s : Sizes) → sizes_good s ≡ true → length_by length s ≡ length s
unfolding length_by
length-in length s h = rw h

pub desk-out : (n room : ℕ) → ids_good n ≡ false → desk_length n room ≡ 0
unfolding desk_length
desk-out n room h = rw h

pub desk-in : (n room : ℕ) → ids_good n ≡ true → desk_length n room ≡ desk_len n room
unfolding desk_length
desk-in n room h = rw h

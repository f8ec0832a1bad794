-- A desk after one place was written: the position and mark of that id are the new ones, those of every other id are as they were. Assumes nothing.
use Prim.Native.Nat.{ℕ, ◌+◌, ◌-◌, ◌<◌, ◌≤◌}
use mathlib.Core.Path.{◌≡◌, sym, ap, ◌∙◌}
use mathlib.Core.Logic.{◌≢◌}
use mathlib.Core.List.{List}
use native.Mathlib.Omega.{arith}
use lib.ListN.{length, get_or}
use Rattle.words.specs.Numbers.{number}
use Rattle.words.proofs.Splice.{length_part}
use Rattle.sizes.specs.Sizes.{d_len}
use Rattle.desk.specs.declared.Shape.{Shape}
use Rattle.desk.specs.Layout.{d_at, e_at, shape_len, body_d, ids_of, shape_of, place_at, mark_in}
use Rattle.desk.specs.Readers.{position_of, mark_of}
use Rattle.desk.specs.Parts.{Parts, parts_of, to_place}
use Rattle.desk.proofs.Changed.{Changed, unchanged}
use Rattle.desk.proofs.Read.{read-position, read-mark}
use Rattle.desk.proofs.Places.{position-self, position-other, mark-self, mark-other}

module _ (desk : List ℕ) (size : length desk ≡ shape_len (shape_of desk)) (id leaf mark : ℕ) (low : 1 ≤ id) (high : id ≤ ids_of desk) where
  abbrev h : Shape
  h = shape_of desk

  abbrev d : List ℕ
  d = body_d h desk

  pub places-long : d_len (ids_of desk) ≤ length (body_d (shape_of desk) desk)
  places-long = omega (arith, length_part desk (d_at h) (e_at h - d_at h) (omega arith))

  module _ {ys : List ℕ} {v : Parts} (c : Changed desk ys v) (e : v.places ≡ (to_place id leaf mark (parts_of desk)).places) where
    pub moved-self : leaf < 65536 → position_of ys id ≡ leaf
    moved-self l =
        read-position c id low high ∙ ap (λ (p : List ℕ). number 2 p (place_at id)) e
        ∙ position-self d (ids_of desk) id leaf mark places-long low high l

    pub moved_other : (u : ℕ) → 1 ≤ u → u ≤ ids_of desk → u ≢ id → position_of ys u ≡ position_of desk u
    moved_other u g l n =
        read-position c u g l ∙ ap (λ (p : List ℕ). number 2 p (place_at u)) e
        ∙ position-other d (ids_of desk) id leaf mark places-long low high u g n ∙ sym (read-position (unchanged desk) u g l)

    pub marked-self : mark_of ys id ≡ mark
    marked-self =
        read-mark c id low high ∙ ap (λ (p : List ℕ). get_or p (place_at id + mark_in) 0) e
        ∙ mark-self d (ids_of desk) id leaf mark places-long low high

    pub marked_other : (u : ℕ) → 1 ≤ u → u ≤ ids_of desk → u ≢ id → mark_of ys u ≡ mark_of desk u
    marked_other u g l n =
        read-mark c u g l ∙ ap (λ (p : List ℕ). get_or p (place_at u + mark_in) 0) e
        ∙ mark-other d (ids_of desk) id leaf mark places-long low high u g n ∙ sym (read-mark (unchanged desk) u g l)

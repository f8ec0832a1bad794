-- Where the parts of a desk stand: contents first, then five bodies without gaps. Offsets follow from the lengths, over any shape. Assumes nothing.
use Rattle.std.specs.Prelude.{ℕ, ◌+◌, ◌*◌, ◌-◌, ◌≤◌, ◌≡◌, List, ◌++◌, length, get_or, drop}
use Rattle.words.specs.Bytes.{part}
use Rattle.words.specs.Numbers.{number, bytes_of}
use Rattle.sizes.specs.Sizes.{most_ids, record_len, contents_len, a_len, key_len, b_len, request_head, place_len, d_len, count_len}
use Rattle.slots.specs.Slots.{slot_by}
use Rattle.desk.specs.declared.Shape.{Shape}

-- ---- bodies (a) to (e): where each starts, and its length

abbrev pub a_at : ℕ
a_at = contents_len

abbrev pub b_at : ℕ
b_at = a_at + a_len

abbrev pub c_at : Shape → ℕ
c_at h = b_at + h.b

abbrev pub c_len : Shape → ℕ
c_len h = request_head + h.r

abbrev pub d_at : Shape → ℕ
d_at h = c_at h + c_len h

abbrev pub e_at : Shape → ℕ
e_at h = d_at h + d_len h.n

-- slot i of body (e)
abbrev pub slot_at : Shape → ℕ → ℕ
slot_at h i = count_len + slot_by h.r * i

abbrev pub e_len : Shape → ℕ
e_len h = slot_at h h.s

-- the whole desk
abbrev pub shape_len : Shape → ℕ
shape_len h = e_at h + e_len h

abbrev pub body_c : Shape → List ℕ → List ℕ
body_c h desk = part desk (c_at h) (d_at h - c_at h)

abbrev pub body_d : Shape → List ℕ → List ℕ
body_d h desk = part desk (d_at h) (e_at h - d_at h)

abbrev pub body_e : Shape → List ℕ → List ℕ
body_e h desk = drop (e_at h) desk

-- a shape with lengths in range
pub record Small (h : Shape) : Type 0 where
  pub b : h.b ≤ b_len
  pub r : h.r ≤ record_len
  pub n : h.n ≤ most_ids
  pub s : h.s ≤ 255

-- ---- contents: a pair of offset and length for each body, 4 bytes each

abbrev pub pair : ℕ → ℕ → List ℕ
pair at len = bytes_of 4 at ++ bytes_of 4 len

abbrev pub pair_len : ℕ
pair_len = 8

unfoldable pub contents : Shape → List ℕ
contents h = (((pair a_at a_len ++ pair b_at h.b) ++ pair (c_at h) (c_len h)) ++ pair (d_at h) (d_len h.n)) ++ pair (e_at h) (e_len h)

-- ---- (a) L, Z, S, status, root written, zero, N in 2

abbrev pub height_at : ℕ
height_at = a_at

abbrev pub slots_at : ℕ
slots_at = a_at + 1

abbrev pub room_at : ℕ
room_at = a_at + 2

abbrev pub status_at : ℕ
status_at = a_at + 3

abbrev pub written_at : ℕ
written_at = a_at + 4

abbrev pub zero_at : ℕ
zero_at = a_at + 5

abbrev pub ids_at : ℕ
ids_at = a_at + 6

abbrev pub ids_of : List ℕ → ℕ
ids_of desk = number 2 desk ids_at

abbrev pub room_of : List ℕ → ℕ
room_of desk = get_or desk room_at 0

-- the shape of a desk with n ids and room stash slots
abbrev pub shape_by : ℕ → ℕ → Shape
shape_by n room = record { b = b_len; r = record_len; n = n; s = room }

-- the shape that a desk's own bytes name
abbrev pub shape_of : List ℕ → Shape
shape_of desk = shape_by (ids_of desk) (room_of desk)

-- a desk with its own length, and lengths in range
pub record Whole (desk : List ℕ) : Type 0 where
  pub size : length desk ≡ shape_len (shape_of desk)
  pub small : Small (shape_of desk)

-- ---- (b) key, root digest

abbrev pub root_at : ℕ
root_at = b_at + key_len

-- ---- (c) kind, zero, id 2, new leaf 2, two zeros, record

abbrev pub kind_in : ℕ
kind_in = 0

abbrev pub zero_in : ℕ
zero_in = 1

abbrev pub id_in : ℕ
id_in = 2

abbrev pub new_leaf_in : ℕ
new_leaf_in = 4

abbrev pub zeros_in : ℕ
zeros_in = 6

-- ---- (d) for each id, from 1 on: leaf 2, mark 1

abbrev pub place_at : ℕ → ℕ
place_at id = place_len * (id - 1)

abbrev pub mark_in : ℕ
mark_in = 2

-- What a desk says, field by field. Assumes nothing.
use Rattle.std.specs.Prelude.{ℕ, ◌+◌, Bool, List, get_or, drop, eqb}
use Rattle.words.specs.Bytes.{part}
use Rattle.words.specs.Numbers.{number}
use Rattle.sizes.specs.declared.Sizes.{Sizes}
use Rattle.sizes.specs.Sizes.{sized, key_len, digest_len, request_head, count_len, leaf_in}
use Rattle.slots.specs.Slots.{Block, blocks_by}
use Rattle.desk.specs.declared.Kind.{Kind}
use Rattle.desk.specs.Layout.{b_at, c_at, d_at, e_at, slot_at, height_at, slots_at, status_at, written_at, shape_of, root_at, kind_in, id_in, new_leaf_in, place_at, mark_in}
use Rattle.desk.specs.Numbers.{kind_from}

-- ---- (a); `ids_of` (N), `room_of` (S) and `shape_of` stand with the layout, which depends on them

abbrev pub height_of : List ℕ → ℕ
height_of desk = get_or desk height_at 0

abbrev pub slots_in : List ℕ → ℕ
slots_in desk = get_or desk slots_at 0

abbrev pub sizes_of : List ℕ → Sizes
sizes_of desk = sized (height_of desk) (slots_in desk)

abbrev pub status_of : List ℕ → ℕ
status_of desk = get_or desk status_at 0

abbrev pub written_of : List ℕ → ℕ
written_of desk = get_or desk written_at 0

abbrev pub is_written : List ℕ → Bool
is_written desk = eqb (written_of desk) 1

-- ---- (b)

abbrev pub key_of : List ℕ → List ℕ
key_of desk = part desk b_at key_len

abbrev pub root_of : List ℕ → List ℕ
root_of desk = part desk root_at digest_len

-- ---- (c): the open request

abbrev pub kind_byte : List ℕ → ℕ
kind_byte desk = get_or desk (c_at (shape_of desk) + kind_in) 0

abbrev pub kind_asked : List ℕ → Kind
kind_asked desk = kind_from (kind_byte desk)

abbrev pub id_asked : List ℕ → ℕ
id_asked desk = number 2 desk (c_at (shape_of desk) + id_in)

abbrev pub new_leaf : List ℕ → ℕ
new_leaf desk = number 2 desk (c_at (shape_of desk) + new_leaf_in)

abbrev pub record_asked : List ℕ → List ℕ
record_asked desk = part desk (c_at (shape_of desk) + request_head) (shape_of desk).r

-- ---- (d)

abbrev pub position_of : List ℕ → ℕ → ℕ
position_of desk id = number 2 desk (d_at (shape_of desk) + place_at id)

abbrev pub mark_of : List ℕ → ℕ → ℕ
mark_of desk id = get_or desk (d_at (shape_of desk) + place_at id + mark_in) 0

abbrev pub is_marked : List ℕ → ℕ → Bool
is_marked desk id = eqb (mark_of desk id) 1

-- the leaf that was asked for
abbrev pub leaf_asked : List ℕ → ℕ
leaf_asked desk = position_of desk (id_asked desk)

-- ---- (e)

abbrev pub stash_count : List ℕ → ℕ
stash_count desk = number 2 desk (e_at (shape_of desk))

-- id and leaf of slot i, from 0 on
abbrev pub stash_id : List ℕ → ℕ → ℕ
stash_id desk i = number 2 desk (e_at (shape_of desk) + slot_at (shape_of desk) i)

abbrev pub stash_leaf : List ℕ → ℕ → ℕ
stash_leaf desk i = number 2 desk (e_at (shape_of desk) + slot_at (shape_of desk) i + leaf_in)

-- the blocks of the slots in use
abbrev pub stash_of : List ℕ → List Block
stash_of desk = blocks_by (shape_of desk).r (stash_count desk) (drop (e_at (shape_of desk) + count_len) desk)

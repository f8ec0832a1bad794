-- Sizes: the server's side follows from the height L and the slots of a bucket Z alone; the desk's length from N and S. Assumes nothing.
use Rattle.std.specs.Prelude.{ℕ, suc, ◌+◌, ◌*◌, ◌-◌, ◌/◌, ◌%◌, ◌^◌, ◌≤◌, Bool, cond, ◌&&◌, List, ltb, leb}
use Rattle.words.specs.Bytes.{part}
use Rattle.sizes.specs.declared.Sizes.{Sizes}

abbrev pub sized : ℕ → ℕ → Sizes
sized l z = record { height = l; slots = z }

-- ---- the limits

abbrev pub most_height : ℕ
most_height = 12

abbrev pub most_slots : ℕ
most_slots = 8

-- S is one byte
abbrev pub most_room : ℕ
most_room = 255

abbrev pub most_ids : ℕ
most_ids = 4096

-- L is 1 to 12, Z is 1 to 8: as a test, and one by one
abbrev pub sizes_good : Sizes → Bool
sizes_good s = leb 1 s.height && leb s.height most_height && leb 1 s.slots && leb s.slots most_slots

pub record InRange (s : Sizes) : Type 0 where
  pub height_low : 1 ≤ s.height
  pub height_high : s.height ≤ most_height
  pub slots_low : 1 ≤ s.slots
  pub slots_high : s.slots ≤ most_slots

-- N is 1 to 4,096
abbrev pub ids_good : ℕ → Bool
ids_good n = leb 1 n && leb n most_ids

-- a leaf is below this
abbrev pub leaves : Sizes → ℕ
leaves s = 2 ^ s.height

-- ---- slot: id 2, leaf 2, record

abbrev pub record_len : ℕ
record_len = 64

abbrev pub slot_head : ℕ
slot_head = 4

abbrev pub leaf_in : ℕ
leaf_in = 2

abbrev pub slot_len : ℕ
slot_len = slot_head + record_len

-- ---- item: counter, slots, and, of an inner one, a flag for each child, then a digest for each. Side 0 is left, side 1 is right

abbrev pub counter_len : ℕ
counter_len = 8

abbrev pub flags_len : ℕ
flags_len = 2

abbrev pub digest_len : ℕ
digest_len = 32

abbrev pub header_len : ℕ
header_len = counter_len + flags_len + 2 * digest_len

abbrev pub slots_len : Sizes → ℕ
slots_len s = slot_len * s.slots

abbrev pub leaf_len : Sizes → ℕ
leaf_len s = counter_len + slots_len s

abbrev pub inner_len : Sizes → ℕ
inner_len s = header_len + slots_len s

abbrev pub flag_at : Sizes → ℕ → ℕ
flag_at s side = leaf_len s + side

abbrev pub digest_at : Sizes → ℕ → ℕ
digest_at s side = leaf_len s + flags_len + digest_len * side

-- ---- path: L inner items from the root, then one leaf item

abbrev pub item_len : Sizes → ℕ → ℕ
item_len s k = cond (ltb k s.height) (inner_len s) (leaf_len s)

abbrev pub item_at : Sizes → ℕ → ℕ
item_at s k = k * inner_len s

abbrev pub path_len : Sizes → ℕ
path_len s = item_at s s.height + leaf_len s

abbrev pub item_of : Sizes → List ℕ → ℕ → List ℕ
item_of s path k = part path (item_at s k) (item_len s k)

-- the longest path
abbrev pub most_path : ℕ
most_path = 7968

-- ---- buckets: 0 is the root, b has the children 2b + 1 and 2b + 2

abbrev pub child : ℕ → ℕ → ℕ
child b side = 2 * b + 1 + side

-- the bucket at place j of level k; at level k of the path to a leaf: the place, the bucket, and the side on which the path goes on
abbrev pub bucket_no : ℕ → ℕ → ℕ
bucket_no k j = 2 ^ k - 1 + j

abbrev pub place_in : Sizes → ℕ → ℕ → ℕ
place_in s leaf k = leaf / 2 ^ (s.height - k)

abbrev pub bucket_at : Sizes → ℕ → ℕ → ℕ
bucket_at s leaf k = bucket_no k (place_in s leaf k)

abbrev pub side_at : Sizes → ℕ → ℕ → ℕ
side_at s leaf k = leaf / 2 ^ (s.height - suc k) % 2

-- ---- tree: items in bucket order, inner ones first

abbrev pub inners : Sizes → ℕ
inners s = 2 ^ s.height - 1

abbrev pub tree_at : Sizes → ℕ → ℕ
tree_at s b = cond (ltb b (inners s)) (b * inner_len s) (inners s * inner_len s + (b - inners s) * leaf_len s)

abbrev pub bucket_len : Sizes → ℕ → ℕ
bucket_len s b = cond (ltb b (inners s)) (inner_len s) (leaf_len s)

-- the item of bucket b, and the number of buckets
abbrev pub bucket_in : Sizes → List ℕ → ℕ → List ℕ
bucket_in s tree b = part tree (tree_at s b) (bucket_len s b)

abbrev pub bucket_count : Sizes → ℕ
bucket_count s = inners s + leaves s

abbrev pub tree_len : Sizes → ℕ
tree_len s = inners s * inner_len s + leaves s * leaf_len s

-- ---- desk: contents of five pairs of numbers of 4 bytes, then five bodies

abbrev pub contents_len : ℕ
contents_len = 5 * (4 + 4)

-- (a) L, Z, S, status, root written, zero, N in 2
abbrev pub a_len : ℕ
a_len = 8

-- (b) key, root digest
abbrev pub key_len : ℕ
key_len = 32

abbrev pub b_len : ℕ
b_len = key_len + digest_len

-- (c) the open request: kind, zero, id 2, new leaf 2, two zeros; record
abbrev pub request_head : ℕ
request_head = 8

-- (d) for each id: leaf 2, mark 1
abbrev pub place_len : ℕ
place_len = 3

abbrev pub d_len : ℕ → ℕ
d_len n = place_len * n

-- (e) stash count 2, then S slots
abbrev pub count_len : ℕ
count_len = 2

abbrev pub desk_len : ℕ → ℕ → ℕ
desk_len n room = contents_len + a_len + b_len + (request_head + record_len) + d_len n + (count_len + slot_len * room)

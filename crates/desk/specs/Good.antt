-- When a desk is good: as conditions, one by one in the paper's words, and as the test that the contracts use. Assumes nothing.
use Rattle.std.specs.Prelude.{ℕ, zero, suc, ◌+◌, ◌*◌, ◌≤◌, ◌<◌, ◌≡◌, Bool, cond, ◌&&◌, ◌||◌, List, [], ◌∷◌, length, get_or, drop, leb, ltb, eqb}
use Rattle.words.specs.Bytes.{part, zeros, same}
use Rattle.words.specs.Numbers.{number}
use Rattle.words.specs.Tests.{all, all_zero, every}
use Rattle.sizes.specs.Sizes.{most_height, most_slots, most_ids, sizes_good, ids_good, leaves, desk_len, contents_len, request_head, place_len, leaf_in}
use Rattle.desk.specs.declared.Shape.{Shape}
use Rattle.desk.specs.declared.Kind.TheVariants.{Read, Write}
use Rattle.desk.specs.Layout.{b_at, c_at, c_len, e_at, slot_at, shape_len, body_c, body_d, body_e, contents, zero_at, ids_of, room_of, shape_of, kind_in, zero_in, id_in, new_leaf_in, zeros_in, place_at, mark_in}
use Rattle.desk.specs.Readers.{height_of, slots_in, sizes_of, status_of, written_of, kind_byte, id_asked, new_leaf, record_asked, position_of, mark_of, stash_count, stash_id, stash_leaf}
use Rattle.desk.specs.Numbers.{kind_of}
use Rattle.desk.specs.Status.{ready_status, most_status}

-- ---- the conditions

pub record Good (desk : List ℕ) : Type 0 where
  -- its length is at least 48 and is the one that its own N and S give
  pub long_enough : 48 ≤ length desk
  pub own_length : length desk ≡ desk_len (ids_of desk) (room_of desk)
  -- the contents are exactly the computed ones
  pub computed_contents : part desk 0 contents_len ≡ contents (shape_of desk)
  -- L, Z, N and status are in range
  pub height_low : 1 ≤ height_of desk
  pub height_high : height_of desk ≤ most_height
  pub slots_low : 1 ≤ slots_in desk
  pub slots_high : slots_in desk ≤ most_slots
  pub ids_low : 1 ≤ ids_of desk
  pub ids_high : ids_of desk ≤ most_ids
  pub status_high : status_of desk ≤ most_status
  -- root written and marks are 0 or 1
  pub root_written : written_of desk ≤ 1
  pub every_mark : (id : ℕ) → 1 ≤ id → id ≤ ids_of desk → mark_of desk id ≤ 1
  -- named zero bytes are zero: that of body (a), and those of body (c)
  pub zero_byte : get_or desk zero_at 0 ≡ 0
  pub request_zero : get_or desk (c_at (shape_of desk) + zero_in) 0 ≡ 0
  pub request_zeros : number 2 desk (c_at (shape_of desk) + zeros_in) ≡ 0
  -- every position is a leaf
  pub every_position : (id : ℕ) → 1 ≤ id → id ≤ ids_of desk → position_of desk id < leaves (sizes_of desk)
  -- the stash count is at most S; its ids rise strictly, are 1 to N, are marked, and carry their position's leaf
  pub count_high : stash_count desk ≤ room_of desk
  pub ids_rise : (i : ℕ) → suc i < stash_count desk → stash_id desk i < stash_id desk (suc i)
  pub id_low : (i : ℕ) → i < stash_count desk → 1 ≤ stash_id desk i
  pub id_high : (i : ℕ) → i < stash_count desk → stash_id desk i ≤ ids_of desk
  pub id_marked : (i : ℕ) → i < stash_count desk → mark_of desk (stash_id desk i) ≡ 1
  pub id_carries : (i : ℕ) → i < stash_count desk → stash_leaf desk i ≡ position_of desk (stash_id desk i)
  -- unused stash slots are zero
  pub unused_zero : (i : ℕ) → e_at (shape_of desk) + slot_at (shape_of desk) (stash_count desk) ≤ i → i < length desk → get_or desk i 0 ≡ 0
  -- body (c) is all zero at status 0
  pub ready_zero : status_of desk ≡ ready_status → body_c (shape_of desk) desk ≡ zeros (c_len (shape_of desk))
  -- at any other status its kind is 0 or 1, its id is 1 to N, its leaf is in range, and its record is zero for a read
  pub asked_kind : (status_of desk ≡ ready_status → ⊥) → kind_byte desk ≤ 1
  pub asked_low : (status_of desk ≡ ready_status → ⊥) → 1 ≤ id_asked desk
  pub asked_high : (status_of desk ≡ ready_status → ⊥) → id_asked desk ≤ ids_of desk
  pub asked_leaf : (status_of desk ≡ ready_status → ⊥) → new_leaf desk < leaves (sizes_of desk)
  pub read_zero : (status_of desk ≡ ready_status → ⊥) → kind_byte desk ≡ kind_of Read → record_asked desk ≡ zeros (shape_of desk).r

-- ---- the test

-- body (a): L, Z, N, status, root written and the zero byte
abbrev pub head_tests : List ℕ → List Bool
head_tests desk =
    sizes_good (sizes_of desk)
    ∷ ids_good (ids_of desk)
    ∷ leb (status_of desk) most_status
    ∷ leb (written_of desk) 1
    ∷ eqb (get_or desk zero_at 0) 0
    ∷ []

unfoldable pub head_good : List ℕ → Bool
head_good desk = every (head_tests desk)

-- body (c) at any status but 0
abbrev pub open_tests : ℕ → ℕ → List ℕ → List Bool
open_tests most n c =
    leb (get_or c kind_in 0) 1
    ∷ eqb (get_or c zero_in 0) 0
    ∷ leb 1 (number 2 c id_in)
    ∷ leb (number 2 c id_in) n
    ∷ ltb (number 2 c new_leaf_in) most
    ∷ eqb (number 2 c zeros_in) 0
    ∷ (eqb (get_or c kind_in 0) (kind_of Write) || all_zero (drop request_head c))
    ∷ []

unfoldable pub open_good : ℕ → ℕ → List ℕ → Bool
open_good most n c = every (open_tests most n c)

-- body (c)
unfoldable pub request_good : ℕ → ℕ → ℕ → List ℕ → Bool
request_good status most n c = cond (eqb status ready_status) (all_zero c) (open_good most n c)

-- body (d): each position is a leaf, each mark 0 or 1; places count from 0 here
abbrev pub place_good : ℕ → List ℕ → ℕ → Bool
place_good most d i = ltb (number 2 d (place_len * i)) most && leb (get_or d (place_len * i + mark_in) 0) 1

unfoldable pub places_good : ℕ → ℕ → List ℕ → Bool
places_good most n d = all n (place_good most d)

-- body (e): the id of slot i, and that of the slot before, 0 before the first
abbrev pub id_at : Shape → List ℕ → ℕ → ℕ
id_at h e i = number 2 e (slot_at h i)

abbrev pub id_before : Shape → List ℕ → ℕ → ℕ
id_before h e zero = 0
id_before h e (suc i) = id_at h e i

-- a slot in use, after one with id `last`: its id is above that, at most N, marked, and carries its position's leaf
unfoldable pub slot_after : ℕ → Shape → List ℕ → List ℕ → ℕ → Bool
slot_after last h d e i =
    ltb last (id_at h e i) && leb (id_at h e i) h.n
    && eqb (get_or d (place_at (id_at h e i) + mark_in) 0) 1
    && eqb (number 2 e (slot_at h i + leaf_in)) (number 2 d (place_at (id_at h e i)))

abbrev pub slot_good : Shape → List ℕ → List ℕ → ℕ → Bool
slot_good h d e i = slot_after (id_before h e i) h d e i

-- the count is at most S, the slots in use are good, the others are zero
unfoldable pub stash_good : Shape → List ℕ → List ℕ → Bool
stash_good h d e = leb (number 2 e 0) h.s && all (number 2 e 0) (slot_good h d e) && all_zero (drop (slot_at h (number 2 e 0)) e)

-- the bodies (c), (d) and (e) under the sizes and the status of body (a)
abbrev pub bodies_tests : ℕ → Shape → ℕ → List ℕ → List Bool
bodies_tests most h status desk =
    request_good status most h.n (body_c h desk) ∷ places_good most h.n (body_d h desk) ∷ stash_good h (body_d h desk) (body_e h desk) ∷ []

unfoldable pub bodies_good : ℕ → Shape → ℕ → List ℕ → Bool
bodies_good most h status desk = every (bodies_tests most h status desk)

-- a good desk
abbrev pub desk_tests : List ℕ → List Bool
desk_tests desk =
    leb b_at (length desk)
    ∷ head_good desk
    ∷ eqb (length desk) (shape_len (shape_of desk))
    ∷ same (part desk 0 contents_len) (contents (shape_of desk))
    ∷ bodies_good (leaves (sizes_of desk)) (shape_of desk) (status_of desk) desk
    ∷ []

unfoldable pub good_desk : List ℕ → Bool
good_desk desk = every (desk_tests desk)

-- What is changed in a desk, one field or body at a time, and by an accepted request. Assumes nothing.
use Rattle.std.specs.Prelude.{ℕ, ◌+◌, ◌*◌, ◌-◌, List, [], ◌∷◌, ◌++◌, length, set}
use Rattle.words.specs.Bytes.{splice, zeros}
use Rattle.words.specs.Numbers.{bytes_of}
use Rattle.slots.specs.Slots.{Block, slot_by, slots_bytes}
use Rattle.desk.specs.declared.Shape.{Shape}
use Rattle.desk.specs.Layout.{c_at, c_len, d_at, e_at, shape_of, root_at, written_at, place_at}
use Rattle.desk.specs.Status.{ready_status, at_status}

-- body (c)
unfoldable pub with_request : List ℕ → List ℕ → List ℕ
with_request request desk = splice desk (c_at (shape_of desk)) request

-- an id's position and mark
unfoldable pub with_place : ℕ → ℕ → ℕ → List ℕ → List ℕ
with_place id leaf mark desk = splice desk (d_at (shape_of desk) + place_at id) (bytes_of 2 leaf ++ (mark ∷ []))

-- the root digest; root written becomes 1
unfoldable pub with_root : List ℕ → List ℕ → List ℕ
with_root digest desk = set (splice desk root_at digest) written_at 1

-- body (e) of blocks: their count, their slots, zeros
unfoldable pub stash_bytes : Shape → List Block → List ℕ
stash_bytes h bs = bytes_of 2 (length bs) ++ (slots_bytes bs ++ zeros (slot_by h.r * (h.s - length bs)))

unfoldable pub with_stash : List Block → List ℕ → List ℕ
with_stash bs desk = splice desk (e_at (shape_of desk)) (stash_bytes (shape_of desk) bs)

-- the request cleared, at status 0
abbrev pub closed : List ℕ → List ℕ
closed desk = at_status ready_status (with_request (zeros (c_len (shape_of desk))) desk)

-- what an accepted request leaves: its id's position and mark, the stash, root digest and root written; and no request
unfoldable pub settled : ℕ → ℕ → ℕ → List Block → List ℕ → List ℕ → List ℕ
settled id leaf mark stash root desk = closed (with_root root (with_stash stash (with_place id leaf mark desk)))

-- A list whose elements are replaced from the front, one a turn: `now` has the first i of z, and of s the rest. Assumes nothing.
use Rattle.std.proofs.Common.{◌≡◌, ℕ, ◌+◌, ◌<◌, ◌≤◌, List, length, get_or, take, set, sym, ap, ◌∙◌, zero-add, arith, length-take-le, take_all}
use Rattle.words.specs.Bytes.{splice}
use Rattle.words.proofs.Splice.{splice-turn, splice-whole, splice-nil, get_d-splice-after}

abbrev pub front : ℕ → List ℕ → List ℕ → List ℕ
front i z s = splice s 0 (take i z)

pub front-none : (z s : List ℕ) → s ≡ front 0 z s
front-none z s = sym (splice-nil s 0)

-- the element at i is that of s yet
pub front_read : (i : ℕ) (z s now : List ℕ) → i ≤ length z → now ≡ front i z s → get_or now i 0 ≡ get_or s i 0
front_read i z s now h e =
    ap (λ (l : List ℕ). get_or l i 0) e ∙ get_d-splice-after s 0 (take i z) i (omega (arith, length-take-le i z h)) (omega arith)

-- a store of the new element there is one more
pub front-turn : (i v : ℕ) (z s now : List ℕ) → i < length z → length z ≤ length s → v ≡ get_or z i 0 → now ≡ front i z s → set now i v ≡ front (i + 1) z s
front-turn i v z s now h k e f = rw zero-add at (splice-turn s 0 i v z now h (omega arith) e f)

-- at the end it is z
pub front-all : (i : ℕ) (z s now : List ℕ) → length z ≤ i → length z ≡ length s → now ≡ front i z s → now ≡ z
front-all i z s now h k e = e ∙ ap (λ (l : List ℕ). splice s 0 l) (take_all i z h) ∙ splice-whole s z k

-- Reading in pieces: the text goes to the window's front unchanged, a line that was read whole stays what it is whatever follows, and the lines that
-- are handed out one by one are those of the script. Assumes nothing.
use Prim.Native.Nat.{ℕ, zero, suc, ◌+◌, ◌≤◌, ◌<◌}
use mathlib.Core.Path.{◌≡◌, refl, sym, ap, ◌∙◌}
use mathlib.Core.List.{List, [], ◌∷◌, ◌++◌}
use native.Mathlib.Nat.{zero-add}
use native.Mathlib.Numerals.{add-one}
use native.Mathlib.Omega.{arith}
use lib.ListN.{length, take, drop, get_or, set, length-append, length-drop, drop_of_length-le}
use lib.Dec.{eqb}
use lib.Seq.{length-take-le, drop-append-le}
use Rattle.words.specs.Bytes.{part, splice}
use Rattle.words.proofs.Splice.{splice-turn, get_d-splice-after, get_d_part, length_part}
use Rattle.words.proofs.Tests.{by_cases}
use Rattle.text.specs.Text.{line_feed}
use Rattle.text.specs.Fronts.{before}
use Rattle.window.specs.Pieces.{line_len, lines_up_to, lines_of}

-- ---- one byte more at the window's front

pub shift-turn : (xs now : List ℕ) (from n i : ℕ) → i < n → from + n ≤ length xs → now ≡ splice xs 0 (take i (part xs from n))
    → set now i (get_or now (from + i) 0) ≡ splice xs 0 (take (i + 1) (part xs from n))
shift-turn xs now from n i h k e =
    let l : length (part xs from n) ≡ n = length_part xs from n k in
    let m : length (take i (part xs from n)) ≡ i = length-take-le i (part xs from n) (omega arith) in
    let v : get_or now (from + i) 0 ≡ get_or (part xs from n) i 0 =
    ap (λ (x : List ℕ). get_or x (from + i) 0) e ∙ get_d-splice-after xs 0 (take i (part xs from n)) (from + i) (omega arith) (omega arith) ∙ sym (get_d_part xs from n i h) in
    ap (λ (j : ℕ). set now j (get_or now (from + i) 0)) (sym (zero-add i))
    ∙ splice-turn xs 0 i (get_or now (from + i) 0) (part xs from n) now (omega arith) (omega arith) v e

-- ---- a line that ends in the text that was read is the same in any longer text

pub line_stays : (b : ℕ) (xs ys : List ℕ) → length (before b xs) < length xs → before b (xs ++ ys) ≡ before b xs
unfolding before
line_stays b [] ys h = absurd (omega arith)
line_stays b (x ∷ xs) ys h =
    by_cases (eqb x b)
    (λ e. rw e)
    (λ e. rw e (ap (λ (l : List ℕ). x ∷ l) (line_stays b xs ys (omega (arith, rw e at h)))))

-- the whole text is one line where it has no line feed
no-feed : (b : ℕ) (xs : List ℕ) → length xs ≤ length (before b xs) → before b xs ≡ xs
unfolding before
no-feed b [] h = refl
no-feed b (x ∷ xs) h =
    by_cases (eqb x b)
    (λ e. absurd (omega (arith, rw e at h)))
    (λ e. rw e (ap (λ (l : List ℕ). x ∷ l) (no-feed b xs (omega (arith, rw e at h)))))

-- ---- the lines of a text, one by one

-- any count that is large enough gives the same
enough : (n m : ℕ) (xs : List ℕ) → length xs ≤ n → length xs ≤ m → lines_up_to n xs ≡ lines_up_to m xs
unfolding lines_up_to
enough zero zero xs h k = refl
enough zero (suc m) [] h k = refl
enough zero (suc m) (x ∷ xs) h k = absurd (omega arith)
enough (suc n) zero [] h k = refl
enough (suc n) zero (x ∷ xs) h k = absurd (omega arith)
enough (suc n) (suc m) [] h k = refl
enough (suc n) (suc m) (x ∷ xs) h k =
    let l = length-drop (suc (line_len (x ∷ xs))) (x ∷ xs) in
    ap (λ (ls : List (List ℕ)). before line_feed (x ∷ xs) ∷ ls) (enough n m (drop (suc (line_len (x ∷ xs))) (x ∷ xs)) (omega arith) (omega arith))

pub next : (xs : List ℕ) → 0 < length xs → lines_of xs ≡ before line_feed xs ∷ lines_of (drop (suc (line_len xs)) xs)
unfolding lines_up_to
next [] h = absurd (omega arith)
next (x ∷ xs) h =
    let l = length-drop (suc (line_len (x ∷ xs))) (x ∷ xs) in
    ap (λ (ls : List (List ℕ)). before line_feed (x ∷ xs) ∷ ls)
    (enough (length xs) (length (drop (suc (line_len (x ∷ xs))) (x ∷ xs))) (drop (suc (line_len (x ∷ xs))) (x ∷ xs)) (omega arith) (omega arith))

-- A line that ends in the text xs that was read is the script's next one, whatever text ys is still to come.
pub line-handed : (xs ys : List ℕ) → line_len xs < length xs → lines_of (xs ++ ys) ≡ before line_feed xs ∷ lines_of (drop (line_len xs + 1) xs ++ ys)
line-handed xs ys h =
    let e : before line_feed (xs ++ ys) ≡ before line_feed xs = line_stays line_feed xs ys h in
    next (xs ++ ys) (omega (arith, length-append xs ys))
    ∙ rw (e, add-one, drop-append-le (suc (line_len xs)) xs ys (omega arith))

-- What is left at the end, if it has no line feed, is the last line.
pub last-handed : (xs : List ℕ) → 0 < length xs → length xs ≤ line_len xs → lines_of xs ≡ xs ∷ []
unfolding lines_up_to
last-handed xs h k = next xs h ∙ rw (no-feed line_feed xs k, drop_of_length-le xs {i = suc (length xs)} (omega arith))

-- Nothing is no line.
pub none-handed : lines_of [] ≡ []
unfolding lines_up_to
none-handed = refl

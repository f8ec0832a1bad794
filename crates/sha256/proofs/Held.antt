-- What each step of a `Hasher` keeps: `Grown` for the three kinds of parts and for one part after another, and the end. Assumes nothing.
use Rattle.std.proofs.Common.{◌≡◌, ℕ, suc, ◌+◌, ◌-◌, ◌*◌, ◌/◌, ◌%◌, ◌^◌, ◌<◌, ◌≤◌, List, ◌++◌, length, take, drop, sym, refl, ap, ◌∙◌, subst, append_assoc, add_assoc, arith, length-append, length-drop, take-append-drop, drop_of_length-le, length-take, length-take-le, take_all, take-add}
use lib.Seq.{drop-append-le}
use Rattle.words.specs.Bytes.{part, splice}
use Rattle.words.proofs.Splice.{length_part}
use Rattle.digest_sha2.specs.Sha2.{after, padding, all_bytes, digest}
use Rattle.digest_sha2.specs.Sha256.{v256, H256, sha256}
use Rattle.digest_sha2.proofs.Blocks.{after-prefix, after-take, after-append}
use Rattle.digest_sha2.proofs.Bytes.{take-spliced}
use Rattle.sha256.specs.Stream.{Holds, Grown}
use Rattle.sha256.specs.declared.stream.Hasher.{Hasher}
use Rattle.sha256.proofs.Padded.{padding-wrap}

-- ---- counting modulo 2 ^ 64

wrap-add : (a t n k : ℕ) → a ≡ n % 2 ^ 64 → t ≡ (a + k) % 2 ^ 64 → t ≡ (n + k) % 2 ^ 64
wrap-add a t n k p q = omega arith

wrap-64 : (a n : ℕ) → a ≡ n % 2 ^ 64 → a % 64 ≡ n % 64
wrap-64 a n p = omega arith

-- ---- bytes put behind those left over, in a block that has room for them

module _ (h : Hasher) (x block : List ℕ) (at total : ℕ) (place : at ≡ h.total % 64) (size : length h.block ≡ 64) (fits : h.total % 64 + length x ≤ 64)
    (laid : block ≡ splice h.block at x) (counted : total ≡ (h.total + length x) % 2 ^ 64) where
  put : take (h.total % 64 + length x) block ≡ take (h.total % 64) h.block ++ x
  put = rw (laid, ← place) (take-spliced h.block at x (at + length x) (omega arith) refl)

  module _ (bs : List ℕ) (held : Holds h bs) where
    at-is : h.total % 64 ≡ length bs % 64
    at-is = wrap-64 h.total (length bs) held.count

    long : length (bs ++ x) ≡ length bs + length x
    long = length-append bs x

    left : take (length bs % 64 + length x) block ≡ drop (64 * (length bs / 64)) (bs ++ x)
    left =
        let e : take (length bs % 64 + length x) block ≡ take (length bs % 64) h.block ++ x = rw at-is at put in
        let f : drop (64 * (length bs / 64)) (bs ++ x) ≡ drop (64 * (length bs / 64)) bs ++ x = drop-append-le (64 * (length bs / 64)) bs x (omega arith) in
        rw (e, f, held.left)

    before : after v256 H256 (length bs / 64) (bs ++ x) ≡ h.state
    before = after-prefix v256 H256 (length bs / 64) bs x (omega arith) ∙ sym held.hash

    count : total ≡ length (bs ++ x) % 2 ^ 64
    count = rw long (wrap-add h.total total (length bs) (length x) held.count counted)

    held-part : (h.total % 64 + length x ≡ 64 → ⊥) → Holds (record { state = h.state; block = block; total = total }) (bs ++ x)
    held-part no64 =
        let ne : length bs % 64 + length x ≡ 64 → ⊥ = λ e. no64 (rw at-is e) in
        let fit : length bs % 64 + length x ≤ 64 = rw at-is at fits in
        let q : length (bs ++ x) / 64 ≡ length bs / 64 = omega (arith, long) in
        let r : length (bs ++ x) % 64 ≡ length bs % 64 + length x = omega (arith, long) in
        record { hash = rw q (sym before); left = rw (q, r) left; count = count }

    held-full : (state : List ℕ) → h.total % 64 + length x ≡ 64 → state ≡ after v256 h.state 1 block → Holds (record { state = state; block = block; total = total }) (bs ++ x)
    unfolding after
    held-full state is64 s =
        let e : length bs % 64 + length x ≡ 64 = rw at-is at is64 in
        let q : length (bs ++ x) / 64 ≡ suc (length bs / 64) = omega (arith, long) in
        let r : length (bs ++ x) % 64 ≡ 0 = omega (arith, long) in
        let full : take 64 block ≡ drop (64 * (length bs / 64)) (bs ++ x) = rw e at left in
        let short : length (take 64 block) ≤ 64 = simp length-take (omega arith) in
        let whole : part (bs ++ x) (64 * (length bs / 64)) 64 ≡ take 64 block = ap (take 64) (sym full) ∙ take_all 64 (take 64 block) short in
        record {
          hash = rw (q, before, whole) s;
          left = rw (q, r) (sym (drop_of_length-le (bs ++ x) {i = 64 * suc (length bs / 64)} (omega (arith, long))));
          count = count;
        }

  pub grown-part : (h.total % 64 + length x ≡ 64 → ⊥) → Grown h x (record { state = h.state; block = block; total = total })
  grown-part no64 = record { holds = λ bs held. held-part bs held no64; total = counted }

  pub grown-full : (state : List ℕ) → h.total % 64 + length x ≡ 64 → state ≡ after v256 h.state 1 block → Grown h x (record { state = state; block = block; total = total })
  grown-full state is64 s = record { holds = λ bs held. held-full bs held state is64 s; total = counted }

-- ---- whole blocks, where none is begun

whole_is : (h : Hasher) (x : List ℕ) (n total : ℕ) (state bs : List ℕ) → length x ≡ 64 * n → length bs % 64 ≡ 0 → Holds h bs
    → total ≡ (h.total + length x) % 2 ^ 64 → state ≡ after v256 h.state n x → Holds (record { state = state; block = h.block; total = total }) (bs ++ x)
whole_is h x n total state bs l z held t s =
    let c : length (bs ++ x) ≡ length bs + length x = length-append bs x in
    let q : length (bs ++ x) / 64 ≡ length bs / 64 + n = omega arith in
    let r : length (bs ++ x) % 64 ≡ 0 = omega arith in
    let a : after v256 H256 (length bs / 64 + n) (bs ++ x) ≡ after v256 (after v256 H256 (length bs / 64) bs) n x = after-append v256 H256 (length bs / 64) n bs x (omega arith) in
    record {
      hash = rw (q, a, ← held.hash) s;
      left = rw (q, r) (sym (drop_of_length-le (bs ++ x) {i = 64 * (length bs / 64 + n)} (omega arith)));
      count = rw c (wrap-add h.total total (length bs) (length x) held.count t);
    }

pub grown-whole : (h : Hasher) (x : List ℕ) (n total : ℕ) (state : List ℕ) → h.total % 64 ≡ 0 → length x ≡ 64 * n
    → total ≡ (h.total + length x) % 2 ^ 64 → state ≡ after v256 h.state n x → Grown h x (record { state = state; block = h.block; total = total })
grown-whole h x n total state z l t s =
    record { holds = λ bs held. whole_is h x n total state bs l (sym (wrap-64 h.total (length bs) held.count) ∙ z) held t s; total = t }

-- ---- one part after another

pub grown-join : (h f r : Hasher) (x y : List ℕ) → Grown h x f → Grown f y r → Grown h (x ++ y) r
grown-join h f r x y p q =
    record {
      holds = λ bs held. rw append_assoc at (q.holds (bs ++ x) (p.holds bs held));
      total = rw (length-append, ← add_assoc) (wrap-add f.total r.total (h.total + length x) (length y) p.total q.total);
    }

-- a part that is split at a
module _ (h f : Hasher) (p x y : List ℕ) (a : ℕ) (front : x ≡ take a p) (rest : y ≡ drop a p) (first : Grown h x f) where
  pub grown-split : (r : Hasher) → Grown f y r → Grown h p r
  grown-split r next = subst (λ (l : List ℕ). Grown h l r) (rw (front, rest) (take-append-drop a p)) (grown-join h f r x y first next)

  -- nothing is behind a
  pub grown-all : length y ≡ 0 → Grown h p f
  grown-all none =
      let n : length (drop a p) ≡ 0 = rw rest at none in
      subst (λ (l : List ℕ). Grown h l f) (front ∙ take_all a p (omega (arith, length-drop a p))) first

-- the three parts of a part: the part is theirs together; the middle one begins a block and is whole blocks; the last one fits a block
module _ (p : List ℕ) (a n : ℕ) (h : a ≤ length p) (k : n ≡ (length p - a) / 64) where
  abbrev e : ℕ
  e = a + 64 * n

  pub middle-long : length (part p a (e - a)) ≡ 64 * n
  middle-long = let m : e - a ≡ 64 * n = omega arith in length_part p a (e - a) (omega arith) ∙ m

  pub rest-fits : (t u : ℕ) → t % 64 ≡ 0 → u ≡ (t + length (part p a (e - a))) % 2 ^ 64 → u % 64 + length (part p e (length p - e)) ≤ 64
  rest-fits t u z c =
      let m : u ≡ (t + 64 * n) % 2 ^ 64 = rw middle-long at c in
      rw (length_part p e (length p - e) (omega arith)) (omega arith)

  pub grown-three : (x y w r : Hasher) → Grown x (take a p) y → Grown y (part p a (e - a)) w → Grown w (part p e (length p - e)) r → Grown x p r
  grown-three x y w r f g i =
      let s : a + (e - a) ≡ e = omega arith in
      let t : take e p ≡ take a p ++ part p a (e - a) = subst (λ (j : ℕ). take j p ≡ take a p ++ part p a (e - a)) s (take-add a (e - a) p) in
      let m : part p e (length p - e) ≡ drop e p = take_all (length p - e) (drop e p) (simp length-drop (omega arith)) in
      subst (λ (l : List ℕ). Grown x l r) (rw (← t, m) (take-append-drop e p))
      (grown-join x w r (take a p ++ part p a (e - a)) (part p e (length p - e)) (grown-join x y w (take a p) (part p a (e - a)) f g) i)

pub aligned : (p : List ℕ) (a total t : ℕ) → a ≤ length p → (a ≡ length p → ⊥) → (a < length p → (total + a) % 64 ≡ 0) → t ≡ (total + length (take a p)) % 2 ^ 64 → t % 64 ≡ 0
aligned p a total t h ne z e =
    let l : a < length p = omega arith in
    wrap-64 t (total + length (take a p)) e ∙ rw (length-take-le a p h) (z l)

-- ---- the end: the bytes left over and the padding are whole blocks

pub finish-is : (h : Hasher) (bs p s r : List ℕ) → Holds h bs → p ≡ take (h.total % 64) h.block ++ padding v256 h.total → length p % 64 ≡ 0
    → s ≡ after v256 h.state (length p / 64) p → r ≡ all_bytes 4 s → r ≡ sha256 bs
unfolding sha256 digest
finish-is h bs p s r held t whole f g =
    let q = length bs / 64 in
    let n = length p / 64 in
    let x = take (64 * q) bs in
    let y = drop (64 * q) bs in
    let u = padding v256 (length bs) in
    let w : padding v256 h.total ≡ u = ap (padding v256) held.count ∙ padding-wrap (length bs) in
    let at : h.total % 64 ≡ length bs % 64 = wrap-64 h.total (length bs) held.count in
    let t' : p ≡ y ++ u = t ∙ rw (at, w, held.left) in
    let ly : length y ≡ length bs - 64 * q = length-drop (64 * q) bs in
    let b' : length p ≡ length bs - 64 * q + length u = ap length t' ∙ rw (length-append, ly) in
    let lx : length x ≡ 64 * q = length-take-le (64 * q) bs (omega arith) in
    let m : length (bs ++ u) / 64 ≡ q + n = rw length-append (omega arith) in
    let j : x ++ (y ++ u) ≡ bs ++ u = rw (← append_assoc) (ap (λ (l : List ℕ). l ++ u) (take-append-drop (64 * q) bs)) in
    let d : after v256 H256 q x ≡ h.state = sym (after-take v256 H256 q (64 * q) bs (omega arith)) ∙ sym held.hash in
    let k : after v256 H256 (q + n) (bs ++ u) ≡ after v256 h.state n (y ++ u) =
    ap (after v256 H256 (q + n)) (sym j) ∙ after-append v256 H256 q n x (y ++ u) lx ∙ ap (λ (l : List ℕ). after v256 l n (y ++ u)) d in
    g ∙ ap (all_bytes 4) (f ∙ ap (after v256 h.state n) t' ∙ sym k) ∙ rw m

-- Body (c): the test of it, and what it says one by one. Assumes nothing.
use Prim.Native.Nat.{ℕ, zero, suc, ◌+◌, ◌≤◌, ◌<◌}
use mathlib.Core.Path.{◌≡◌, refl, sym, ap, ◌∙◌}
use mathlib.Core.Bool.{Bool, true, false, ◌||◌}
use mathlib.Core.List.{List}
use native.Mathlib.Omega.{arith}
use lib.ListN.{length, get_or, drop, get_or-replicate, get_or-eq_default}
use lib.Seq.{ext_get_or}
use lib.Dec.{eqb}
use borrow.Author.Tests.{lt-ltb, le-leb, eq-eqb, ne_eqb, ltb-true, leb-true, eqb-true, eqb-false}
use Rattle.words.specs.Bytes.{zeros}
use Rattle.words.specs.Numbers.{number}
use Rattle.words.specs.Tests.{Each, all_zero}
use Rattle.words.proofs.Splice.{length-zeros}
use Rattle.words.proofs.Tests.{by_cases, below_or, each, every_of, all-at, zeros-zero}
use Rattle.sizes.specs.Sizes.{request_head}
use Rattle.desk.specs.declared.Kind.TheVariants.{Read, Write}
use Rattle.desk.specs.Layout.{kind_in, zero_in, id_in, new_leaf_in, zeros_in}
use Rattle.desk.specs.Numbers.{kind_of}
use Rattle.desk.specs.Status.{ready_status}
use Rattle.desk.specs.Good.{open_tests, open_good, request_good}

-- ---- zeros
-- for words

pub get_d-zeros : (n i : ℕ) → get_or (zeros n) i 0 ≡ 0
get_d-zeros n i =
    below_or i n
    (λ h. get_or-replicate n i 0 0 h)
    (λ h. get_or-eq_default (zeros n) 0 (omega (arith, length-zeros n)))

pub number-zeros : (n m a : ℕ) → number n (zeros m) a ≡ 0
unfolding number
number-zeros zero m a = refl
number-zeros (suc n) m a = omega (arith, get_d-zeros m a, number-zeros n m (a + 1))

-- bytes that are all zero are zeros
pub zero-zeros : (xs : List ℕ) → all_zero xs ≡ true → xs ≡ zeros (length xs)
zero-zeros xs h =
    ext_get_or 0 xs (zeros (length xs)) (sym (length-zeros (length xs)))
    (λ i k. eqb-true _ _ (all-at (λ j. eqb (get_or xs j 0) 0) (length xs) i k h) ∙ sym (get_d-zeros (length xs) i))

-- ---- body (c), under the status, the number of leaves and the number of ids

pub record RequestKnown (status most n : ℕ) (c : List ℕ) : Type 0 where
  pub zero_byte : get_or c zero_in 0 ≡ 0
  pub two_zeros : number 2 c zeros_in ≡ 0
  pub ready_zero : status ≡ ready_status → c ≡ zeros (length c)
  pub kind : (status ≡ ready_status → ⊥) → get_or c kind_in 0 ≤ 1
  pub low : (status ≡ ready_status → ⊥) → 1 ≤ number 2 c id_in
  pub high : (status ≡ ready_status → ⊥) → number 2 c id_in ≤ n
  pub leaf : (status ≡ ready_status → ⊥) → number 2 c new_leaf_in < most
  pub read_zero : (status ≡ ready_status → ⊥) → get_or c kind_in 0 ≡ kind_of Read → drop request_head c ≡ zeros (length (drop request_head c))

-- for words
or_right : (a b : Bool) → (a || b) ≡ true → a ≡ false → b ≡ true
or_right true b h k = cc
or_right false b h k = h

or-true : (a b : Bool) → b ≡ true → (a || b) ≡ true
or-true true b h = refl
or-true false b h = h

module _ (status most n : ℕ) (c : List ℕ) where
  pub request-known : request_good status most n c ≡ true → RequestKnown status most n c
  unfolding request_good open_good
  request-known g =
      by_cases (eqb status ready_status)
      (λ q.
      let s : status ≡ ready_status = eqb-true status ready_status q in
      let z : c ≡ zeros (length c) = zero-zeros c (rw q at g) in
      record {
        zero_byte = ap (λ (l : List ℕ). get_or l zero_in 0) z ∙ get_d-zeros (length c) zero_in;
        two_zeros = ap (λ (l : List ℕ). number 2 l zeros_in) z ∙ number-zeros 2 (length c) zeros_in;
        ready_zero = λ a. z;
        kind = λ a. absurd (a s);
        low = λ a. absurd (a s);
        high = λ a. absurd (a s);
        leaf = λ a. absurd (a s);
        read_zero = λ a b. absurd (a s);
      })
      (λ q.
      let t : Each (open_tests most n c) = each (open_tests most n c) (rw q at g) in
      record {
        zero_byte = eqb-true _ _ t.1.0;
        two_zeros = eqb-true _ _ t.1.1.1.1.1.0;
        ready_zero = λ a. absurd (eqb-false status ready_status q a);
        kind = λ a. leb-true _ _ t.0;
        low = λ a. leb-true _ _ t.1.1.0;
        high = λ a. leb-true _ _ t.1.1.1.0;
        leaf = λ a. ltb-true _ _ t.1.1.1.1.0;
        read_zero = λ a b.
            let w : eqb (get_or c kind_in 0) (kind_of Write) ≡ false = ne_eqb (get_or c kind_in 0) (kind_of Write) (λ e. omega arith) in
            zero-zeros (drop request_head c) (or_right _ _ t.1.1.1.1.1.1.0 w);
      })

  pub request-holds : RequestKnown status most n c → request_good status most n c ≡ true
  unfolding request_good open_good
  request-holds k =
      by_cases (eqb status ready_status)
      (λ q. rw q (ap all_zero (k.ready_zero (eqb-true status ready_status q)) ∙ zeros-zero (length c)))
      (λ q.
      let a = eqb-false status ready_status q in
      rw q
      (every_of (open_tests most n c) (
        le-leb _ _ (k.kind a),
        (
          eq-eqb _ _ k.zero_byte,
          (
            le-leb _ _ (k.low a),
            (
              le-leb _ _ (k.high a),
              (lt-ltb _ _ (k.leaf a), (eq-eqb _ _ k.two_zeros, (record-zero (k.kind a) (k.read_zero a), tt))),
            ),
          ),
        ),
      )))
    where
      record-zero : get_or c kind_in 0 ≤ 1 → (get_or c kind_in 0 ≡ kind_of Read → drop request_head c ≡ zeros (length (drop request_head c)))
          → (eqb (get_or c kind_in 0) (kind_of Write) || all_zero (drop request_head c)) ≡ true
      record-zero l f =
          by_cases (eqb (get_or c kind_in 0) (kind_of Write))
          (λ q. rw q)
          (λ q.
          let e : get_or c kind_in 0 ≡ kind_of Read = below_or (get_or c kind_in 0) 1 (λ m. omega arith) (λ m. absurd (eqb-false (get_or c kind_in 0) (kind_of Write) q (omega arith))) in
          or-true (eqb (get_or c kind_in 0) (kind_of Write)) (all_zero (drop request_head c)) (ap all_zero (f e) ∙ zeros-zero (length (drop request_head c))))

-- A record written part by part: head, name and zeros, one right after another, are the record. Assumes nothing.
use Prim.Native.Nat.{ℕ, ◌+◌, ◌-◌, ◌≤◌}
use mathlib.Core.Path.{◌≡◌, refl, sym, ap, ◌∙◌}
use mathlib.Core.List.{List, ◌++◌, append_assoc}
use native.Mathlib.Omega.{arith}
use mathlib.Core.Bool.{Bool, true, false, ◌&&◌}
use lib.ListN.{length, length-append}
use lib.Dec.{leb, eqb}
use borrow.Author.Tests.{eqb-true, leb-true}
use Rattle.words.specs.Bytes.{splice, zeros}
use Rattle.words.specs.Numbers.{bytes_of}
use Rattle.words.proofs.Tests.{and_left, and_right}
use Rattle.words.proofs.Splice.{splice-next, splice-whole, length-zeros}
use Rattle.sizes.specs.Sizes.{record_len}
use Rattle.verdicts.specs.declared.Verdict.{Verdict}
use Rattle.verdicts.specs.Verdict.{verdict_at, name_at, most_chapter, most_name, until_zero, can_be_read, head_of, record_of, making, make_of}

pub length-head : (v : Verdict) (chapter year : ℕ) → length (head_of v chapter year) ≡ name_at
unfolding bytes_of
length-head v chapter year = refl

module _ (v : Verdict) (chapter year : ℕ) (name : List ℕ) (l : length name ≤ most_name) where
  size : length (head_of v chapter year ++ (name ++ zeros (most_name - length name))) ≡ record_len
  size =
      length-append (head_of v chapter year) (name ++ zeros (most_name - length name))
      ∙ omega (arith, length-head v chapter year, length-append name (zeros (most_name - length name)), length-zeros (most_name - length name))

  pub length-record : length (record_of v chapter year name) ≡ record_len
  unfolding record_of
  length-record = size

  pub written : (lent : List ℕ) → length lent ≡ record_len
      → splice (splice (splice lent verdict_at (head_of v chapter year)) name_at name) (name_at + length name) (zeros (most_name - length name)) ≡ record_of v chapter year name
  unfolding record_of
  written lent e =
      ap (λ (xs : List ℕ). splice xs (name_at + length name) (zeros (most_name - length name)))
      (splice-next lent 0 (head_of v chapter year) name name_at (length-head v chapter year) (omega (arith, e)))
      ∙ ap (λ (k : ℕ). splice (splice lent 0 (head_of v chapter year ++ name)) k (zeros (most_name - length name))) here
      ∙ splice-next lent 0 (head_of v chapter year ++ name) (zeros (most_name - length name)) (name_at + length name)
      (length-append (head_of v chapter year) name ∙ ap (λ (k : ℕ). k + length name) (length-head v chapter year)) (omega (arith, e))
      ∙ splice-whole lent ((head_of v chapter year ++ name) ++ zeros (most_name - length name)) (ap length (append_assoc (head_of v chapter year) name (zeros (most_name - length name))) ∙ size ∙ sym e)
      ∙ append_assoc (head_of v chapter year) name (zeros (most_name - length name))
    where
      here : name_at + length name ≡ 0 + (name_at + length name)
      here = omega arith

  -- the same, part by part as the code writes it
  pub written-by : (lent : List ℕ) → length lent ≡ record_len → {h x y z : List ℕ} → h ≡ head_of v chapter year → x ≡ splice lent verdict_at h → y ≡ splice x name_at name
      → z ≡ splice y (name_at + length name) (zeros (most_name - length name)) → z ≡ record_of v chapter year name
  written-by lent e p q r s = s ∙ rw (r, q, p) (written lent e)

-- ---- making: where the tests pass

module _ (lent : List ℕ) (chapter : ℕ) (name : List ℕ) where
  pub can-put : {k : Bool} → k ≡ can_be_read chapter name → (eqb (length lent) record_len && k) ≡ true → (length lent ≡ record_len) × (length name ≤ most_name)
  unfolding can_be_read
  can-put {k} e h = (
    eqb-true _ _ (and_left (eqb (length lent) record_len) k h),
    leb-true _ _ (and_right (leb chapter most_chapter) _ (and_left _ (eqb (until_zero name) (length name)) (sym e ∙ and_right (eqb (length lent) record_len) k h))),
  )

module _ (lent : List ℕ) (v : Verdict) (chapter year : ℕ) (name : List ℕ) {k : Bool} (e : k ≡ can_be_read chapter name) where
  pub made : (eqb (length lent) record_len && k) ≡ true → {r : List ℕ} → r ≡ record_of v chapter year name
      → making (eqb (length lent) record_len && k) r ≡ make_of lent v chapter year name
  made h g = rw (← e, h, g)

  pub not_made : (eqb (length lent) record_len && k) ≡ false → making (eqb (length lent) record_len && k) lent ≡ make_of lent v chapter year name
  not_made h = rw (← e, h)

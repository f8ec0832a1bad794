-- The desk that ask leaves: good, open, with the request in body (c) and all else as it was. Assumes nothing.
use Prim.Native.Nat.{ℕ, ◌+◌, ◌≤◌, ◌<◌}
use mathlib.Core.Path.{◌≡◌, refl, ap, ◌∙◌}
use mathlib.Core.Bool.{true, ◌||◌}
use mathlib.Core.List.{List, [], ◌∷◌, ◌++◌, append_assoc}
use native.Mathlib.Omega.{arith}
use lib.ListN.{length, get_or, drop, length-append}
use lib.Seq.{drop_at}
use lib.Dec.{eqb}
use borrow.Author.Tests.{le-leb, lt-ltb, eqb-true}
use Rattle.words.specs.Bytes.{zeros}
use Rattle.words.specs.Numbers.{number, bytes_of}
use Rattle.words.specs.Tests.{all_zero}
use Rattle.words.proofs.Splice.{length-zeros, part-tail}
use Rattle.words.proofs.Numbers.{number-bytes_of, length-bytes_of}
use Rattle.words.proofs.Tests.{every_of, zeros-zero}
use Rattle.sizes.specs.Sizes.{leaves, request_head}
use Rattle.sizes.proofs.Lengths.{leaves_most}
use Rattle.slots.proofs.Numbers.{number-left, number-right}
use Rattle.desk.specs.declared.Kind.{Kind}
use Rattle.desk.specs.declared.Kind.TheVariants.{Read, Write}
use Rattle.desk.specs.Layout.{ids_of, shape_of, kind_in, id_in, new_leaf_in, zeros_in}
use Rattle.desk.specs.Readers.{sizes_of, kind_asked, id_asked, new_leaf, record_asked}
use Rattle.desk.specs.Numbers.{kind_of, kind_from}
use Rattle.desk.specs.Status.{open_status}
use Rattle.desk.specs.Good.{good_desk, open_tests, open_good}
use Rattle.desk.specs.Parts.{parts_of, to_status, to_request}
use Rattle.desk.proofs.Request.{number-zeros}
use Rattle.desk.proofs.Changed.{Changed, unchanged, status-changed, request-changed}
use Rattle.desk.proofs.Frame.{good-sound, open-sound, changed-good}
use Rattle.desk.proofs.Read.{read-kind, read-id, read-new-leaf, read-record}
use Rattle.asks.specs.Ask.{record_fits, head_bytes, record_bytes, request_bytes, opened}
use Rattle.asks.proofs.Passed.{AskPassed, length-head}

-- ---- the request's bytes, read back

module _ (r : ℕ) (kind : Kind) (id leaf : ℕ) (rec : List ℕ) where
  abbrev q : List ℕ
  q = request_bytes r kind id leaf rec

  -- behind kind and zero: id, new leaf, zeros, record
  abbrev rest : List ℕ
  rest = bytes_of 2 leaf ++ (zeros 2 ++ record_bytes r kind rec)

  pub request-is : q ≡ (kind_of kind ∷ 0 ∷ []) ++ (bytes_of 2 id ++ rest)
  unfolding request_bytes
  request-is = simp append_assoc

  pub asked_kind : get_or q kind_in 0 ≡ kind_of kind
  unfolding request_bytes
  asked_kind = refl

  pub asked-zero : get_or q 1 0 ≡ 0
  unfolding request_bytes
  asked-zero = refl

  pub asked-id : id < 65536 → number 2 q id_in ≡ id
  asked-id h =
      ap (λ (l : List ℕ). number 2 l id_in) request-is ∙ number-right 2 (kind_of kind ∷ 0 ∷ []) (bytes_of 2 id ++ rest) 0 id_in refl
      ∙ number-left 2 (bytes_of 2 id) rest 0 (omega (arith, length-bytes_of 2 id)) ∙ number-bytes_of 2 id h

  pub asked-new-leaf : leaf < 65536 → number 2 q new_leaf_in ≡ leaf
  asked-new-leaf h =
      ap (λ (l : List ℕ). number 2 l new_leaf_in) request-is ∙ number-right 2 (kind_of kind ∷ 0 ∷ []) (bytes_of 2 id ++ rest) 2 new_leaf_in refl
      ∙ number-right 2 (bytes_of 2 id) rest 0 2 (omega (arith, length-bytes_of 2 id))
      ∙ number-left 2 (bytes_of 2 leaf) (zeros 2 ++ record_bytes r kind rec) 0 (omega (arith, length-bytes_of 2 leaf)) ∙ number-bytes_of 2 leaf h

  pub asked-zeros : number 2 q zeros_in ≡ 0
  asked-zeros =
      ap (λ (l : List ℕ). number 2 l zeros_in) request-is ∙ number-right 2 (kind_of kind ∷ 0 ∷ []) (bytes_of 2 id ++ rest) 4 zeros_in refl
      ∙ number-right 2 (bytes_of 2 id) rest 2 4 (omega (arith, length-bytes_of 2 id))
      ∙ number-right 2 (bytes_of 2 leaf) (zeros 2 ++ record_bytes r kind rec) 0 2 (omega (arith, length-bytes_of 2 leaf))
      ∙ number-left 2 (zeros 2) (record_bytes r kind rec) 0 (omega arith) ∙ number-zeros 2 2 0

  pub asked-record : drop request_head q ≡ record_bytes r kind rec
  unfolding request_bytes
  asked-record = drop_at (head_bytes kind id leaf) (record_bytes r kind rec) request_head (length-head kind id leaf)

pub length-request : (r : ℕ) (kind : Kind) (id leaf : ℕ) (rec : List ℕ) → record_fits r kind rec ≡ true → length (request_bytes r kind id leaf rec) ≡ request_head + r
unfolding request_bytes
length-request r kind id leaf rec f =
    omega (arith, length-append (head_bytes kind id leaf) (record_bytes r kind rec), length-head kind id leaf, record-length kind f)
  where
    record-length : (k : Kind) → record_fits r k rec ≡ true → length (record_bytes r k rec) ≡ r
    record-length Read g = length-zeros r
    record-length Write g = eqb-true _ _ g

-- a request that is asked for is a good body (c)
pub request_is_good : (r : ℕ) (kind : Kind) (id leaf : ℕ) (rec : List ℕ) (most n : ℕ) → 1 ≤ id → id ≤ n → id < 65536 → leaf < most → leaf < 65536
    → open_good most n (request_bytes r kind id leaf rec) ≡ true
unfolding open_good
request_is_good r kind id leaf rec most n low high small l few =
    let q : List ℕ = request_bytes r kind id leaf rec in
    every_of (open_tests most n q) (
      rw (asked_kind r kind id leaf rec) (le-leb _ _ (kind-most kind)),
      (
        rw (asked-zero r kind id leaf rec),
        (
          rw (asked-id r kind id leaf rec small) (le-leb _ _ low),
          (
            rw (asked-id r kind id leaf rec small) (le-leb _ _ high),
            (
              rw (asked-new-leaf r kind id leaf rec few) (lt-ltb _ _ l),
              (rw (asked-zeros r kind id leaf rec), (rw (asked_kind r kind id leaf rec, asked-record r kind id leaf rec) (read-or-zero kind), tt)),
            ),
          ),
        ),
      ),
    )
  where
    kind-most : (k : Kind) → kind_of k ≤ 1
    kind-most Read = omega arith
    kind-most Write = omega arith

    read-or-zero : (k : Kind) → (eqb (kind_of k) (kind_of Write) || all_zero (record_bytes r k rec)) ≡ true
    read-or-zero Read = zeros-zero r
    read-or-zero Write = refl

-- ---- the desk

module _ (desk : List ℕ) (kind : Kind) (id leaf : ℕ) (rec : List ℕ) (p : AskPassed desk kind id leaf rec) where
  abbrev request : List ℕ
  request = request_bytes (shape_of desk).r kind id leaf rec

  small-leaf : leaf < 65536
  small-leaf = omega (arith, p.leaf_high, leaves_most (sizes_of desk) p.known.head.sizes.height_high)

  small-id : id < 65536
  small-id = omega (arith, p.id_high, p.known.head.ids_high)

  -- what it holds: status 1 and the request, and all else as it was
  pub opened-changed : Changed desk (opened desk kind id leaf rec) (to_status open_status (to_request request (parts_of desk)))
  unfolding opened
  opened-changed =
      status-changed p.known.size
      (request-changed p.known.size (unchanged desk) request (length-request (shape_of desk).r kind id leaf rec p.fits)) open_status

  pub opened-good : good_desk (opened desk kind id leaf rec) ≡ true
  opened-good =
      changed-good p.good opened-changed
      (open-sound request (good-sound desk p.good)
      (request_is_good (shape_of desk).r kind id leaf rec (leaves (sizes_of desk)) (ids_of desk) p.id_low p.id_high small-id p.leaf_high small-leaf))

  -- what the open request reads
  pub opened-kind : kind_asked (opened desk kind id leaf rec) ≡ kind
  opened-kind = ap kind_from (read-kind opened-changed ∙ asked_kind (shape_of desk).r kind id leaf rec) ∙ kind-back kind
    where
      kind-back : (k : Kind) → kind_from (kind_of k) ≡ k
      kind-back Read = refl
      kind-back Write = refl

  pub opened-id : id_asked (opened desk kind id leaf rec) ≡ id
  opened-id = read-id opened-changed ∙ asked-id (shape_of desk).r kind id leaf rec small-id

  pub opened-leaf : new_leaf (opened desk kind id leaf rec) ≡ leaf
  opened-leaf = read-new-leaf opened-changed ∙ asked-new-leaf (shape_of desk).r kind id leaf rec small-leaf

  pub opened-record : record_asked (opened desk kind id leaf rec) ≡ record_bytes (shape_of desk).r kind rec
  opened-record =
      read-record opened-changed
      ∙ part-tail request request_head (shape_of desk).r (omega (arith, length-request (shape_of desk).r kind id leaf rec p.fits))
      ∙ asked-record (shape_of desk).r kind id leaf rec

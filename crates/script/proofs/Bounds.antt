-- What a line of requests that can be read is bounded by: its text, its length. So no line that can be read is longer than a window of 20,485 bytes,
-- and a longer one is bad without being read to its end. Assumes nothing.
use Prim.Native.Nat.{ℕ, ◌+◌, ◌-◌, ◌≤◌, ◌<◌}
use mathlib.Core.Path.{◌≡◌, refl}
use mathlib.Core.Bool.{Bool, true, false, cond, ◌&&◌}
use mathlib.Core.List.{List, [], ◌∷◌}
use native.Mathlib.Omega.{arith}
use borrow.Author.Tests.{leb-true, eqb-true}
use lib.ListN.{length, length-drop}
use lib.Dec.{leb, eqb}
use Rattle.words.proofs.Tests.{and_left, and_right, by_cases}
use Rattle.sizes.specs.Sizes.{record_len, most_ids}
use Rattle.desk.specs.declared.Kind.{Kind}
use Rattle.desk.specs.declared.Kind.TheVariants.{Read, Write}
use Rattle.text.specs.Text.{space, write_word, read_word}
use Rattle.text.specs.Fronts.{begins, values_len, are_there, numbers_in, rest_in}
use Rattle.text.proofs.Bounds.{values_len-most}
use Rattle.std.specs.Prelude.{Option, Some, None}
use Rattle.setup.specs.declared.Store.{Store}
use Rattle.setup.specs.Setup.{store_of, start_good, most_line}
use Rattle.setup.proofs.Bounds.{store-fits, start-most}
use Rattle.script.specs.declared.Request.{Request}
use Rattle.script.specs.Lines.{text_good, rest_good, request_after, request_of}

-- ---- a line of requests

request-is : (t : Bool) (r q : Request) → cond t (Some r) None ≡ Some q → (t ≡ true) × (r.text ≡ q.text)
request-is true r q e = (refl, cc)
request-is false r q e = absurd (cc)

bad-request : {A : Type 0} (q : Request) → None ≡ Some q → A
bad-request q e = absurd (cc)

-- what stands after the leaf has at most a space and the bytes of a record
rest-most : (kind : Kind) (rest : List ℕ) → rest_good kind rest ≡ true → length rest ≤ 1 + record_len
rest-most Read rest e = omega (arith, eqb-true (length rest) 0 e)
rest-most Write [] e = omega arith
rest-most Write (x ∷ text) e = omega (arith, leb-true (length text) record_len (and_left (leb (length text) record_len) _ (and_right (eqb x space) (text_good text) e)))

-- a line: where its text stands, and how long it is
pub record Fits (xs : List ℕ) (text : ℕ) : Type 0 where
  pub inside : text ≤ length xs
  pub text_most : length xs ≤ text + record_len
  pub line_most : length xs ≤ 80

after-fits : (kind : Kind) (w : ℕ) (xs : List ℕ) (q : Request) → w ≤ 6 → request_after kind w xs ≡ Some q → Fits xs q.text
after-fits kind w xs q h e =
    let n = numbers_in w xs in
    let r = rest_in w 2 xs in
    let p = request-is (are_there 2 n && rest_good kind r) _ q e in
    let m = rest-most kind r (and_right (are_there 2 n) (rest_good kind r) p.0) in
    let a = length-drop (values_len 2 n) n in
    let b = length-drop (w - 1) xs in
    let c = length-drop 1 r in
    let d = values_len-most 2 n in
    record { inside = omega (arith, p.1); text_most = omega (arith, p.1); line_most = omega arith }

pub request-fits : (xs : List ℕ) (q : Request) → request_of xs ≡ Some q → Fits xs q.text
request-fits xs q e =
    by_cases (begins xs write_word)
    (λ h. after-fits Write 6 xs q (omega arith) (rw h at e))
    (λ h. by_cases (begins xs read_word)
    (λ g. after-fits Read 5 xs q (omega arith) (rw (h, g) at e))
    (λ g. bad-request q (rw (h, g) at e)))

-- ---- a line that is too long to be read is none of the three

pub record TooLong (xs : List ℕ) : Type 0 where
  pub no_store : store_of xs ≡ None
  pub no_start : (n : ℕ) → n ≤ most_ids → start_good n xs ≡ false
  pub no_request : request_of xs ≡ None

pub too_long : (xs : List ℕ) → most_line < length xs → TooLong xs
too_long xs h =
    record {
      no_store = not-store (store_of xs) refl;
      no_start = λ n k. by_cases (start_good n xs) (λ e. absurd (omega (arith, start-most n xs k e))) (λ e. e);
      no_request = not-request (request_of xs) refl;
    }
  where
    not-store : (x : Option Store) → store_of xs ≡ x → x ≡ None
    not-store (Some x) e = absurd (omega (arith, (store-fits xs x e).line_most))
    not-store None e = refl

    not-request : (x : Option Request) → request_of xs ≡ x → x ≡ None
    not-request (Some q) e = absurd (omega (arith, (request-fits xs q e).line_most))
    not-request None e = refl

-- The numbers that the C interface of TAP answers with, and what it hands out beside them. Assumes nothing.
use Rattle.sizes.specs.declared.Refusal.{Refusal}
use Rattle.std.specs.Prelude.{ℕ, ◌≡◌, List, [], ◌∷◌, ℤ, pos, neg_ℤ, Err, Ok, Result}
use Rattle.taking.specs.declared.Trouble.{Trouble}
use Rattle.taking.specs.Taking.{trouble_number}
use Rattle.tap.specs.declared.NotRead.{NotRead}
use Rattle.tap.specs.declared.NotRead.TheVariants as not_read
use Rattle.tap.specs.Tap.{ReadResult, WriteResult}
use Rattle.exports.specs.Codes.{refusal_code}

-- ---- reading: 0 when done. A text's refusal is its number, negative, as the store's are

abbrev pub done_code : ℕ
done_code = 0

unfoldable pub trouble_code : Trouble → ℤ
trouble_code t = neg_ℤ (pos (trouble_number t))

unfoldable pub taken_code : Result Unit NotRead → ℤ
taken_code (Ok tt) = pos done_code
taken_code (Err (not_read.Refused r)) = refusal_code r
taken_code (Err (not_read.Bad b)) = trouble_code b.trouble

-- the line's number is handed out beside a text's refusal, and only there: what was lent stays
unfoldable pub line_or : Result Unit NotRead → List ℕ → List ℕ
line_or (Ok tt) lent = lent
line_or (Err (not_read.Refused r)) lent = lent
line_or (Err (not_read.Bad b)) lent = b.line ∷ []

pub record ReadAnswers (number : ℤ) (desk tree line lent : List ℕ) (due : ReadResult) : Type 0 where
  pub number_is : number ≡ taken_code due.answer
  pub desk_is : desk ≡ due.desk
  pub tree_is : tree ≡ due.tree
  pub line_is : line ≡ line_or due.answer lent

-- ---- writing: the length of the text

unfoldable pub printed_code : Result ℕ Refusal → ℤ
printed_code (Ok n) = pos n
printed_code (Err r) = refusal_code r

pub record WriteAnswers (number : ℤ) (desk tree out : List ℕ) (due : WriteResult) : Type 0 where
  pub number_is : number ≡ printed_code due.answer
  pub desk_is : desk ≡ due.desk
  pub tree_is : tree ≡ due.tree
  pub out_is : out ≡ due.out

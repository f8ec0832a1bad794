-- The numbers that the C interface answers with. A refusal is its number, negative. Assumes nothing.
use Rattle.std.specs.Prelude.{ℕ, ◌≡◌, cond, List, ℤ, pos, neg_ℤ, Err, Ok, Result}
use Rattle.sizes.specs.declared.Refusal.{Refusal}
use Rattle.sizes.specs.Refusals.{number_of}
use Rattle.store.specs.declared.Finished.{Finished}
use Rattle.store.specs.declared.Finished.TheVariants as finished
use Rattle.store.specs.Finish.{FinishResult}
use Rattle.sizes.specs.declared.Sizes.{Sizes}
use Rattle.sizes.specs.Sizes.{sizes_good, ids_good, desk_len}

unfoldable pub refusal_code : Refusal → ℤ
refusal_code r = neg_ℤ (pos (number_of r))

-- format, fetch, put: 0 when done
unfoldable pub outcome_code : Result Unit Refusal → ℤ
outcome_code (Ok tt) = pos 0
outcome_code (Err r) = refusal_code r

-- ask: the leaf
unfoldable pub asked_code : Result ℕ Refusal → ℤ
asked_code (Ok position) = pos position
asked_code (Err r) = refusal_code r

-- finish: 1 Record, 2 Never, 3 Done; 0 is none of them
unfoldable pub finished_code : Result Finished Refusal → ℤ
finished_code (Ok finished.Record) = pos 1
finished_code (Ok finished.Never) = pos 2
finished_code (Ok finished.Done) = pos 3
finished_code (Err r) = refusal_code r

-- a length that sizes give: 0 where a size is out of range
unfoldable pub length_by : (Sizes → ℕ) → Sizes → ℕ
length_by length s = cond (sizes_good s) (length s) 0

-- the desk's: 0 where N is out of range
unfoldable pub desk_length : ℕ → ℕ → ℕ
desk_length n room = cond (ids_good n) (desk_len n room) 0

-- a number answered, and what a lent buffer then holds
pub record Answered (number : ℤ) (buffer : List ℕ) (due-number : ℤ) (due-buffer : List ℕ) : Type 0 where
  pub number_is : number ≡ due-number
  pub buffer_is : buffer ≡ due-buffer

-- the same of the three buffers of a finish
pub record Finishes (number : ℤ) (desk path buffer : List ℕ) (due : FinishResult) : Type 0 where
  pub number_is : number ≡ finished_code due.answer
  pub desk_is : desk ≡ due.desk
  pub path_is : path ≡ due.path
  pub buffer_is : buffer ≡ due.buffer

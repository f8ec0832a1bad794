-- Six wrong stores, to try the demands on: demand 2 shuts out each. Assumes nothing.
use Rattle.sizes.specs.declared.Refusal.{Refusal}
use Rattle.std.specs.Prelude.{ℕ, zero, suc, ◌-◌, Bool, true, false, List, [], ◌∷◌, ◌++◌, get_or, eqb, Err, Ok, Result}
use Rattle.sizes.specs.declared.Refusal.TheVariants.{BadDesk}
use Rattle.sizes.specs.Refusals.{kept_or}
use Rattle.desk.specs.Readers.{kind_asked, written_of}
use Rattle.desk.specs.Status.{stopped_or}
use Rattle.desk.specs.Changes.{with_root, closed}
use Rattle.slots.specs.Slots.{Block}
use Rattle.items.specs.declared.View.{View}
use Rattle.items.specs.Items.{Means, item_digest, sealed}
use Rattle.items.specs.Way.{bucket}
use Rattle.opening.specs.Opening.{view_of}
use Rattle.writing.specs.Writing.{new_flag, new_digest}
use Rattle.asks.specs.Ask.{ask_result, ask_of}
use Rattle.store.specs.declared.Finished.TheVariants as finished
use Rattle.store.specs.Steps.{answer_for, was_marked, placed, new_desk}
use Rattle.store.specs.Finish.{FinishResult, finish_of, finish_checked}
use Rattle.promises.specs.Stores.{Store}
use Rattle.promises.specs.DemandTwo.{DemandTwo}
use Rattle.promises.specs.DemandThree.{DemandThree}

-- refuses always
abbrev pub refusing : Store
refusing =
    record {
      ask = λ desk kind id leaf rec. ask_result (Err BadDesk) desk;
      finish = λ desk path buffer. record { answer = Err BadDesk; desk = desk; path = path; buffer = buffer };
    }

-- answers Never always
abbrev pub denying : Means → Store
denying m =
    record {
      ask = ask_of;
      finish = λ desk path buffer.
          record { answer = (Ok finished.Never); desk = (finish_of m desk path buffer).desk; path = (finish_of m desk path buffer).path; buffer = buffer };
    }

-- answers as it should, and changes nothing
abbrev pub idle : Means → Store
idle m =
    record {
      ask = λ desk kind id leaf rec. ask_result (ask_of desk kind id leaf rec).answer desk;
      finish = λ desk path buffer. record { answer = (finish_of m desk path buffer).answer; desk = desk; path = path; buffer = buffer };
    }

-- works at the first finish, and then only echoes: it closes the request, and hands path and buffer back as they came
abbrev pub echo : Means → List ℕ → List ℕ → List ℕ → FinishResult
echo m desk path buffer =
    record {
      answer = Ok (answer_for (kind_asked desk) (was_marked m desk path));
      desk = closed desk;
      path = path;
      buffer = buffer;
    }

abbrev pub echo_if : Bool → FinishResult → FinishResult → FinishResult
echo_if true first later = first
echo_if false first later = later

abbrev pub echoing : Means → Store
echoing m =
    record { ask = ask_of; finish = λ desk path buffer. echo_if (eqb (written_of desk) 0) (finish_of m desk path buffer) (echo m desk path buffer) }

-- writes invented counters, and is at one with itself: slots are enciphered under them, digests are taken of what is written, and the root digest is
-- the new one, so that over an honest server it answers as it should
abbrev pub invented : ℕ
invented = 7

module _ (m : Means) (v : View) (path : List ℕ) (placed : List (List Block)) where
  abbrev pub invented_head : ℕ → List ℕ
  invented_head k = sealed m v.sizes v.key invented (bucket v k) (get_or placed (v.sizes.height - k) [])

  abbrev pub invented_inner : ℕ → List ℕ → List ℕ
  invented_inner k new =
      invented_head k
      ++ (new_flag m v path placed k 0 ∷ new_flag m v path placed k 1 ∷ (new_digest m v path placed k new 0 ++ new_digest m v path placed k new 1))

  -- the items of the h lowest inner levels and the leaf's: the highest, and those below it
  unfoldable pub invented_from : ℕ → List ℕ × List ℕ
  invented_from zero = (invented_head v.sizes.height, [])
  invented_from (suc h) = (
    invented_inner (v.sizes.height - suc h) (item_digest m v.sizes (suc (v.sizes.height - suc h)) (invented_from h).0),
    (invented_from h).0 ++ (invented_from h).1,
  )

  abbrev pub invented_path : List ℕ
  invented_path = (invented_from v.sizes.height).0 ++ (invented_from v.sizes.height).1

  abbrev pub invented_root : List ℕ
  invented_root = item_digest m v.sizes 0 (invented_from v.sizes.height).0

abbrev pub inventing : Means → Store
inventing m =
    record {
      ask = ask_of;
      finish = λ desk path buffer.
          record {
            answer = (finish_of m desk path buffer).answer;
            desk = stopped_or (finish_checked m desk path buffer) desk (with_root (invented_root m (view_of desk) path (placed m desk path)) (new_desk m desk path));
            path = kept_or (finish_checked m desk path buffer) path (invented_path m (view_of desk) path (placed m desk path));
            buffer = (finish_of m desk path buffer).buffer;
          };
    }

-- asks for leaf 0 always
abbrev pub leaf_zero : Result ℕ Refusal → Result ℕ Refusal
leaf_zero (Ok p) = Ok 0
leaf_zero (Err q) = Err q

abbrev pub zeroing : Means → Store
zeroing m =
    record {
      ask = λ desk kind id leaf rec. ask_result (leaf_zero (ask_of desk kind id leaf rec).answer) (ask_of desk kind id leaf rec).desk;
      finish = finish_of m;
    }

pub record ShutOut (m : Means) : Type 0 where
  pub refuses_always : DemandTwo m refusing → ⊥
  pub answers_never : DemandTwo m (denying m) → ⊥
  pub changes_nothing : DemandTwo m (idle m) → ⊥
  pub only_echoes : DemandTwo m (echoing m) → ⊥
  pub invents_counters : DemandTwo m (inventing m) → ⊥
  pub asks_for_zero : DemandTwo m (zeroing m) → ⊥
  -- it meets demand 3: all that it shows is 0. So demand 3 alone would not do
  pub zero_is_no_leak : DemandThree (zeroing m) (zeroing m)

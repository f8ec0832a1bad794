-- A store that works at the first finish and then only echoes is shut out by demand 2: a record is written, and read back over an honest server. Assumes
-- nothing but what is asked of digest and cipher.
use Rattle.std.specs.Prelude.{Result, Ok}
use Rattle.sizes.specs.declared.Refusal.{Refusal}
use Prim.Native.Nat.{ℕ, ◌-◌, ◌≤◌}
use mathlib.Core.Path.{◌≡◌, refl, sym, ap, subst, ◌∙◌}
use mathlib.Core.Bool.{Bool, true}
use mathlib.Core.Option.{some}
use mathlib.Core.List.{List, [], ◌∷◌}
use native.Mathlib.Omega.{arith}
use lib.ListN.{length, get_or}
use lib.Dec.{eqb}
use borrow.Author.Tests.{eqb-true, eq-eqb, le-leb}
use Rattle.words.specs.Bytes.{zeros}
use Rattle.words.proofs.Splice.{length-zeros}
use Rattle.sizes.specs.Refusals.{kept_or}
use Rattle.sizes.specs.Sizes.{record_len, path_len, item_of, place_in}
use Rattle.desk.specs.declared.Kind.TheVariants.{Read}
use Rattle.desk.specs.Readers.{kind_asked, written_of, is_written, status_of}
use Rattle.desk.specs.Status.{ready_status}
use Rattle.items.specs.Items.{Means, Sound}
use Rattle.asks.specs.Ask.{ask_of}
use Rattle.asks.proofs.Opened.{opened-changed}
use Rattle.store.specs.declared.Finished.{Finished}
use Rattle.store.specs.declared.Finished.TheVariants as finished
use Rattle.store.specs.Steps.{was_marked, new_path}
use Rattle.store.specs.Finish.{FinishResult, finish_of, finish_checked}
use Rattle.keeping.specs.Server.{wrote}
use Rattle.keeping.proofs.Plain.{some_inj}
use Rattle.promises.specs.Stores.{Request, Accepted}
use Rattle.promises.specs.Steps.{State, asks, finishes, after_ask, accepted, after_finish, after, ask_for, finish_for, returned, Reached}
use Rattle.promises.specs.DemandTwo.{Kept, DemandTwo}
use Rattle.promises.specs.Wrong.{echo, echo_if, echoing}
use Rattle.promises.proofs.Answers.{answer-accepted, finished-done, asked_leaf}
use Rattle.promises.proofs.Past.{done-through}
use Rattle.promises.proofs.FinishStep.{path_size}
use Rattle.promises.proofs.Two.{returned-agrees}
use Rattle.promises.proofs.Exists.{first-stands, first-open, first-unwritten, anything, first-accepted}
use Rattle.promises.proofs.More.{reached-more}
use Rattle.promises.proofs.Wrong.{small, lent, small-proper, writing, writing-fits, some_path, some_buffer, asked-first, reached-first}

-- the second request: the record is read, with draw 1 again
abbrev reading : Request
reading = record { kind = Read; id = 1; leaf = 1; content = [] }

-- a record buffer that does not hold zeros
abbrev ones : List ℕ
ones = 1 ∷ zeros (record_len - 1)

module _ (m : Means) (o : Sound m) (d : DemandTwo m (echoing m)) where
  abbrev one : State
  one = asked-first m o

  -- ---- the first finish is ours, and it is accepted

  abbrev f : FinishResult
  f = finish_of m one.desk some_path some_buffer

  works : finish_for (echoing m) one some_path some_buffer ≡ f
  works =
      ap (λ (b : Bool). echo_if b f (echo m one.desk some_path some_buffer))
      (ap (λ (x : ℕ). eqb x 0) (first-unwritten m o small lent small-proper writing writing-fits))

  back : returned small one some_path
  back = anything m o small lent small-proper writing writing-fits some_path some_buffer (length-zeros _) (length-zeros _)

  done : Accepted f.answer
  done = first-accepted m o small lent small-proper writing writing-fits some_path some_buffer (length-zeros _) (length-zeros _) (omega arith)

  echo-done : Accepted (finish_for (echoing m) one some_path some_buffer).answer
  echo-done = subst (λ (x : FinishResult). Accepted x.answer) (sym works) done

  reached-one : Reached (echoing m) small (returned small) one
  reached-one = reached-first m o (echoing m).finish

  kept-one : Kept m (echoing m) small (returned small one) one
  kept-one = d small (omega arith) one reached-one

  answer_is : f.answer ≡ Ok finished.Done
  answer_is = sym (ap (λ (x : FinishResult). x.answer) works) ∙ (kept-one.plain some_path some_buffer back echo-done writing refl).0

  -- ---- the state after it

  abbrev two : State
  two = accepted small.sizes one f

  reached-two : Reached (echoing m) small (returned small) two
  reached-two =
      let e : after (echoing m) small.sizes one (finishes some_path some_buffer) ≡ two =
      ap (λ (x : FinishResult). after_finish small.sizes one x.answer x) works ∙ ap (λ (a : Result Finished Refusal). after_finish small.sizes one a f) answer_is in
      subst (λ (x : State). Reached (echoing m) small (returned small) x) e
      (reached-more (echoing m) small (returned small) one reached-one (finishes some_path some_buffer) (λ a. back))

  kept-two : Kept m (echoing m) small (returned small two) two
  kept-two = d small (omega arith) two reached-two

  ready-two : status_of two.desk ≡ ready_status
  ready-two = ap (λ (x : FinishResult). status_of x.desk) (sym works) ∙ (kept-one.closes some_path some_buffer back echo-done).0

  written-two : is_written two.desk ≡ true
  written-two = ap (λ (x : FinishResult). is_written x.desk) (sym works) ∙ (kept-one.closes some_path some_buffer back echo-done).1

  -- ---- the second ask

  leaf-is : (ask_for (echoing m) two reading).answer ≡ Ok 1
  leaf-is = kept-two.takes ready-two reading (omega arith) (omega arith) (omega arith) refl

  abbrev three : State
  three = after_ask two reading (Ok 1) (ask_of two.desk Read 1 1 []).desk

  reached-three : Reached (echoing m) small (returned small) three
  reached-three =
      subst (λ (x : State). Reached (echoing m) small (returned small) x) (ap (λ (a : Result ℕ Refusal). after_ask two reading a (ask_of two.desk Read 1 1 []).desk) leaf-is)
      (reached-more (echoing m) small (returned small) two reached-two (asks reading) tt)

  written-three : written_of three.desk ≡ 1
  written-three =
      let l = asked_leaf two.desk Read 1 1 [] 1 leaf-is in
      ap written_of l.after ∙ (opened-changed two.desk Read 1 1 [] l.passed).written ∙ eqb-true (written_of two.desk) 1 written-two

  -- the server returns the path that was written: it is the path to the same leaf
  path-length-is : length f.path ≡ path_len small.sizes
  path-length-is =
      let c = finished-done (finish_checked m one.desk some_path some_buffer) _ done in
      let t = done-through m one.desk some_path some_buffer c in
      let v = first-stands m o small lent small-proper writing writing-fits in
      let s = first-open m o small lent small-proper writing writing-fits in
      ap length (ap (λ (x : Result Unit Refusal). kept_or x some_path (new_path m one.desk some_path)) c)
      ∙ path_size m o small (omega arith) one v some_path some_buffer t (returned-agrees m o small (omega arith) one v s some_path back)

  back-three : returned small three f.path
  back-three =
      record {
        size = path-length-is;
        items =
            λ k l item e.
            some_inj (item_of small.sizes f.path k) item
            (sym (there k l) ∙ e);
      }
    where
      there : (k : ℕ) → k ≤ 1 → wrote small.sizes 1 f.path one.server k (place_in small.sizes 1 k) ≡ some (item_of small.sizes f.path k)
      there k l = rw (le-leb k 1 l, eq-eqb (place_in small.sizes 1 k) (place_in small.sizes 1 k) refl) refl

  -- ---- the second finish only echoes

  echoes : finish_for (echoing m) three f.path ones ≡ echo m three.desk f.path ones
  echoes =
      ap (λ (b : Bool). echo_if b (finish_of m three.desk f.path ones) (echo m three.desk f.path ones)) (ap (λ (x : ℕ). eqb x 0) written-three)

  echo-accepted : Accepted (finish_for (echoing m) three f.path ones).answer
  echo-accepted =
      subst (λ (x : FinishResult). Accepted x.answer) (sym echoes) (answer-accepted (kind_asked three.desk) (was_marked m three.desk f.path))

  pub echoing-out : ⊥
  echoing-out =
      let k = d small (omega arith) three reached-three in
      let e = (k.plain f.path ones back-three echo-accepted reading refl).1 in
      let g : ones ≡ zeros record_len = sym (ap (λ (x : FinishResult). x.buffer) echoes) ∙ e in
      let z : ◌≡◌ {A = ℕ} 1 0 = ap (λ (x : List ℕ). get_or x 0 0) g in
      omega arith

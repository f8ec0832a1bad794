-- The steps of a request, put together: what ask, fetch, finish and put are known for gives what the request is. Assumes nothing.
use Rattle.std.specs.Prelude.{Err, Ok, Result, is_err}
use Prim.Native.Nat.{ℕ, ◌≤◌}
use mathlib.Core.Path.{◌≡◌, sym, ap, ◌∙◌}
use mathlib.Core.Bool.{Bool, true, false}
use mathlib.Core.List.{List}
use lib.ListN.{length}
use native.Mathlib.Omega.{arith}
use Rattle.sizes.specs.declared.Sizes.{Sizes}
use Rattle.sizes.specs.declared.Refusal.{Refusal}
use Rattle.desk.specs.declared.Kind.{Kind}
use Rattle.desk.specs.Layout.{b_at}
use Rattle.desk.specs.Readers.{sizes_of}
use Rattle.desk.proofs.Known.{known}
use Rattle.tree.specs.Tree as trees
use Rattle.asks.specs.Ask as ask
use Rattle.asks.proofs.Answers.{ask-leaf}
use Rattle.items.specs.Real.{real}
use Rattle.store.specs.declared.Finished.{Finished}
use Rattle.store.specs.Finish as finish
use Rattle.requests.specs.Request.{RequestResult, requested, put_unless, returned, finished_by, fetched_for, asked_for, request_of}

-- ---- finish, then put

module _ (s : Sizes) (leaf : ℕ) (tree : List ℕ) {a : Result Finished Refusal} {d p b : List ℕ} {f : finish.FinishResult} (e : finish.finish_result a d p b ≡ f) where
  with-tree : {x : List ℕ} → x ≡ put_unless (is_err a) tree (trees.put_of s leaf tree p).tree → requested (Ok (leaf, a)) d x p b ≡ returned s leaf tree f
  with-tree h = ap (λ (t : List ℕ). requested (Ok (leaf, a)) d t p b) h ∙ ap (returned s leaf tree) e

  pub returned-put : {o : Result Unit Refusal} {t : List ℕ} → is_err a ≡ false → trees.tree_result o t p ≡ trees.put_of s leaf tree p → requested (Ok (leaf, a)) d t p b ≡ returned s leaf tree f
  returned-put q h =
      with-tree (ap (λ (r : trees.TreeResult). r.tree) h ∙ sym (ap (λ (x : Bool). put_unless x tree (trees.put_of s leaf tree p).tree) q))

  pub returned-kept : is_err a ≡ true → requested (Ok (leaf, a)) d tree p b ≡ returned s leaf tree f
  returned-kept q = with-tree (sym (ap (λ (x : Bool). put_unless x tree (trees.put_of s leaf tree p).tree) q))

-- ---- fetch before that

module _ (s : Sizes) (leaf : ℕ) (desk tree path buffer : List ℕ) {o : Result Unit Refusal} {p : List ℕ} (e : trees.tree_result o tree p ≡ trees.fetch_of s leaf tree path) where
  fetched-by : {x : RequestResult} → x ≡ finished_by o s leaf desk tree p buffer → x ≡ fetched_for s leaf desk tree path buffer
  fetched-by h = h ∙ ap (λ (t : trees.TreeResult). finished_by t.answer s leaf desk tree t.path buffer) e

  pub fetch-refused : {r : Refusal} → o ≡ Err r → requested (Ok (leaf, Err r)) desk tree p buffer ≡ fetched_for s leaf desk tree path buffer
  fetch-refused h = fetched-by (sym (ap (λ (x : Result Unit Refusal). finished_by x s leaf desk tree p buffer) h))

  pub fetch-done : {x : RequestResult} → o ≡ Ok tt → x ≡ returned s leaf tree (finish.finish_of real desk p buffer) → x ≡ fetched_for s leaf desk tree path buffer
  fetch-done h k = fetched-by (k ∙ sym (ap (λ (x : Result Unit Refusal). finished_by x s leaf desk tree p buffer) h))

-- ---- ask before that

module _ (desk tree path buffer : List ℕ) (kind : Kind) (id leaf : ℕ) {a : Result ℕ Refusal} {d : List ℕ} (e : ask.ask_result a d ≡ ask.ask_of desk kind id leaf buffer) where
  asked_by : {x : RequestResult} → x ≡ asked_for a d tree path buffer → x ≡ request_of desk tree path buffer kind id leaf
  asked_by h = h ∙ ap (λ (t : ask.AskResult). asked_for t.answer t.desk tree path buffer) e

  pub ask-refused : {r : Refusal} → a ≡ Err r → requested (Err r) d tree path buffer ≡ request_of desk tree path buffer kind id leaf
  ask-refused h = asked_by (sym (ap (λ (x : Result ℕ Refusal). asked_for x d tree path buffer) h))

  pub ask-done : {x : RequestResult} {position : ℕ} → a ≡ Ok position → x ≡ fetched_for (sizes_of d) position d tree path buffer → x ≡ request_of desk tree path buffer kind id leaf
  ask-done h k = asked_by (k ∙ sym (ap (λ (x : Result ℕ Refusal). asked_for x d tree path buffer) h))

  -- the desk of an accepted ask is long enough to read its sizes
  pub ask-head : {position : ℕ} → a ≡ Ok position → b_at ≤ length desk
  ask-head h = omega (arith, (known desk (ask-leaf desk kind id leaf buffer (sym (ap (λ (x : Result ℕ Refusal). ask.ask_result x d) h) ∙ e)).passed.good).size)

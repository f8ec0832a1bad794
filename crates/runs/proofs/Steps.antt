-- What a step comes to, from what its calls answered; and the bounds that the shelf's buffers go by. Assumes nothing.
use Rattle.sizes.specs.declared.Refusal.{Refusal}
use Prim.Native.Nat.{ℕ, zero, suc, ◌+◌, ◌≤◌}
use mathlib.Core.Path.{◌≡◌, refl, sym, ap, subst, ◌∙◌}
use mathlib.Core.Bool.{Bool, true}
use mathlib.Core.List.{List, [], ◌++◌}
use native.Mathlib.Omega.{arith}
use lib.ListN.{length, take, drop}
use lib.Seq.{length-take-le, take_at}
use Rattle.words.proofs.Splice.{splice-nil}
use Rattle.sizes.specs.Sizes.{sized, tree_len, path_len, most_slots}
use Rattle.desk.specs.declared.Kind.{Kind}
use Rattle.formats.specs.Format.{format_of, format_result}
use Rattle.requests.specs.Request.{Answered}
use Rattle.requests.specs.Request as requests
use Rattle.requests.specs.Request.{RequestResult, requested}
use Rattle.setup.specs.declared.Store.{Store}
use Rattle.setup.specs.Setup.{start_good, start_leaves, most_shelf_height}
use Rattle.std.specs.Prelude.{Option, Some, Result}
use Rattle.script.specs.declared.Request.{Request}
use Rattle.script.specs.Lines.{request_of, record_of}
use Rattle.listing.specs.Listing.{Wrote, most_row}
use Rattle.runs.specs.declared.run.Run.{Run}
use Rattle.runs.specs.declared.run.Run.TheVariants as run
use Rattle.runs.specs.Shelf.{key, Shelf, shelf, over, desk_len_of, tree_len_of, path_len_of, most_tree, most_path}
use Rattle.runs.specs.Run.{Moved, format_by, second_step, row_for, request_on, after_request, request_step, Became, Answers}

-- what a step comes to may be said by an equal
pub became : {m m' : Moved} {out out' : List ℕ} {r : Run} {w : ℕ} {sh : Shelf} → m ≡ m' → Became m' out out' r w sh → Became m out out' r w sh
became {m} {m'} {out} {out'} {r} {w} {sh} e b = subst (λ (x : Moved). Became x out out' r w sh) (sym e) b

-- nothing was written
pub silent : (out : List ℕ) → Wrote out 0 [] out 0
silent out = record { is = sym (splice-nil out 0); next_is = refl }

-- ---- a tree of the shelf is low, and its buckets are few

pub tree_most : (h z : ℕ) → 1 ≤ h → h ≤ most_shelf_height → z ≤ most_slots → tree_len (sized h z) ≤ most_tree
tree_most zero z a b c = absurd (omega arith)
tree_most (suc zero) z a b c = omega arith
tree_most (suc (suc zero)) z a b c = omega arith
tree_most (suc (suc (suc zero))) z a b c = omega arith
tree_most (suc (suc (suc (suc h)))) z a b c = absurd (omega arith)

pub path_most : (h z : ℕ) → 1 ≤ h → h ≤ most_shelf_height → z ≤ most_slots → path_len (sized h z) ≤ most_path
path_most zero z a b c = absurd (omega arith)
path_most (suc zero) z a b c = omega arith
path_most (suc (suc zero)) z a b c = omega arith
path_most (suc (suc (suc zero))) z a b c = omega arith
path_most (suc (suc (suc (suc h)))) z a b c = absurd (omega arith)

-- ---- the second line

-- it can be read, and format answered a and left d
pub second-by : (x : Store) (xs : List ℕ) (sh : Shelf) (a : Result Unit Refusal) (d : List ℕ) (m : ℕ) (ls : List ℕ) → start_good x.ids xs ≡ true → m ≡ desk_len_of x → ls ≡ start_leaves (take x.ids sh.leaves) xs
    → format_result a d ≡ format_of (take m sh.desk) x.height x.slots x.room x.ids key ls
    → second_step (start_good x.ids xs) x xs sh
    ≡ format_by a x (shelf (over m sh.desk d) sh.tree sh.path sh.buffer (over x.ids sh.leaves ls))
second-by x xs sh a d m ls e f g r =
    ap (λ (b : Bool). second_step b x xs sh) e
    ∙ rw (← f, ← g) (ap (λ q. format_by q.answer x (shelf (over m sh.desk q.desk) sh.tree sh.path sh.buffer (over x.ids sh.leaves ls))) (sym r))

-- the same, of what the calls said: start_line answered g and left ls, and format answered a, which is b
pub second-said : (x : Store) (xs desk leaves : List ℕ) (a b : Result Unit Refusal) (d ls : List ℕ) (m : ℕ) (g : Bool) → x.ids ≤ length leaves → length ls ≡ length (take x.ids leaves)
    → g ≡ start_good (length (take x.ids leaves)) xs → g ≡ true → m ≡ desk_len_of x → ls ≡ start_leaves (take x.ids leaves) xs
    → format_result a d ≡ format_of (take m desk) x.height x.slots x.room x.ids key (take x.ids (ls ++ drop x.ids leaves)) → a ≡ b
    → second_step (start_good x.ids xs) x xs (shelf desk [] [] [] leaves) ≡ format_by b x (shelf (over m desk d) [] [] [] (over x.ids leaves ls))
second-said x xs desk leaves a b d ls m g h k e f i j r o =
    let n = x.ids in
    let l : length (take n leaves) ≡ n = length-take-le n leaves h in
    let s : start_good n xs ≡ true = ap (λ (c : ℕ). start_good c xs) (sym l) ∙ sym e ∙ f in
    let q = r ∙ ap (λ (c : List ℕ). format_of (take m desk) x.height x.slots x.room n key c) (take_at ls (drop n leaves) n (k ∙ l)) in
    second-by x xs (shelf desk [] [] [] leaves) a d m ls s i j q
    ∙ ap (λ (c : Result Unit Refusal). format_by c x (shelf (over m desk d) [] [] [] (over n leaves ls))) o

-- ---- a request

-- its call answered a and left d, t, p and b, of buffers of the lengths that the store has
pub answers_by : (x : Store) (kind : Kind) (id leaf : ℕ) (sh : Shelf) (a : Answered) (d t p b : List ℕ) (dl tl pl : ℕ) → dl ≡ desk_len_of x → tl ≡ tree_len_of x → pl ≡ path_len_of x
    → requested a d t p b ≡ requests.request_of (take dl sh.desk) (take tl sh.tree) (take pl sh.path) sh.buffer kind id leaf
    → Answers (request_on x kind id leaf sh.buffer sh) x sh a (shelf (over dl sh.desk d) (over tl sh.tree t) (over pl sh.path p) b sh.leaves)
answers_by x kind id leaf sh a d t p b dl tl pl f g h r =
    let e : requested a d t p b ≡ request_on x kind id leaf sh.buffer sh = rw (← f, ← g, ← h) r in
    record {
      answer_is = ap (λ (q : RequestResult). q.answer) e;
      shelf_is = rw (f, g, h) (ap (λ (q : RequestResult). after_request q x sh) e);
    }

-- the line was read as a request, which was answered, and the answer was listed
pub request-said : (x : Store) (k : ℕ) (xs : List ℕ) (d t p b lent : List ℕ) (q : Request) (a : Answered) (sh : Shelf) {out out' : List ℕ} {w : ℕ}
    → request_of xs ≡ Some q → lent ≡ record_of (drop q.text xs)
    → Answers (request_on x q.kind q.id q.leaf lent (shelf d t p lent [])) x (shelf d t p lent []) a sh
    → Wrote out 0 (row_for a (k + 1) q.kind q.id sh.buffer) out' w → w ≤ most_row
    → Became (request_step (request_of xs) x k xs (shelf d t p b [])) out out' (run.Ready x (k + 1)) w sh
request-said x k xs d t p b lent r a sh e f q o m =
    became (ap (λ (y : Option Request). request_step y x k xs (shelf d t p b [])) e) (rw (← f) (record { run_is = refl; shelf_is = q.shelf_is; wrote = rw (← q.answer_is, ← ap (λ (s : Shelf). s.buffer) q.shelf_is) o; most = m }))

-- Answers and what they come from: which are accepted, which outcome a refusal has, what an accepted format and an accepted ask leave. Assumes nothing.
use Rattle.std.specs.Prelude.{Err, Ok, Result}
use Prim.Native.Nat.{ℕ}
use mathlib.Core.Path.{◌≡◌, refl, sym}
use mathlib.Core.Bool.{Bool, true, false}
use mathlib.Core.List.{List}
use native.Mathlib.Omega.{arith}
use Rattle.sizes.specs.declared.Refusal.{Refusal}
use Rattle.desk.specs.declared.Kind.{Kind}
use Rattle.desk.specs.declared.Kind.TheVariants.{Read, Write}
use Rattle.asks.specs.Ask.{asked_of, ask_of}
use Rattle.asks.proofs.Answers.{AskedLeaf, ask-leaf}
use Rattle.formats.specs.Format.{formatted}
use Rattle.formats.proofs.Passed.{FormatPassed, format-passed}
use Rattle.store.specs.declared.Finished.{Finished}
use Rattle.store.specs.declared.Finished.TheVariants as finished
use Rattle.store.specs.Steps.{answer_for}
use Rattle.store.specs.Finish.{finished_or}
use Rattle.promises.specs.Stores.{Start, format_for, Accepted}

-- ---- finish

pub accept-record : Accepted (Ok finished.Record)
accept-record q h = let z : ◌≡◌ {A = ℕ} 0 1 = cc in omega arith

pub accept-never : Accepted (Ok finished.Never)
accept-never q h = let z : ◌≡◌ {A = ℕ} 0 1 = cc in omega arith

pub accept-done : Accepted (Ok finished.Done)
accept-done q h = let z : ◌≡◌ {A = ℕ} 0 1 = cc in omega arith

pub answer-accepted : (kind : Kind) (marked : Bool) → Accepted (Ok (answer_for kind marked))
answer-accepted Read true = accept-record
answer-accepted Read false = accept-never
answer-accepted Write marked = accept-done

pub finished-refused : (o : Result Unit Refusal) (kind : Kind) (marked : Bool) (q : Refusal) → finished_or o (answer_for kind marked) ≡ Err q → o ≡ Err q
finished-refused (Err r) kind marked q h = cc
finished-refused (Ok tt) kind marked q h = absurd (answer-accepted kind marked q h)

pub finished-done : (o : Result Unit Refusal) (a : Finished) → Accepted (finished_or o a) → o ≡ Ok tt
finished-done (Err r) a h = absurd (h r refl)
finished-done (Ok tt) a h = refl

-- ---- ask

pub asked-refused : (o : Result Unit Refusal) (p : ℕ) (q : Refusal) → asked_of o p ≡ Err q → o ≡ Err q
asked-refused (Err r) p q h = cc
asked-refused (Ok tt) p q h = let z : ◌≡◌ {A = ℕ} 0 1 = cc in absurd (omega arith)

pub asked_leaf : (desk : List ℕ) (kind : Kind) (u x : ℕ) (content : List ℕ) (p : ℕ) → (ask_of desk kind u x content).answer ≡ Ok p
    → AskedLeaf desk kind u x content p (ask_of desk kind u x content).desk
asked_leaf desk kind u x content p h = ask-leaf desk kind u x content (λ i. record { answer = sym h i; desk = (ask_of desk kind u x content).desk })

-- ---- format

pub passed : (b : Start) (lent : List ℕ) → (format_for b lent).answer ≡ Ok tt → FormatPassed lent b.sizes.height b.sizes.slots b.room b.ids b.key b.starts
passed b lent h = format-passed lent b.sizes.height b.sizes.slots b.room b.ids b.key b.starts h

pub format-desk : (b : Start) (lent : List ℕ) → (format_for b lent).answer ≡ Ok tt
    → (format_for b lent).desk ≡ formatted b.sizes.height b.sizes.slots b.room b.ids b.key b.starts
format-desk b lent h = rw h refl

-- What a caller learns of ask's answer, by its case; and that the answer and the desk are determined. Assumes nothing.
use Rattle.std.specs.Prelude.{Err, Ok, Result}
use Prim.Native.Nat.{ℕ}
use mathlib.Core.Path.{◌≡◌, refl, sym, ap, ◌∙◌}
use mathlib.Core.List.{List}
use native.Mathlib.Omega.{arith}
use Rattle.sizes.specs.declared.Refusal.{Refusal}
use Rattle.desk.specs.declared.Kind.{Kind}
use Rattle.desk.specs.Readers.{position_of}
use Rattle.desk.specs.Status.{stopped, stopped_or}
use Rattle.asks.specs.Ask.{AskResult, asked_of, ask_of, ask_checked, opened, ask_result}
use Rattle.asks.proofs.Passed.{AskPassed, ask-passed, ask-spares}

-- the answer is a leaf: nothing was refused, the leaf is the id's position before, and the desk is the opened one
pub record AskedLeaf (desk : List ℕ) (kind : Kind) (id leaf : ℕ) (rec : List ℕ) (p : ℕ) (d : List ℕ) : Type 0 where
  pub passed : AskPassed desk kind id leaf rec
  pub position : p ≡ position_of desk id
  pub after : d ≡ opened desk kind id leaf rec

leaf-of : (o : Result Unit Refusal) (q : ℕ) (old new : List ℕ) {p : ℕ} {d : List ℕ} → Ok p ≡ asked_of o q → d ≡ stopped_or o old new → (o ≡ Ok tt) × ((p ≡ q) × (d ≡ new))
leaf-of (Ok tt) q old new h e = (refl, (cc, e))
leaf-of (Err r) q old new h e = let z : ◌≡◌ {A = ℕ} 0 1 = cc in absurd (omega arith)

refused-of : (o : Result Unit Refusal) (q : ℕ) (old new : List ℕ) {s : Refusal} {d : List ℕ} → Err s ≡ asked_of o q → d ≡ stopped_or o old new → (o ≡ Err s) × (d ≡ stopped s old)
refused-of (Ok tt) q old new h e = let z : ◌≡◌ {A = ℕ} 0 1 = cc in absurd (omega arith)
refused-of (Err r) q old new {s} h e = let f : r ≡ s = cc in (cc, e ∙ ap (λ (x : Refusal). stopped x old) f)

module _ (desk : List ℕ) (kind : Kind) (id leaf : ℕ) (rec : List ℕ) where
  pub ask-leaf : {p : ℕ} {d : List ℕ} → ask_result (Ok p) d ≡ ask_of desk kind id leaf rec → AskedLeaf desk kind id leaf rec p d
  ask-leaf h =
      let k = leaf-of (ask_checked desk kind id leaf rec) (position_of desk id) desk (opened desk kind id leaf rec) (ap (λ (r : AskResult). r.answer) h) (ap (λ (r : AskResult). r.desk) h) in
      record { passed = ask-passed k.0; position = k.1.0; after = k.1.1 }

  -- a refusal: it is the first that applies, and the desk is as it was
  pub ask-refused : {s : Refusal} {d : List ℕ} → ask_result (Err s) d ≡ ask_of desk kind id leaf rec → (ask_checked desk kind id leaf rec ≡ Err s) × (d ≡ desk)
  ask-refused h =
      let k = refused-of (ask_checked desk kind id leaf rec) (position_of desk id) desk (opened desk kind id leaf rec) (ap (λ (r : AskResult). r.answer) h) (ap (λ (r : AskResult). r.desk) h) in
      (k.0, k.1 ∙ ask-spares desk kind id leaf rec k.0 desk)

  -- two results that the contract allows are equal
  pub ask_once : {a b : Result ℕ Refusal} {d e : List ℕ} → ask_result a d ≡ ask_of desk kind id leaf rec → ask_result b e ≡ ask_of desk kind id leaf rec → (a ≡ b) × (d ≡ e)
  ask_once p q = (ap (λ (r : AskResult). r.answer) (p ∙ sym q), ap (λ (r : AskResult). r.desk) (p ∙ sym q))

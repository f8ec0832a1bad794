-- What a whole request's answer says of its ask: a refusal alone is the ask's, and changes nothing. Assumes nothing.
use Rattle.std.specs.Prelude.{Err, Ok, Result}
use Prim.Native.Nat.{ℕ}
use mathlib.Core.Path.{◌≡◌, refl, sym, ap, ◌∙◌}
use mathlib.Core.List.{List}
use native.Mathlib.Omega.{arith}
use Rattle.sizes.specs.declared.Sizes.{Sizes}
use Rattle.sizes.specs.declared.Refusal.{Refusal}
use Rattle.desk.specs.declared.Kind.{Kind}
use Rattle.desk.specs.Readers.{sizes_of}
use Rattle.items.specs.Real.{real}
use Rattle.tree.specs.Tree.{fetch_of}
use Rattle.asks.specs.Ask.{ask_of}
use Rattle.store.specs.declared.Finished.{Finished}
use Rattle.requests.specs.Request.{Answered, finished_by, asked_for, request_of}
use Rattle.promises.proofs.One.{demand-one}

-- the leaf of an answer, and what came of its finish
abbrev pub leaf_in : Answered → ℕ
leaf_in (Ok (leaf, f)) = leaf
leaf_in (Err q) = 0

abbrev pub came_in : Answered → Result Finished Refusal
came_in (Ok (leaf, f)) = f
came_in (Err q) = Err q

asked-not : (o : Result Unit Refusal) (s : Sizes) (p : ℕ) (desk tree path buffer : List ℕ) (q : Refusal) → (finished_by o s p desk tree path buffer).answer ≡ Err q → ⊥
asked-not (Ok tt) s p desk tree path buffer q h = let z : ◌≡◌ {A = ℕ} 0 1 = cc in omega arith
asked-not (Err r) s p desk tree path buffer q h = let z : ◌≡◌ {A = ℕ} 0 1 = cc in omega arith

-- a request that is answered by a refusal alone was refused by its ask; any other was asked
pub was-refused : (desk tree path buffer : List ℕ) (kind : Kind) (id leaf : ℕ) (q : Refusal)
    → (request_of desk tree path buffer kind id leaf).answer ≡ Err q → (ask_of desk kind id leaf buffer).answer ≡ Err q
was-refused desk tree path buffer kind id leaf q e = go (ask_of desk kind id leaf buffer).answer refl
  where
    go : (a : Result ℕ Refusal) → (ask_of desk kind id leaf buffer).answer ≡ a → (ask_of desk kind id leaf buffer).answer ≡ Err q
    go (Ok p) h =
        let x = (ask_of desk kind id leaf buffer).desk in
        absurd
        (asked-not (fetch_of (sizes_of x) p tree path).answer (sizes_of x) p x tree (fetch_of (sizes_of x) p tree path).path buffer q
        (sym (ap (λ (a : Result ℕ Refusal). (asked_for a x tree path buffer).answer) h) ∙ e))
    go (Err r) h =
        let w : ◌≡◌ {A = Answered} (Err r) (Err q) =
        sym (ap (λ (a : Result ℕ Refusal). (asked_for a (ask_of desk kind id leaf buffer).desk tree path buffer).answer) h) ∙ e in
        h ∙ cc

pub was-asked : (desk tree path buffer : List ℕ) (kind : Kind) (id leaf p : ℕ) (f : Result Finished Refusal)
    → (request_of desk tree path buffer kind id leaf).answer ≡ Ok (p, f) → (x : ℕ) × ((ask_of desk kind id leaf buffer).answer ≡ Ok x)
was-asked desk tree path buffer kind id leaf p f e = go (ask_of desk kind id leaf buffer).answer refl
  where
    go : (a : Result ℕ Refusal) → (ask_of desk kind id leaf buffer).answer ≡ a → (x : ℕ) × ((ask_of desk kind id leaf buffer).answer ≡ Ok x)
    go (Ok x) h = (x, h)
    go (Err q) h =
        let w : ◌≡◌ {A = Answered} (Err q) (Ok (p, f)) =
        sym (ap (λ (a : Result ℕ Refusal). (asked_for a (ask_of desk kind id leaf buffer).desk tree path buffer).answer) h) ∙ e in
        let z : ◌≡◌ {A = ℕ} 0 1 = cc in
        absurd (omega arith)

pub refuses : (desk tree path buffer : List ℕ) (kind : Kind) (id leaf : ℕ) (q : Refusal) → (request_of desk tree path buffer kind id leaf).answer ≡ Err q
    → ((request_of desk tree path buffer kind id leaf).desk ≡ desk) × ((request_of desk tree path buffer kind id leaf).tree ≡ tree)
    × ((request_of desk tree path buffer kind id leaf).path ≡ path) × ((request_of desk tree path buffer kind id leaf).buffer ≡ buffer)
refuses desk tree path buffer kind id leaf q e =
    let h = was-refused desk tree path buffer kind id leaf q e in
    let x = (ask_of desk kind id leaf buffer).desk in (
      ap (λ (a : Result ℕ Refusal). (asked_for a x tree path buffer).desk) h ∙ (demand-one real).ask_refuses desk kind id leaf buffer q h,
      ap (λ (a : Result ℕ Refusal). (asked_for a x tree path buffer).tree) h,
      ap (λ (a : Result ℕ Refusal). (asked_for a x tree path buffer).path) h,
      ap (λ (a : Result ℕ Refusal). (asked_for a x tree path buffer).buffer) h,
    )

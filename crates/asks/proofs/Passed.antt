-- What is known where ask refuses nothing, and that its refusals change nothing. Assumes nothing.
use Rattle.std.specs.Prelude.{Err, Ok}
use Prim.Native.Nat.{ℕ, ◌≤◌, ◌<◌}
use mathlib.Core.Path.{◌≡◌, refl}
use mathlib.Core.Bool.{true}
use mathlib.Core.List.{List, [], ◌∷◌}
use lib.ListN.{length, length-append}
use lib.Dec.{leb}
use borrow.Author.Tests.{leb-true, leb-false, eqb-false, not-false}
use native.Mathlib.Omega.{arith}
use Rattle.words.proofs.Numbers.{length-bytes_of}
use Rattle.words.proofs.Tests.{each}
use Rattle.sizes.specs.Sizes.{leaves, request_head}
use Rattle.sizes.specs.Refusals.{NoneOf}
use Rattle.sizes.proofs.Rows.{none-applies}
use Rattle.sizes.specs.declared.Refusal.{Refusal}
use Rattle.desk.specs.declared.Kind.{Kind}
use Rattle.desk.specs.Layout.{ids_of, shape_of}
use Rattle.desk.specs.Readers.{sizes_of, status_of}
use Rattle.desk.specs.Status.{ready_status, stopped}
use Rattle.desk.specs.Good.{good_desk}
use Rattle.desk.proofs.Known.{Known, known}
use Rattle.desk.proofs.Refused.{spared}
use Rattle.asks.specs.Ask.{record_fits, ask_rows, ask_checked, head_bytes}

pub record AskPassed (desk : List ℕ) (kind : Kind) (id leaf : ℕ) (rec : List ℕ) : Type 0 where
  pub good : good_desk desk ≡ true
  pub known : Known desk
  pub ready : status_of desk ≡ ready_status
  pub id_low : 1 ≤ id
  pub id_high : id ≤ ids_of desk
  pub leaf_high : leaf < leaves (sizes_of desk)
  pub fits : record_fits (shape_of desk).r kind rec ≡ true

pub ask-passed : {desk : List ℕ} {kind : Kind} {id leaf : ℕ} {rec : List ℕ} → ask_checked desk kind id leaf rec ≡ Ok tt → AskPassed desk kind id leaf rec
unfolding ask_checked
ask-passed {desk} {kind} {id} {leaf} {rec} h =
    let n : NoneOf (ask_rows desk kind id leaf rec) = none-applies (ask_rows desk kind id leaf rec) h in
    let g : good_desk desk ≡ true = not-false _ n.0 in
    let i = each (leb 1 id ∷ leb id (ids_of desk) ∷ []) (not-false _ n.1.1.1.0) in
    let low : status_of desk < 2 = leb-false _ _ n.1.0 in
    let shut : status_of desk ≡ 1 → ⊥ = eqb-false _ _ n.1.1.0 in
    record {
      good = g;
      known = known desk g;
      ready = omega arith;
      id_low = leb-true _ _ i.0;
      id_high = leb-true _ _ i.1.0;
      leaf_high = leb-false _ _ n.1.1.1.1.0;
      fits = not-false _ n.1.1.1.1.1.0;
    }

pub ask-spares : (desk : List ℕ) (kind : Kind) (id leaf : ℕ) (rec : List ℕ) {r : Refusal} → ask_checked desk kind id leaf rec ≡ Err r → (d : List ℕ) → stopped r d ≡ d
unfolding ask_checked
ask-spares desk kind id leaf rec {r} h d =
    spared (ask_rows desk kind id leaf rec) ((λ x. refl), ((λ x. refl), ((λ x. refl), ((λ x. refl), ((λ x. refl), ((λ x. refl), tt)))))) r h d

pub length-head : (kind : Kind) (id leaf : ℕ) → length (head_bytes kind id leaf) ≡ request_head
length-head kind id leaf = simp (length-append, length-bytes_of)

-- The order of refusals: what is known where no row applies, and where one does. Assumes nothing.
use Rattle.std.specs.Prelude.{Err, Ok, Result}
use mathlib.Core.Path.{◌≡◌, refl}
use mathlib.Core.Bool.{Bool, true, false, cond}
use mathlib.Core.List.{List, [], ◌∷◌}
use Prim.Native.Nat.{ℕ}
use native.Mathlib.Omega.{arith}
use Rattle.sizes.specs.declared.Refusal.{Refusal}
use Rattle.sizes.specs.Refusals.{first_of, NoneOf}

pub not-refused : (r : Refusal) → ◌≡◌ {A = Result Unit Refusal} (Err r) (Ok tt) → ⊥
not-refused r h = let z : ◌≡◌ {A = ℕ} 0 1 = cc in omega arith

done_at : (b : Bool) (r : Refusal) (o : Result Unit Refusal) → cond b (Err r) o ≡ Ok tt → (b ≡ false) × (o ≡ Ok tt)
done_at true r o h = absurd (not-refused r h)
done_at false r o h = (refl, h)

-- where none applies every row's test is false
pub none-applies : (rows : List (Bool × Refusal)) → first_of rows ≡ Ok tt → NoneOf rows
none-applies [] h = tt
none-applies (row ∷ rows) h =
    let d = done_at row.0 row.1 (first_of rows) h in
    (d.0, none-applies rows d.1)

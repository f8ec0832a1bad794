-- A word in any case: what its first bytes are in capitals. Assumes nothing.
use Prim.Native.Nat.{ℕ, zero, suc, ◌≤◌, ◌<◌}
use mathlib.Core.Path.{◌≡◌, refl, sym, ap, ◌∙◌}
use mathlib.Core.Bool.{Bool, true, false}
use mathlib.Core.List.{List, [], ◌∷◌, map}
use native.Mathlib.Omega.{arith}
use lib.ListN.{length, take, get_or}
use lib.Seq.{length-take-le, get_or-take}
use Rattle.std.proofs.lemmas.Bool.Decides.{nat_tests}
use Rattle.std.specs.Prelude.{◌↔◌}
use Rattle.std.specs.Bool.{IsTrue}
use Rattle.std.specs.Char.{to_ascii_lowercase}
use Rattle.words.specs.Bytes.{same}
use Rattle.words.proofs.Tests.{by_cases, same-eq, same_refl}
use Rattle.lines.specs.Words.{capital, capitals}

pub length-capitals : (xs : List ℕ) → length (capitals xs) ≡ length xs
unfolding capitals
length-capitals [] = refl
length-capitals (x ∷ xs) = ap suc (length-capitals xs)

get_d-capitals : (xs : List ℕ) (i : ℕ) → i < length xs → get_or (capitals xs) i 0 ≡ capital (get_or xs i 0)
unfolding capitals
get_d-capitals [] i h = absurd (omega arith)
get_d-capitals (x ∷ xs) zero h = refl
get_d-capitals (x ∷ xs) (suc i) h = get_d-capitals xs i (omega arith)

-- the first n bytes, in capitals
pub length_front : (n : ℕ) (xs : List ℕ) → n ≤ length xs → length (capitals (take n xs)) ≡ n
length_front n xs h = length-capitals (take n xs) ∙ length-take-le n xs h

pub get_d_front : (n : ℕ) (xs : List ℕ) (i : ℕ) → n ≤ length xs → i < n → get_or (capitals (take n xs)) i 0 ≡ capital (get_or xs i 0)
get_d_front n xs i h k = get_d-capitals (take n xs) i (omega (arith, length-take-le n xs h)) ∙ ap capital (get_or-take n xs i 0 k)

-- ---- what the library says of two texts that differ in their case alone, the second in capitals

lower-of : (a w : ℕ) → capital w ≡ w → to_ascii_lowercase a ≡ to_ascii_lowercase w → capital a ≡ w
lower-of a w h e = grind (arith, nat_tests)

capital-of : (a : ℕ) → to_ascii_lowercase (capital a) ≡ to_ascii_lowercase a
capital-of a = grind (arith, nat_tests)

to-capitals : (xs ws : List ℕ) → capitals ws ≡ ws → map to_ascii_lowercase xs ≡ map to_ascii_lowercase ws → capitals xs ≡ ws
unfolding capitals
to-capitals [] [] h e = refl
to-capitals [] (w ∷ ws) h e = absurd (cc)
to-capitals (x ∷ xs) [] h e = absurd (cc)
to-capitals (x ∷ xs) (w ∷ ws) h e =
    let c : capital x ≡ w = lower-of x w (cc) (cc) in
    let r : capitals xs ≡ ws = to-capitals xs ws (cc) (cc) in
    rw (c, r)

from-capitals : (xs : List ℕ) → map to_ascii_lowercase (capitals xs) ≡ map to_ascii_lowercase xs
unfolding capitals
from-capitals [] = refl
from-capitals (x ∷ xs) = rw (capital-of x, from-capitals xs)

pub ignoring : (r : Bool) (xs ws : List ℕ) → capitals ws ≡ ws → (IsTrue r ↔ (map to_ascii_lowercase xs ≡ map to_ascii_lowercase ws)) → r ≡ same (capitals xs) ws
ignoring true xs ws h e = sym (rw (to-capitals xs ws h (e.0 refl)) (same_refl ws))
ignoring false xs ws h e =
    by_cases (same (capitals xs) ws)
    (λ t. e.1 (sym (from-capitals xs) ∙ ap (map to_ascii_lowercase) (same-eq (capitals xs) ws t)) ∙ sym t)
    (λ f. sym f)

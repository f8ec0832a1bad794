-- Numbers in bytes. All numbers of the store are little-endian; the words of the digest are big-endian. Assumes nothing.
use Rattle.std.specs.Prelude.{ℕ, zero, suc, ◌+◌, ◌*◌, ◌/◌, ◌%◌, List, [], ◌∷◌, ◌++◌, get_or}

-- the number that n bytes of xs from place `at` on show, the lowest byte first
unfoldable pub number : ℕ → List ℕ → ℕ → ℕ
number zero xs at = 0
number (suc n) xs at = get_or xs at 0 + 256 * number n xs (at + 1)

-- x in n bytes, the lowest first; what does not fit is left out
unfoldable pub bytes_of : ℕ → ℕ → List ℕ
bytes_of zero x = []
bytes_of (suc n) x = x % 256 ∷ bytes_of n (x / 256)

-- the same with the highest byte first
unfoldable pub big_number : ℕ → List ℕ → ℕ → ℕ
big_number zero xs at = 0
big_number (suc n) xs at = big_number n xs at * 256 + get_or xs (at + n) 0

unfoldable pub big_bytes_of : ℕ → ℕ → List ℕ
big_bytes_of zero x = []
big_bytes_of (suc n) x = big_bytes_of n (x / 256) ++ (x % 256 ∷ [])

-- Forty-eight places of body (d) looked at together: no byte of theirs is above the one at its place among forty-eight good ones. Assumes nothing.
use Rattle.std.specs.Prelude.{ℕ, ◌*◌, ◌≤◌, Bool, List, get_or, leb}
use Rattle.words.specs.Tests.{all}
use Rattle.sizes.specs.Sizes.{place_len}

abbrev pub together : ℕ
together = 48

abbrev pub together_len : ℕ
together_len = place_len * together

unfoldable pub none_above : List ℕ → List ℕ → Bool
none_above d top = all together_len (λ i. leb (get_or d i 0) (get_or top i 0))

-- a number of leaves of which the last fits two bytes
abbrev pub InSixteenBits : ℕ → Type 0
InSixteenBits most = (1 ≤ most) × (most ≤ 65536)

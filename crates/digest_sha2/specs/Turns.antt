-- How a program goes through the schedule and the rounds, sixteen rounds a turn with sixteen words in hand. The standard is in Sha2.
-- Assumes nothing.
use Rattle.std.specs.Prelude.{◌≡◌, ℕ, ◌+◌, ◌%◌, ◌<◌, ◌≤◌, List, length, take, slice_index}
use Rattle.digest_sha2.specs.Sha2.{Sha2, next, run}

-- what makes ws a whole schedule, whatever its first sixteen words
pub record Follows (v : Sha2) (ws : List ℕ) : Type 0 where
  pub long : length ws ≡ v.rounds
  pub word : (i : ℕ) → 16 ≤ i → i < v.rounds → slice_index ws i ≡ next v (take i ws)

-- the sixteen words of ws from t + i on, in w from place i to the end and then from place 0 on: i words of the turn are overwritten
unfoldable pub Window : (ws w : List ℕ) (t i : ℕ) → Type 0
Window ws w t i = (j : ℕ) → j < 16 → slice_index w ((i + j) % 16) ≡ slice_index ws (t + i + j)

-- t rounds and i of the turn that follows are made, from s₀ on: the state is s, the words in hand are w
pub record Reached (v : Sha2) (ws s₀ : List ℕ) (t i : ℕ) (s w : List ℕ) : Type 0 where
  pub state : s ≡ run v ws (t + i) s₀
  pub words : Window ws w t i

-- The lengths on which a desk's layout depends, as contracts see a `Shape`. Assumes nothing.
use Rattle.std.specs.Prelude.{ℕ}

-- of body (b), of a record, and the numbers of ids and of stash slots
pub record Lengths : Type 0 where
  pub b : ℕ
  pub r : ℕ
  pub n : ℕ
  pub s : ℕ

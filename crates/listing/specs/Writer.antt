-- What a writer of text adds: its buffer's bytes from its place on, and the place after them. Assumes nothing.
use Rattle.std.specs.Prelude.{ℕ, ◌≡◌, ◌+◌, ◌≤◌, List, length}
use Rattle.std.specs.Borrow.{MutBor}
use Rattle.listing.specs.Listing.{Wrote}
use Rattle.listing.specs.declared.writer.Writer.{Writer}

-- the writer of a lent buffer that has nothing of its text yet
pub record AtStart (out : MutBor (List ℕ)) (w : Writer) : Type 0 where
  pub same : w.out.ghost_name ≡ out.ghost_name
  pub is : w.out.now ≡ out.now
  pub first : w.at ≡ 0

-- the same buffer, with bytes more of the text
pub record Adds (old : Writer) (bytes : List ℕ) (new : Writer) : Type 0 where
  pub same : new.out.ghost_name ≡ old.out.ghost_name
  pub room : length new.out.now ≡ length old.out.now
  pub wrote : Wrote old.out.now old.at bytes new.out.now new.at

abbrev pub HasRoom : Writer → ℕ → Type 0
HasRoom w n = w.at + n ≤ length w.out.now

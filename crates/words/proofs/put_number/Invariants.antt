-- `words::put_number` meets its contract: after i turns the first i bytes of x are there, and what is left of x makes the others. Assumes nothing.
use Prim.Native.Nat.{◌-◌}
use mathlib.Core.Path.{◌≡◌}
use lib.ListN.{length, take, drop}
use Rattle.words.specs.Numbers.{bytes_of}
use Rattle.words.proofs.put_number.Given as goal

abbrev pub invariant-loop-byte : goal.invariant-loop-byte
invariant-loop-byte l = (length l.byte-items ≡ l.n) × (drop l.byte-index (bytes_of l.n l.x) ≡ bytes_of (l.n - l.byte-index) l.left) × (take l.byte-index l.byte-items ≡ take l.byte-index (bytes_of l.n l.x))

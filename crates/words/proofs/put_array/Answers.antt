-- `words::put_array` meets its contract: the bytes given back in the place of a part are a splice. Assumes nothing.
use native.Mathlib.Omega.{arith}
use Rattle.words.proofs.Splice.{spliced}
use Rattle.words.proofs.put_array.Goals as goal

pub returns : goal.returns
returns g c = rw c.copy_from_slice.ensures.after (spliced _ _ _ _ (omega arith))

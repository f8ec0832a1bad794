-- The requested block as the code passes it on: whether there is one to place, and the record of a read of a marked id or else the request's. Assumes nothing.
use Rattle.std.specs.Prelude.{Bool, true, false, cond, List, ℕ}
use Rattle.desk.specs.declared.Kind.{Kind}
use Rattle.desk.specs.declared.Kind.TheVariants.{Read, Write}

-- a read of a marked id is answered with a record
abbrev pub is_found : Kind → Bool → Bool
is_found Read marked = marked
is_found Write marked = false

-- all but a read of an id that was never written have a block to place
abbrev pub is_there : Kind → Bool → Bool
is_there Read marked = marked
is_there Write marked = true

abbrev pub carried_on : Kind → Bool → List ℕ → List ℕ → List ℕ
carried_on kind marked found asked = cond (is_found kind marked) found asked

-- `desk::bodies::bodies_good` meets its contract: each body is tested where it stands. Assumes nothing.
use mathlib.Core.Path.{ap}
use Rattle.desk.specs.declared.Shape.{Shape}
use Rattle.desk.specs.Good.{bodies_good}
use Rattle.desk.proofs.Lengths.{tail-part}
use Rattle.desk.proofs.bodies.bodies_good.Goals as goal

pub returns : goal.returns
unfolding bodies_good
returns c =
    rw (c.request_good-c.ensures, c.places_good-d.ensures, ap (λ (h : Shape). h.n) c.h.view_is, c.stash_good-e.ensures, tail-part, c.c_at-c_at.ensures, c.d_at-d_at.ensures, c.e_at-e_at.ensures)

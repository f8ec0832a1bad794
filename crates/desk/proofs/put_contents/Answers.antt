-- `desk::put_contents` meets its contract: five pairs, each right after the one before. Assumes nothing.
use mathlib.Core.Path.{ap}
use Rattle.desk.specs.declared.Shape.{Shape}
use Rattle.desk.specs.Layout.{contents}
use Rattle.desk.proofs.Lengths.{length-pair, pairs-written}
use Rattle.desk.proofs.put_contents.Goals as goal

pub returns : goal.returns
unfolding contents
returns c =
    rw (
      c.put_pair-5.ensures,
      c.put_pair-4.ensures,
      c.put_pair-3.ensures,
      c.put_pair-2.ensures,
      c.put_pair.ensures,
      ap (λ (h : Shape). h.b) c.h.view_is,
      ap (λ (h : Shape). h.n) c.h-2.view_is,
      c.c_at.ensures,
      c.d_at.ensures,
      c.e_at.ensures,
      c.e_len.ensures,
      c.c_len.ensures,
    )
    (pairs-written c.args.dst.now _ _ _ _ _ (length-pair _ _) (length-pair _ _) (length-pair _ _) (length-pair _ _) c.requires)

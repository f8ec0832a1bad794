-- `asks::put_record` meets its contract: by the kind; a write's record has the length of a record. Assumes nothing.
use mathlib.Core.Path.{◌≡◌}
use native.Mathlib.Omega.{arith}
use lib.ListN.{length}
use borrow.Author.Tests.{eqb-true}
use Rattle.asks.proofs.put_record.Goals as goal

pub copy-requires : goal.copy-requires
copy-requires c =
    let f : length c.args.«record».now ≡ c.args.r = eqb-true _ _ (rw c.in-Write.is at c.requires.1) in
    omega arith

pub returns-in-Read : goal.returns-in-Read
returns-in-Read c = rw c.in-Read.is c.clear.ensures

pub returns-in-Write : goal.returns-in-Write
returns-in-Write c = rw c.in-Write.is c.copy.ensures

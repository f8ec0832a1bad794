-- `gathering::put_request` meets its contract: id, leaf and record, one behind another, are the block's slot. Assumes nothing.
use mathlib.Core.Path.{refl, sym}
use Rattle.slots.specs.Slots.{slots_bytes}
use Rattle.words.proofs.Splice.{splice-nil}
use Rattle.gathering.proofs.Taken.{request-laid}
use Rattle.gathering.proofs.put_request.Goals as goal

pub returns-in_default : goal.returns-in_default
unfolding slots_bytes
returns-in_default c = rw c.in_default.is (refl, sym (splice-nil c.args.bank.now 0))

pub returns : goal.returns
returns c =
    let a = c.args in
    rw c.in-Some.is (
      refl,
      request-laid a.bank.now c.put16.new.s c.put16-2.new.s c.copy.new.dst a.«record».now a.request.id c.in-Some.leaf c.requires.0 c.requires.1
          c.put16.ensures c.put16-2.ensures c.copy.ensures,
    )

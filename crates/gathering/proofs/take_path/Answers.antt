-- `gathering::take_path` meets its contract: after k turns the blocks of the first k items are in the bank. Assumes nothing.
use Prim.Native.Nat.{◌+◌, ◌*◌, ◌-◌}
use mathlib.Core.Path.{sym}
use native.Mathlib.Omega.{arith}
use lib.ListN.{length}
use Rattle.words.specs.Bytes.{part}
use Rattle.words.proofs.Splice.{splice-nil}
use Rattle.sizes.specs.Sizes.{slot_len, item_at, counter_len}
use Rattle.bags.specs.Bags.{those}
use Rattle.slots.specs.Slots.{slots_bytes}
use Rattle.gathering.specs.Gathering.{used_to}
use Rattle.gathering.proofs.Taken.{path-turn, slice-from}
use Rattle.gathering.proofs.take_path.Goals as goal

pub loop-k-init : goal.loop-k-init
unfolding used_to those slots_bytes
loop-k-init c = (omega arith, omega arith, sym (splice-nil c.args.bank.now (slot_len * c.args.m)))

pub loop-k-preserved : goal.loop-k-preserved
loop-k-preserved c =
    let l = c.loop-k in
    let a = c.args in
    let w = c.take_others-end in
    let at = c.item_at-a.result + 8 in
    let t = path-turn a.id a.s a.opened.now (part a.opened.now at (length a.opened.now - at)) a.bank.now l.bank w.new.bank a.m l.k l.end w.result
    (λ i. omega (arith, c.type_inv.opened i)) (omega arith) c.requires.in_range.1.1 (omega arith)
    (slice-from a.opened.now at (item_at a.s l.k + counter_len) (omega (arith, c.item_at-a.ensures.is))) l.invariant.1 w.ensures.value.0 l.invariant.2 w.ensures.bank_after in
    (omega (arith, w.ensures.value.1), t.0, t.1)

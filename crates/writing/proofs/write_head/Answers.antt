-- `writing::write_head` meets its contract: counter, plain slots, and these under the cipher. Assumes nothing.
use Rattle.std.proofs.Common.{◌+◌, ◌-◌, [], arith}
use Rattle.items.specs.Real.{real}
use Rattle.writing.specs.Writing.{new_counter}
use Rattle.writing.proofs.Heads.{head-given}
use Rattle.writing.proofs.write_head.Goals as goal

pub returns : goal.returns
returns c =
    let a = c.args in
    let at = c.item_at-at.result in
    let n = c.leaf_len.result in
    head-given a.v a.path.now a.new.now a.k c.requires.k_le_height.0 c.requires.carries.0.room c.requires.carries.1.room
    c.next_counter.result (new_counter real a.v a.path.now [] a.k) at (at + 8) (at + n - (at + 8)) c.next_counter.ensures
    c.item_at-at.ensures.is (omega arith) (omega (arith, c.leaf_len.ensures)) c.put64.new.s c.copy.new.dst c.cipher_slots.new.path
    c.put64.ensures c.copy.ensures c.cipher_slots.ensures

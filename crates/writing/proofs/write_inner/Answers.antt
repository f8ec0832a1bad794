-- `writing::write_inner` meets its contract: flags and digests stand right behind the slots. Assumes nothing.
use Rattle.std.proofs.Common.{◌≡◌, [], length, ◌∙◌, arith}
use Rattle.words.proofs.Splice.{splice-next}
use Rattle.sizes.specs.Sizes.{leaf_len, item_at}
use Rattle.sizes.proofs.Lengths.{level-fits}
use Rattle.items.specs.Items.{slots_of}
use Rattle.items.specs.Way.{item}
use Rattle.items.specs.Real.{real}
use Rattle.writing.specs.Writing.{new_counter}
use Rattle.writing.specs.Pieces.{head_of, links_of}
use Rattle.writing.proofs.Heads.{length-head, length-slots-of}
use Rattle.writing.proofs.write_inner.Goals as goal

pub write_head-requires : goal.write_head-requires
write_head-requires c = record { carries = c.requires.carries; k_le_height = (omega arith, c.requires.k_lt_height.1) }

pub returns : goal.returns
returns c =
    let a = c.args in
    let s = a.v.sizes in
    let slots = slots_of s (item a.v a.new.now a.k) in
    let counter = new_counter real a.v a.path.now [] a.k in
    let h : length (head_of real a.v counter a.k slots) ≡ leaf_len s =
    length-head a.v counter a.k slots ∙ omega (arith, length-slots-of a.v a.new.now a.k (omega arith) c.requires.carries.1.room) in
    rw (c.copy.ensures, c.write_head.ensures, c.links-tail.ensures, c.inner_at.ensures.is, c.leaf_len.ensures)
    (splice-next a.path.now (item_at s a.k) (head_of real a.v counter a.k slots) (links_of a.v a.path.now a.k a.d.now) (leaf_len s) h
    (omega (arith, c.requires.carries.0.room, level-fits s a.k s.height (omega arith))))

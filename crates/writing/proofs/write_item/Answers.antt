-- `writing::write_item` meets its contract: an inner item has flags and digests behind its slots, a leaf's has not. Assumes nothing.
use Rattle.std.proofs.Common.{ℕ, List, [], ◌++◌, sym, ap, ◌∙◌, append-nil}
use Rattle.words.specs.Bytes.{splice}
use Rattle.sizes.specs.Sizes.{item_at}
use Rattle.items.specs.Items.{slots_of}
use Rattle.items.specs.Way.{item}
use Rattle.items.specs.Real.{real}
use Rattle.writing.specs.Writing.{new_counter}
use Rattle.writing.specs.Pieces.{head_of, links_of, item_written}
use Rattle.writing.proofs.Climb.{inner-tail, leaf-tail}
use Rattle.writing.proofs.write_item.Goals as goal

pub returns-then-k-s : goal.returns-then-k-s
unfolding item_written
returns-then-k-s c =
    let a = c.args in
    let s = a.v.sizes in
    let head = head_of real a.v (new_counter real a.v a.path.now [] a.k) a.k (slots_of s (item a.v a.new.now a.k)) in
    c.write_inner.ensures
    ∙ ap (λ (t : List ℕ). splice a.path.now (item_at s a.k) (head ++ t)) (sym (inner-tail a.k s.height (links_of a.v a.path.now a.k a.d.now) [] c.if-k-s.true))

pub returns : goal.returns
unfolding item_written
returns c =
    let a = c.args in
    let s = a.v.sizes in
    let head = head_of real a.v (new_counter real a.v a.path.now [] a.k) a.k (slots_of s (item a.v a.new.now a.k)) in
    c.write_head.ensures ∙ ap (λ (t : List ℕ). splice a.path.now (item_at s a.k) t) (sym (append-nil head))
    ∙ ap (λ (t : List ℕ). splice a.path.now (item_at s a.k) (head ++ t)) (sym (leaf-tail a.k s.height (links_of a.v a.path.now a.k a.d.now) [] c.if-k-s.false))

-- `items::cipher_slots` meets its contract: the part from after the counter to the last slot is lent to the cipher, and given back. Assumes nothing.
use Prim.Native.Nat.{◌+◌, ◌-◌}
use mathlib.Core.Path.{ap, ◌∙◌}
use native.Mathlib.Omega.{arith}
use Rattle.words.specs.Bytes.{part}
use Rattle.sizes.specs.Sizes.{counter_len}
use Rattle.items.specs.Items.{nonce_of}
use Rattle.items.specs.Way.{bucket}
use Rattle.items.proofs.Sealing.{slots-given}
use Rattle.items.proofs.cipher_slots.Goals as goal

pub returns : goal.returns
returns c =
    let a = c.args in
    let at = c.item_at-at.result in
    let n = c.leaf_len.result in
    let p = c.item_at-at.ensures.is in
    let q = c.leaf_len.ensures in
    slots-given a.v.sizes a.v.key c.nonce-n.result a.path.now c.apply.new.text a.k (bucket a.v a.k) at (at + 8) (at + n - (at + 8))
    p (omega arith) (omega arith) (omega arith) (c.nonce-n.ensures ∙ ap (nonce_of (part a.path.now at counter_len)) c.bucket.ensures.0) c.apply.ensures

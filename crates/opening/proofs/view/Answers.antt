-- `opening::view` meets its contract: key and root digest are copied, the rest is read. Assumes nothing.
use mathlib.Core.Path.{ap, ◌∙◌}
use native.Mathlib.Omega.{arith}
use Rattle.words.specs.Bytes.{part, zeros}
use Rattle.words.proofs.Splice.{splice-whole, length_part, length-zeros}
use Rattle.sizes.specs.Sizes.{key_len, digest_len}
use Rattle.desk.specs.Layout.{b_at, root_at}
use Rattle.desk.specs.Readers.{position_of}
use Rattle.opening.proofs.view.Goals as goal

pub returns : goal.returns
returns c =
    let a = c.args in
    let w = c.requires.whole in
    let p = part a.desk.now b_at key_len in
    let q = part a.desk.now root_at digest_len in
    let key = c.copy.ensures ∙ splice-whole (zeros key_len) p (length_part a.desk.now b_at key_len (omega (arith, w.size)) ∙ length-zeros key_len) in
    let root = c.copy-2.ensures ∙ splice-whole (zeros digest_len) q (length_part a.desk.now root_at digest_len (omega (arith, w.size)) ∙ length-zeros digest_len) in
    let leaf = c.from.ensures ∙ c.position.ensures ∙ ap (position_of a.desk.now) c.id_asked.ensures in
    rw (c.sizes_of.ensures, key, root, leaf)

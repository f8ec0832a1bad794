-- `formats::write_desk` meets its contract: contents and bodies are written one after another, up to the desk's end. Assumes nothing.
use Prim.Native.Nat.{◌-◌}
use mathlib.Core.Path.{◌≡◌, ap, ◌∙◌}
use native.Mathlib.Omega.{arith}
use lib.ListN.{length}
use Rattle.words.specs.Bytes.{zeros}
use Rattle.words.proofs.Splice.{length-zeros}
use Rattle.words.proofs.Numbers.{length-bytes_of}
use Rattle.sizes.specs.Sizes.{digest_len}
use Rattle.desk.specs.Layout.{c_at, c_len, d_at, e_at, e_len, contents}
use Rattle.desk.proofs.Lengths.{length-contents}
use Rattle.formats.specs.Format.{new_shape, head_bytes, unmarked, formatted}
use Rattle.formats.proofs.Unmarked.{length-unmarked}
use Rattle.formats.proofs.Written.{parts-written}
use borrow.Author.Rules.{rules}
use Rattle.formats.proofs.write_desk.Goals as goal

pub clear-requires-2 : goal.clear-requires-2
clear-requires-2 c =
    let c-start : let a = c.args in c.c_at-c_at.result ≡ c_at (new_shape a.ids a.stash) = c.c_at-c_at.ensures ∙ ap c_at c.new-h.ensures in
    let d-start : let a = c.args in c.d_at-d_at.result ≡ d_at (new_shape a.ids a.stash) = c.d_at-d_at.ensures ∙ ap d_at c.new-h.ensures in
    let x = c-start in let y = d-start in let p = c.requires in search rules

pub put_places-requires : goal.put_places-requires
put_places-requires c =
    let d-start : let a = c.args in c.d_at-d_at.result ≡ d_at (new_shape a.ids a.stash) = c.d_at-d_at.ensures ∙ ap d_at c.new-h.ensures in
    let y = d-start in let p = c.requires in search rules

pub overflow_sub-desk : goal.overflow_sub-desk
overflow_sub-desk c =
    let e-start : let a = c.args in c.e_at-e_at.result ≡ e_at (new_shape a.ids a.stash) = c.e_at-e_at.ensures ∙ ap e_at c.new-h.ensures in
    let long : length c.put_places.new.dst ≡ length c.args.desk.now = c.put_places.auto.dst ∙ c.clear-2.auto.dst ∙ c.clear.auto.dst ∙ c.copy-2.auto.dst ∙ c.copy.auto.dst ∙ c.put_contents.auto.dst in
    let z = e-start in let p = c.requires in let l = long in search rules

pub clear-requires-3 : goal.clear-requires-3
clear-requires-3 c =
    let e-start : let a = c.args in c.e_at-e_at.result ≡ e_at (new_shape a.ids a.stash) = c.e_at-e_at.ensures ∙ ap e_at c.new-h.ensures in
    let long : length c.put_places.new.dst ≡ length c.args.desk.now = c.put_places.auto.dst ∙ c.clear-2.auto.dst ∙ c.clear.auto.dst ∙ c.copy-2.auto.dst ∙ c.copy.auto.dst ∙ c.put_contents.auto.dst in
    let z = e-start in let p = c.requires in let l = long in search rules

pub returns : goal.returns
unfolding formatted
returns c =
    let c-start : let a = c.args in c.c_at-c_at.result ≡ c_at (new_shape a.ids a.stash) = c.c_at-c_at.ensures ∙ ap c_at c.new-h.ensures in
    let d-start : let a = c.args in c.d_at-d_at.result ≡ d_at (new_shape a.ids a.stash) = c.d_at-d_at.ensures ∙ ap d_at c.new-h.ensures in
    let e-start : let a = c.args in c.e_at-e_at.result ≡ e_at (new_shape a.ids a.stash) = c.e_at-e_at.ensures ∙ ap e_at c.new-h.ensures in
    let long : length c.put_places.new.dst ≡ length c.args.desk.now = c.put_places.auto.dst ∙ c.clear-2.auto.dst ∙ c.clear.auto.dst ∙ c.copy-2.auto.dst ∙ c.copy.auto.dst ∙ c.put_contents.auto.dst in
    let a = c.args in
    let p = c.requires in
    let h = new_shape a.ids a.stash in
    let x = c-start in
    let y = d-start in
    let z = e-start in
    let l = long in
    let v : c.d_at-d_at.result - c.c_at-c_at.result ≡ c_len h = omega arith in
    let w : length c.put_places.new.dst - c.e_at-e_at.result ≡ e_len h = omega arith in
    let n = length-unmarked a.leaves.now in
    rw (
      c.clear-3.ensures,
      w,
      c.put_places.ensures,
      c.clear-2.ensures,
      v,
      c.clear.ensures,
      c.copy-2.ensures,
      c.copy.ensures,
      c.put_contents.ensures,
      c.head_bytes-head.ensures,
      c.new-h.ensures,
      x,
      y,
      z,
    )
    (parts-written a.desk.now (contents h) (head_bytes a.height a.slots a.stash a.ids) a.key.now (zeros digest_len) (zeros (c_len h)) (unmarked a.leaves.now) (zeros (e_len h))
    (length-contents h) (omega (arith, length-bytes_of 2 a.ids)) (omega arith) (omega (arith, length-zeros digest_len)) (omega (arith, length-zeros (c_len h))) (omega arith) (omega (arith, length-zeros (e_len h))))

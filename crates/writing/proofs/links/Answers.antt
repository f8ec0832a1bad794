-- `writing::links` meets its contract: laid into zeros, the side on the path first, and the other where it is kept. Assumes nothing.
use Rattle.std.proofs.Common.{◌≡◌, ℕ, ◌+◌, ◌-◌, ◌*◌, true, false, List, [], length, sym, ap, ◌∙◌, ap₂, arith, length-set}
use Rattle.words.specs.Bytes.{part}
use Rattle.words.proofs.Splice.{length_part}
use Rattle.sizes.specs.Sizes.{digest_len, digest_at, item_at}
use Rattle.items.specs.Items.{digest_of}
use Rattle.items.specs.Way.{item}
use Rattle.items.specs.Real.{real}
use Rattle.items.proofs.Fields.{digest-of}
use Rattle.writing.specs.Writing.{is_kept}
use Rattle.writing.proofs.Sides.{laid_on, links-lone, links-both}
use Rattle.writing.proofs.links.Goals as goal

pub copy-requires : goal.copy-requires
copy-requires c = let l = c.requires.d_len in let o = c.side-on.ensures.1 in rw length-set (omega arith)

pub returns-then-not-kept : goal.returns-then-not-kept
returns-then-not-kept c =
    let a = c.args in
    let on = c.side-on.result in
    let f : is_kept real a.v a.path.now [] a.k (1 - on) ≡ false = rw (c.requires.carries.1.1, ← c.flag.ensures) (c.if-not-kept.true) in
    c.copy.ensures ∙ links-lone a.v a.path.now a.k a.d.now c.requires.d_len on c.side-on.ensures.1 (sym c.side-on.ensures.0) f

pub copy-requires-2 : goal.copy-requires-2
copy-requires-2 c =
    let place : ℕ = c.inner_at.result + c.leaf_len.result + 2 + 32 * (1 - c.side-on.result) in
    let kept-length : length (part c.args.path.now place (place + 32 - place)) ≡ digest_len = let a = c.args in
    let i = c.inner_at.ensures in
    let r = c.requires.carries.0.room in
    length_part a.path.now place (place + 32 - place) (omega (arith, c.leaf_len.ensures, c.side-on.ensures.1)) ∙ omega arith in
    let l = kept-length in
    let o = c.side-on.ensures.1 in
    let k = c.copy.auto.dst in
    rw length-set (omega arith)

pub returns : goal.returns
returns c =
    let place : ℕ = c.inner_at.result + c.leaf_len.result + 2 + 32 * (1 - c.side-on.result) in
    let kept-is : part c.args.path.now place (place + 32 - place) ≡ digest_of c.args.v.sizes (item c.args.v c.args.path.now c.args.k) (1 - c.side-on.result) = let a = c.args in
    let s = a.v.sizes in
    let on = 1 - c.side-on.result in
    let p : place ≡ item_at s a.k + digest_at s on = omega (arith, c.inner_at.ensures.is, c.leaf_len.ensures) in
    let n : place + 32 - place ≡ digest_len = omega arith in
    ap₂ (λ (i j : ℕ). part a.path.now i j) p n ∙ sym (digest-of s a.path.now a.k c.requires.carries.1.0 on (omega arith)) in
    let kept-length : length (part c.args.path.now place (place + 32 - place)) ≡ digest_len = let a = c.args in
    let i = c.inner_at.ensures in
    let r = c.requires.carries.0.room in
    length_part a.path.now place (place + 32 - place) (omega (arith, c.leaf_len.ensures, c.side-on.ensures.1)) ∙ omega arith in
    let a = c.args in
    let on = c.side-on.result in
    let f : is_kept real a.v a.path.now [] a.k (1 - on) ≡ true = rw (c.requires.carries.1.1, ← c.flag.ensures) (c.if-not-kept.false) in
    let kept = part a.path.now place (place + 32 - place) in
    c.copy-2.ensures ∙ ap (λ (r : List ℕ). laid_on (1 - on) kept r) c.copy.ensures
    ∙ links-both a.v a.path.now a.k a.d.now c.requires.d_len on c.side-on.ensures.1 (sym c.side-on.ensures.0) f kept kept-length kept-is

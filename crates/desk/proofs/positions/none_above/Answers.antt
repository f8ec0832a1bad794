-- `desk::positions::none_above` meets its contract: what was found of the first pairs is their test. Assumes nothing.
use Prim.Native.Nat.{ℕ}
use mathlib.Core.Path.{◌≡◌, sym, ap, ◌∙◌}
use mathlib.Core.List.{[], ◌∷◌}
use native.Mathlib.Omega.{arith}
use lib.ListN.{length, get_or, length-append}
use lib.Dec.{leb}
use denote.Ref.{Bor}
use Rattle.std.proofs.lemmas.Slice.Zip.{zip_turn, zip_end}
use Rattle.std.specs.Iterator.Adapters.{zip_first, zip_second}
use Rattle.std.specs.Slice.Iter.{iter_rest}
use Rattle.words.specs.Tests.{all}
use Rattle.words.proofs.Tests.{all_none, all-step}
use Rattle.desk.specs.Together.{together_len, none_above}
use Rattle.desk.proofs.positions.none_above.Goals as goal

pub loop-byte-init : goal.loop-byte-init
loop-byte-init c = sym (all_none _)

pub loop-byte-preserved : goal.loop-byte-preserved
loop-byte-preserved c =
    let a = c.args in
    let l = c.loop-byte in
    let i = c.into_iter-byte-iterator.result in
    let f : iter_rest (zip_first i) ≡ a.d.now = cc in
    let s : iter_rest (zip_second i) ≡ a.top.now = cc in
    let p : Bor ℕ × Bor ℕ = (c.in-Some.byte, c.in-Some.most) in
    let z = zip_turn a.d.now a.top.now l.yielded i l.byte-iterator c.next.new.self c.next.result f s l.yielded_by p c.in-Some.is c.next.ensures.steps in
    rw (length-append l.yielded (p ∷ [])) (all-step _ _ _ _ l.invariant (rw (z.2 0, z.3 0)))

pub returns : goal.returns
unfolding none_above
returns c =
    let a = c.args in
    let l = c.loop-byte in
    let i = c.into_iter-byte-iterator.result in
    let f : iter_rest (zip_first i) ≡ a.d.now = cc in
    let s : iter_rest (zip_second i) ≡ a.top.now = cc in
    let z = zip_end a.d.now a.top.now l.yielded i l.byte-iterator c.next.new.self c.next.result f s l.yielded_by c.in-None.is c.next.ensures.steps in
    let e : length l.yielded ≡ together_len = omega arith in
    l.invariant ∙ ap (λ (n : ℕ). all n (λ k. leb (get_or a.d.now k 0) (get_or a.top.now k 0))) e

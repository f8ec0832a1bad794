-- `chacha20::mix_two` meets its contract: after each turn the bytes before `at` are combined. Assumes nothing.
use Rattle.std.proofs.Common.{◌≡◌, ◌+◌, ◌-◌, length, min, ap, ◌∙◌, arith, rules}
use lib.Bits.{bit_xor}
use Rattle.chacha20.specs.ChaCha.{blocks, zipped}
use Rattle.chacha20.proofs.Blocks.{length-blocks}
use Rattle.chacha20.proofs.Cipher.{block-step, mixed-all}
use Rattle.chacha20.proofs.mix_two.Goals as goal

pub loop-at-preserved : goal.loop-at-preserved
loop-at-preserved c =
    let a = c.args in
    let l = c.loop-at in
    let m = l.at + c.min-len.result - l.at in
    let s = a.part.now in
    let k : length l.part ≡ length s = search rules in
    let t : min l.at (length s) ≡ l.at = omega arith in
    let ks = c.mix.ensures ∙ ap (zipped bit_xor _) c.block.ensures in (
      (omega arith, omega arith),
      block-step a.key.now a.nonce.now s l.part c.mix.new.part l.at m (min (l.at + 64) (length s)) a.n l.next
          (omega arith) (omega arith) (omega arith) (omega arith) (omega arith) (omega arith) l.invariant.0.1 (rw t at l.invariant.1) ks,
    )

pub returns : goal.returns
returns c =
    let a = c.args in
    let l = c.loop-at in
    let s = a.part.now in
    let ks = blocks a.key.now a.nonce.now a.n 5 in
    l.invariant.1 ∙ mixed-all s ks (min l.at (length s)) (omega arith) (omega (arith, length-blocks a.key.now a.nonce.now a.n 5))

pub returns-2 : goal.returns-2
returns-2 c =
    let a = c.args in
    let l = c.loop-at in
    let m = l.at + c.min-len.result - l.at in
    let s = a.part.now in
    let k : length l.part ≡ length s = search rules in
    let t : min l.at (length s) ≡ l.at = omega arith in
    let ks = c.mix.ensures ∙ ap (zipped bit_xor _) c.block.ensures in
    block-step a.key.now a.nonce.now s l.part c.mix.new.part l.at m (length s) a.n l.next
    (omega arith) (omega arith) (omega arith) (omega arith) (omega arith) (omega arith) l.invariant.0.1 (rw t at l.invariant.1) ks
    ∙ mixed-all s (blocks a.key.now a.nonce.now a.n 5) (length s) (omega arith) (omega (arith, length-blocks a.key.now a.nonce.now a.n 5))

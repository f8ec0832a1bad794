-- `chacha20::apply` meets its contract: after each turn the bytes before `at` are enciphered. Assumes nothing.
use Rattle.std.proofs.Common.{◌≡◌, ◌+◌, ◌-◌, length, min, ◌∙◌, arith, rules}
use Rattle.chacha20.proofs.Cipher.{cipher-step, cipher-end}
use Rattle.chacha20.proofs.apply.Goals as goal

pub loop-at-preserved : goal.loop-at-preserved
loop-at-preserved c =
    let a = c.args in
    let l = c.loop-at in
    let m = l.at + c.min-len.result - l.at in
    let s = a.text.now in
    let k : length l.text ≡ length s = search rules in
    let t : min l.at (length s) ≡ l.at = omega arith in (
      (omega arith, omega arith),
      cipher-step a.key.now a.nonce.now s l.text c.mix_blocks.new.part l.at m (min (l.at + 320) (length s)) l.n
          (omega arith) (omega arith) (omega arith) (omega arith) l.invariant.0.1 (rw t at l.invariant.1) c.mix_blocks.ensures,
    )

pub returns : goal.returns
returns c =
    let l = c.loop-at in
    let s = c.args.text.now in
    let k : length l.text ≡ length s = search rules in
    l.invariant.1 ∙ cipher-end c.args.key.now c.args.nonce.now s (min l.at (length s)) (omega arith)

pub returns-2 : goal.returns-2
returns-2 c =
    let a = c.args in
    let l = c.loop-at in
    let m = l.at + c.min-len.result - l.at in
    let s = a.text.now in
    let k : length l.text ≡ length s = search rules in
    let t : min l.at (length s) ≡ l.at = omega arith in
    cipher-step a.key.now a.nonce.now s l.text c.mix_blocks.new.part l.at m (length s) l.n
    (omega arith) (omega arith) (omega arith) (omega arith) l.invariant.0.1 (rw t at l.invariant.1) c.mix_blocks.ensures
    ∙ cipher-end a.key.now a.nonce.now s (length s) (omega arith)

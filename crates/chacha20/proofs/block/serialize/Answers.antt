-- `chacha20::block::serialize` meets its contract: after w turns the first w words of the block are laid in. Assumes nothing.
use Rattle.std.proofs.Common.{◌≡◌, ◌+◌, ◌*◌, get_or, sym, refl, ◌∙◌, arith}
use Rattle.words.proofs.Splice.{splice-nil}
use Rattle.chacha20.specs.ChaCha.{serialize}
use Rattle.chacha20.specs.Lanes.{table}
use Rattle.chacha20.proofs.Serial.{in_lane, serial-turn}
use Rattle.chacha20.proofs.block.serialize.Goals as goal

pub loop-w-init : goal.loop-w-init
unfolding serialize table
loop-w-init c = ((omega arith, refl), sym (splice-nil c.args.out.now c.args.at))

pub overflow_mul-w-in-loop-w : goal.overflow_mul-w-in-loop-w
overflow_mul-w-in-loop-w c = omega (arith, in_lane c.loop-w.w c.args.step c.args.k (omega arith) (omega arith))

pub overflow_add-w : goal.overflow_add-w
overflow_add-w c = omega (arith, in_lane c.loop-w.w c.args.step c.args.k (omega arith) (omega arith))

pub offset_bounds-s-w : goal.offset_bounds-s-w
offset_bounds-s-w c = omega (arith, in_lane c.loop-w.w c.args.step c.args.k (omega arith) (omega arith))

pub bounds-s-w : goal.bounds-s-w
bounds-s-w c = omega (arith, in_lane c.loop-w.w c.args.step c.args.k (omega arith) (omega arith))

pub loop-w-preserved : goal.loop-w-preserved
loop-w-preserved c =
    let put = c.put32 in
    let l = c.loop-w in
    let a = c.args in (
      (omega arith, put.auto.s ∙ l.invariant.0.1),
      put.ensures ∙ serial-turn (λ j. get_or a.s.now (j * a.step + a.k) 0) l.w a.at a.out.now l.out (omega arith) l.invariant.1,
    )

pub returns : goal.returns
returns c = let e : c.loop-w.w ≡ 16 = omega arith in rw (← e) c.loop-w.invariant.1

-- `sha256::rounds::rounds` meets its contract: after each turn as many rows of constants are used, and the words in hand are the next turn's.
-- Assumes nothing.
use Rattle.std.proofs.Common.{◌≡◌, ℕ, ◌+◌, ◌*◌, refl, subst, arith}
use Rattle.digest_sha2.specs.Sha2.{extend}
use Rattle.digest_sha2.specs.Sha256.{v256}
use Rattle.digest_sha2.specs.Turns.{Reached}
use Rattle.digest_sha2.proofs.Schedule.{follows}
use Rattle.digest_sha2.proofs.Rounds.{reached-start}
use Rattle.sha256.proofs.rounds.rounds.Goals as goal

pub loop-row-init : goal.loop-row-init
loop-row-init c = (c.requires, reached-start v256 48 c.args.start c.args.w.now c.requires)

pub loop-row-preserved : goal.loop-row-preserved
loop-row-preserved c =
    let l = c.loop-row in
    let m = c.args.w.now in
    let ws = extend v256 48 m in
    let e : 16 * l.row + 16 ≡ 16 * (l.row + 1) = omega arith in
    let p : Reached v256 ws c.args.start (16 * l.row + 16) 0 c.turn.new.s c.turn.new.w =
    c.turn.ensures.by_index ws c.args.start (16 * l.row) (follows v256 48 m c.requires refl) (omega arith) c.constants.ensures l.invariant.1 in
    (c.turn.ensures.w_len_2, subst (λ (t : ℕ). Reached v256 ws c.args.start t 0 c.turn.new.s c.turn.new.w) e p)

pub returns : goal.returns
returns c =
    let l = c.loop-row in
    let ws = extend v256 48 c.args.w.now in
    let e : l.row ≡ 3 = omega arith in
    c.last_turn.ensures ws c.args.start 48 c.constants-2.ensures (subst (λ (q : ℕ). Reached v256 ws c.args.start (16 * q) 0 l.s l.w) e l.invariant.1)

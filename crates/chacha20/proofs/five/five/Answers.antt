-- `chacha20::five::five` meets its contract: each of the four comes out as a block by itself, and the fifth is one. Assumes nothing.
use Rattle.std.proofs.Common.{◌≡◌, length, ap, ◌∙◌, arith, rules}
use Rattle.chacha20.specs.ChaCha.{add32, rounds, initial, zipped}
use Rattle.chacha20.specs.Lanes.{rounds_four, initial_four}
use Rattle.chacha20.proofs.Blocks.{length-rounds}
use Rattle.chacha20.proofs.Lanes.{length-rounds_four}
use Rattle.chacha20.proofs.FiveBlocks.{five-blocks}
use Rattle.chacha20.proofs.five.five.Goals as goal

pub slice_bounds-sums-end : goal.slice_bounds-sums-end
slice_bounds-sums-end c =
    let run = c.rounds_five in
    let s = c.initial-o.result in
    let l : length run.new.o ≡ length s = ap length run.ensures.1 ∙ length-rounds 10 s in
    search rules

pub sums-requires : goal.sums-requires
sums-requires c =
    let run = c.rounds_five in
    let s = c.initial-o.result in
    let l : length run.new.o ≡ length s = ap length run.ensures.1 ∙ length-rounds 10 s in
    omega arith

pub slice_bounds-sums-end-3 : goal.slice_bounds-sums-end-3
slice_bounds-sums-end-3 c =
    let run = c.rounds_five in
    let s = c.initial_four-t.result in
    let l : length run.new.s ≡ length s = ap length run.ensures.0 ∙ length-rounds_four 10 s in
    search rules

pub sums-requires-2 : goal.sums-requires-2
sums-requires-2 c =
    let run = c.rounds_five in
    let s = c.initial_four-t.result in
    let l : length run.new.s ≡ length s = ap length run.ensures.0 ∙ length-rounds_four 10 s in
    omega arith

pub returns : goal.returns
unfolding add32
returns c =
    let a = c.args in
    let four = c.initial_four-t in
    let one = c.initial-o in
    let run = c.rounds_five in
    let o : one.result ≡ initial a.key.now a.nonce.now (add32 a.n 4) =
    one.ensures in
    let u : c.sums-2.new.s ≡ zipped add32 (rounds_four 10 (initial_four a.key.now a.nonce.now a.n)) (initial_four a.key.now a.nonce.now a.n) =
    c.sums-2.ensures ∙ rw (run.ensures.0, four.ensures) in
    let p : c.sums.new.s ≡ zipped add32 (rounds 10 (initial a.key.now a.nonce.now (add32 a.n 4))) (initial a.key.now a.nonce.now (add32 a.n 4)) =
    c.sums.ensures ∙ rw (run.ensures.1, o) in
    c.bytes_of_five.ensures ∙ rw (u, p) (five-blocks a.key.now a.nonce.now a.n (omega (arith, c.ranges.n)))

-- `chacha20::block::block` meets its contract: the steps of the definition, and the bytes fill all the room. Assumes nothing.
use Rattle.std.proofs.Common.{◌≡◌, length, refl, ap, ◌∙◌, arith, rules}
use Rattle.chacha20.specs.ChaCha.{block, serialize}
use Rattle.chacha20.proofs.Blocks.{length-rounds}
use Rattle.chacha20.proofs.Serial.{one-laid}
use Rattle.words.specs.Bytes.{zeros}
use Rattle.chacha20.proofs.block.block.Goals as goal

pub slice_bounds-sums-end : goal.slice_bounds-sums-end
slice_bounds-sums-end c =
    let l : length c.rounds.new.s ≡ length c.initial-s.result =
    ap length c.rounds.ensures ∙ length-rounds 10 c.initial-s.result in
    search rules

pub sums-requires : goal.sums-requires
sums-requires c =
    omega (arith, ap length c.rounds.ensures ∙ length-rounds 10 c.initial-s.result)

pub returns : goal.returns
unfolding block
returns c =
    let sum = c.sums in
    let run = c.rounds in
    let start = c.initial-s in
    let s = start.result in
    let l : length s ≡ 16 = search rules in
    let m : length sum.new.s ≡ 16 = sum.auto.s ∙ ap length run.ensures ∙ length-rounds 10 s ∙ l in
    one-laid (zeros 64) sum.new.s c.serialize.new.out refl m c.serialize.ensures
    ∙ ap serialize (sum.ensures ∙ rw (run.ensures, start.ensures))

-- `sha256_vectors::messages` is safe: there are 201 lines, so that each message is a front of the pattern. Assumes nothing.
use Rattle.std.proofs.Common.{◌≡◌, length, sym, arith, length-take-le, rules}
use Rattle.sha256_vectors.proofs.messages.Goals as goal

pub slice_bounds-front-end : goal.slice_bounds-front-end
slice_bounds-front-end g c =
    let l : length c.args.expected.now ≡ 13065 = search rules in
    let m : length c.pattern-m.result ≡ 200 = search rules in
    sym (length-take-le c.loop-n.n-counter c.pattern-m.result (omega (arith, c.as_chunks.ensures.front_len)))

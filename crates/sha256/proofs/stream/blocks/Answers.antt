-- `sha256::stream::blocks` meets its contract: the chunks are the blocks, and the hash value goes through them. Assumes nothing.
use Rattle.std.proofs.Common.{◌≡◌, ℕ, ◌/◌, List, length, get_or, ap, sym, ◌∙◌, Bor, arith, rules}
use Rattle.std.specs.Slice.Iter.{chunks_exact_size, chunks_exact_rest}
use Rattle.digest_sha2.specs.Sha2.{after, compress}
use Rattle.digest_sha2.specs.Sha256.{v256}
use Rattle.sha256.proofs.Folded.{folded, given}
use Rattle.sha256.proofs.stream.blocks.Goals as goal

pub returns : goal.returns
returns c =
    let r = c.fold.ensures.runs in
    let p = r.0 in
    let bs = c.args.part.now in
    let size : chunks_exact_size p.from ≡ 64 = ap chunks_exact_size r.1 ∙ c.chunks_exact.ensures.size in
    let rest : chunks_exact_rest p.from ≡ bs = ap chunks_exact_rest r.1 ∙ c.chunks_exact.ensures.rest in
    let o = rw (size, rest) at (c.chunks_exact.ensures.runs p p.seen (omega arith)) in
    let n : length p.items ≡ length bs / 64 = sym p.long ∙ o.1 r.2 in
    let f = r.3 (λ (s : List ℕ) (x : Bor (List ℕ)). compress v256 s x.now) (λ s x t f' k. search rules) in
    f ∙ folded v256 (λ (x : Bor (List ℕ)). x.now) c.args.start p.items bs (omega arith)
    (λ k d h. (given _ (p.at k) (get_or p.items k d) (p.reads k d (omega (arith, p.long))) (o.2 k)).2.0)
    ∙ ap (λ (m : ℕ). after v256 c.args.start m bs) n

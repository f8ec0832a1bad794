-- `sha256::rounds::add_all` meets its contract: its sums are the eight. Assumes nothing.
use Rattle.std.proofs.Common.{ℕ, ◌+◌, ◌%◌, ◌^◌, get_or, rules}
use Rattle.digest_sha2.specs.Sha2.{plus}
use Rattle.digest_sha2.proofs.Rounds.{add-all-is}
use Rattle.words.proofs.Made.{made}
use Rattle.sha256.proofs.rounds.add_all.Goals as goal

pub returns : goal.returns
unfolding plus
returns c =
    let m = c.from_fn.ensures.items in
    let s = c.args.s in
    let t = c.args.t in
    add-all-is 32 s t c.from_fn.result m.long (made _ (λ (i : ℕ). (get_or s i 0 + get_or t i 0) % 2 ^ 32) _ (λ i y q k. search rules) c.from_fn.result 8 m)

-- `sha256::padding::bytes_of` meets its contract: after i turns the bytes of the first i words stand in front. Assumes nothing.
use Rattle.std.proofs.Common.{◌≡◌, ◌*◌, length, take}
use Rattle.digest_sha2.specs.Sha2.{all_bytes}
use Rattle.sha256.proofs.padding.bytes_of.Given as goal

abbrev pub invariant-loop-i : goal.invariant-loop-i
invariant-loop-i l = (length l.d ≡ 32) × (take (4 * l.i) l.d ≡ all_bytes 4 (take l.i l.fn.s))

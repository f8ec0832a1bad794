-- `writing::write_path` meets its contract: from the leaf up, each turn writes one item more of the path that step 6 makes of the one lent. Assumes nothing.
use Rattle.std.proofs.Common.{◌≡◌, length}
use Rattle.sizes.specs.Sizes.{digest_len}
use Rattle.writing.specs.Pieces.{Climbed}
use Rattle.writing.proofs.write_path.Given as goal

abbrev pub invariant-loop-k : goal.invariant-loop-k
invariant-loop-k l = (length l.d ≡ digest_len) × Climbed l.v l.initial.path l.new l.path l.d l.k

-- `sha256::padding::last_blocks` meets its contract: by cases on whether the length field fits behind the bytes left over. Assumes nothing.
use Rattle.std.proofs.Common.{arith}
use Rattle.sha256.proofs.Padded.{length-padding}
use Rattle.sha256.proofs.padding.last_blocks.Goals as goal

pub returns-then-begun-clause-result_value : goal.returns-then-begun-clause-result_value
returns-then-begun-clause-result_value c = rw (length-padding c.args.total) (omega arith)

pub returns-else-begun-clause-result_value : goal.returns-else-begun-clause-result_value
returns-else-begun-clause-result_value c = rw (length-padding c.args.total) (omega arith)

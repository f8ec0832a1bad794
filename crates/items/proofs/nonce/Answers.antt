-- `items::nonce` meets its contract: the counter's bytes, then the bucket's number. Assumes nothing.
use Prim.Native.Nat.{◌+◌, ◌-◌}
use native.Mathlib.Omega.{arith}
use Rattle.items.proofs.Sealing.{nonce-given}
use Rattle.items.proofs.nonce.Goals as goal

pub returns : goal.returns
returns c =
    let a = c.args in
    nonce-given a.path.now _ _ a.at (a.at + 8 - a.at) a.bucket (omega arith) (omega arith) c.copy.ensures c.put_number.ensures

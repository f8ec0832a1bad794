-- `digest_sha2::functions32::rotations` meets its contract: one rotation within another is three. Assumes nothing.
use Rattle.std.proofs.Common.{◌-◌, arith, rules}
use Rattle.digest_sha2.proofs.Rotations.{rotated-right, rotr³-is}
use Rattle.digest_sha2.proofs.functions32.rotations.Goals as goal

pub returns : goal.returns
returns c =
    let a = c.args in
    let p = rotated-right _ (a.c - a.b) _ (omega arith) (omega arith) c.rotate_right.ensures in
    let q = rotated-right _ (a.b - a.a) _ (omega arith) (omega arith) c.rotate_right-2.ensures in
    let r = rotated-right _ a.a _ (omega arith) (omega arith) c.rotate_right-3.ensures in
    cc (rotr³-is 32 a.x (search rules) a.a a.b a.c (search rules) (search rules) (search rules))

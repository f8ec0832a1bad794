-- `digest_sha2::functions32::rotations_shift` meets its contract: one rotation within another is two. Assumes nothing.
use Rattle.std.proofs.Common.{◌-◌, arith, rules}
use Rattle.digest_sha2.specs.Sha2.{shr}
use Rattle.digest_sha2.proofs.Rotations.{rotated-right, rotr²shr-is}
use Rattle.digest_sha2.proofs.functions32.rotations_shift.Goals as goal

pub returns : goal.returns
unfolding shr
returns c =
    let a = c.args in
    let p = rotated-right _ (a.b - a.a) _ (omega arith) (omega arith) c.rotate_right.ensures in
    let q = rotated-right _ a.a _ (omega arith) (omega arith) c.rotate_right-2.ensures in
    cc (rotr²shr-is 32 a.x (search rules) a.a a.b a.c (search rules) (search rules))

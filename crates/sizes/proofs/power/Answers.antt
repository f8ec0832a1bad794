-- `sizes::power` meets its contract: a shift is a power, which is small enough to fit. Assumes nothing.
use Rattle.sizes.proofs.Lengths.{power_small, power-is}
use Rattle.sizes.proofs.power.Goals as goal

pub returns : goal.returns
returns c =
    let k = c.args.k in
    let e = power-is k c.requires in
    (e, rw e (power_small k c.requires))

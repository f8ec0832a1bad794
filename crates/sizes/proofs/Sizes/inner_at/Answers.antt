-- `sizes::Sizes::inner_at` meets its contract: the place of any item, and the law that says where inner ones end. Assumes nothing.
use native.Mathlib.Omega.{arith}
use Rattle.sizes.proofs.Lengths.{level-below}
use Rattle.sizes.proofs.Sizes.inner_at.Goals as goal

pub returns : goal.returns
returns c =
    let a = c.args in
    let e = c.item_at.ensures in
    record { is = e.is; inner_fits = omega (arith, e.is, level-below a.self a.k a.self.height c.requires.1); most = e.most }

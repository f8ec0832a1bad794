-- `formats::are_leaves` meets its contract: the chain says true just where every starting leaf is a leaf. Assumes nothing.
use Prim.Native.Nat.{◌<◌}
use lib.ListN.{length, get_or}
use lib.Dec.{ltb}
use borrow.Author.Tests.{lt-ltb, ltb-true}
use borrow.Author.Rules.{rules}
use Rattle.std.specs.Prelude.{IsTrue, ◌↔◌, EachIndex}
use Rattle.words.proofs.Tests.{all_just}
use Rattle.formats.proofs.are_leaves.Goals as goal

pub returns : goal.returns
returns c =
    let ls = c.args.leaves.now in
    let most = c.args.most in
    let e : IsTrue c.all.result ↔ EachIndex c.args.leaves.now (λ k. get_or c.args.leaves.now k 0 < c.args.most) = search rules in
    all_just (λ i. ltb (get_or ls i 0) most) (length ls) c.all.result
    (λ t i l. lt-ltb _ _ (e.0 t i l))
    (λ h. e.1 (λ i l. ltb-true _ _ (h i l)))

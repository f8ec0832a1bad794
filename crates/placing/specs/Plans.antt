-- A plan that is lent, as its readers see it: the blocks that it names, and those of one height, by rising id. Assumes nothing.
use Rattle.std.specs.Prelude.{ℕ, List}
use Rattle.slots.specs.Slots.{Block}
use Rattle.placing.specs.declared.bank.Plan.{Plan}
use Rattle.placing.specs.Walk.{pick}
use Rattle.placing.specs.Bank.{blocks_at}

abbrev pub blocks_in : Plan → List Block
blocks_in p = blocks_at p.bank.now p.places.now

abbrev pub blocks_for : Plan → ℕ → List Block
blocks_for p h = pick h p.at.now (blocks_in p)

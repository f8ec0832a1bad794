-- `listing::writer::Writer::decimal` meets its contract: those digits that are found stand at the end, and y holds the others. Assumes nothing.
use Rattle.listing.proofs.Written as laws
use Rattle.listing.proofs.writer.Writer.decimal.Given as goal

abbrev pub invariant-loop-y : goal.invariant-loop-y
invariant-loop-y l = laws.Digits l.x l.text l.i l.y

abbrev pub decreases-loop-y : goal.decreases-loop-y
decreases-loop-y l = l.i

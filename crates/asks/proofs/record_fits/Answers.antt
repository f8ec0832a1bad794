-- `asks::record_fits` meets its contract: by the kind. Assumes nothing.
use Rattle.asks.proofs.record_fits.Goals as goal

pub returns-in-Write : goal.returns-in-Write
returns-in-Write c = rw c.in-Write.is

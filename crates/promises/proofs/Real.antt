-- The store with SHA-256 and ChaCha20, which the contracts cite, keeps all that is promised. Assumes nothing.
use Rattle.items.specs.Real.{real}
use Rattle.items.proofs.Sound.{real-sound}
use Rattle.promises.specs.Promises.{Promises}
use Rattle.promises.proofs.Promises.{promises}

pub promised : Promises real
promised = promises real real-sound

-- `sha256::schedule::next` meets its contract: its sums are those of the word sixteen further on. Assumes nothing.
use Rattle.std.proofs.Common.{refl}
use Rattle.digest_sha2.specs.Sha2.{plus}
use Rattle.digest_sha2.specs.Sha256.{v256}
use Rattle.digest_sha2.proofs.Window.{window-next}
use Rattle.sha256.proofs.schedule.next.Goals as goal

pub returns : goal.returns
unfolding plus
returns c =
    let a = c.args in
    λ ws t f b p. window-next v256 ws a.w.now t a.i f b c.requires.i_bound p c.small1.ensures c.small0.ensures refl refl refl

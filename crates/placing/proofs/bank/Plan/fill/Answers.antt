-- `placing::bank::Plan::fill` meets its contract: the slots are laid, and what is left of the room is cleared. Assumes nothing.
use mathlib.Core.Path.{refl}
use Rattle.placing.specs.Plans.{blocks_for}
use Rattle.placing.proofs.Laid.{filled_fit}
use Rattle.placing.proofs.bank.Plan.fill.Goals as goal

pub returns : goal.returns
returns c =
    let a = c.args in
    let l = c.lay-k in
    let e = l.ensures in record {
      fit = e.fit;
      dst_after = filled_fit a.dst.now l.new.dst c.clear.new.dst a.a a.room l.result _ (blocks_for a.self a.h) e.fit c.requires.room_in_bounds.0 c.requires.places_len_bound e.value refl e.dst_after c.clear.ensures;
    }

-- `store::accept` meets its contract: what is laid is what the path is written from, and its root digest goes to the desk. Assumes nothing.
use Prim.Native.Nat.{ℕ, ◌+◌, ◌-◌}
use mathlib.Core.Path.{ap, ◌∙◌}
use mathlib.Core.List.{List}
use native.Mathlib.Omega.{arith}
use Rattle.slots.specs.Slots.{Block, slots_with}
use Rattle.writing.specs.Pieces.{Holds}
use Rattle.placing.specs.Plans.{blocks_in, blocks_for}
use Rattle.desk.specs.Changes.{settled}
use Rattle.store.specs.Laying.{Placed}
use borrow.Author.Rules.{rules}
use Rattle.std.specs.Int.{from_bool}
use Rattle.store.proofs.accept.Goals as goal

pub write_path-root-requires : goal.write_path-root-requires
write_path-root-requires c =
    let p = c.requires in record { carries = (p.carries.0, p.carries.1.0); carries_2 = (record { range = p.carries.0.range; room = omega (arith, c.lay.auto.w, p.carries.1.1.room) }, p.leaf_bound) }

pub settle-requires : goal.settle-requires
settle-requires c =
    let p = c.requires in record { whole = p.whole; over_bound = (p.writable.room_enough, search rules); held = p.writable.held }

pub returns : goal.returns
returns c =
    let holds_at : let a = c.args in (placed : List (List Block)) → Placed a.v.sizes a.plan.at.now (blocks_in a.plan) placed → Holds a.v c.lay.new.w placed = λ placed p k h. let s = c.args.v.sizes in
    c.lay.ensures k (omega arith) ∙ ap (slots_with s.slots) (p (s.height - k) (omega arith)) in
    let a = c.args in
    record {
      path_is = λ placed p. c.write_path-root.ensures.path_is placed (holds_at placed p);
      desk_is =
          λ placed p.
          c.settle.ensures
          ∙ ap (λ (m : ℕ). settled a.id a.leaf m (blocks_for a.plan (a.v.sizes.height + 1)) c.write_path-root.result a.desk.now) c.from-mark.ensures
          ∙ ap (λ (r : List ℕ). settled a.id a.leaf (from_bool a.marked) (blocks_for a.plan (a.v.sizes.height + 1)) r a.desk.now)
          (c.write_path-root.ensures.root_is placed (holds_at placed p));
    }

-- `opening::table::slots_good` meets its contract: the slots of the first k items were walked, the stash first. Assumes nothing.
use Prim.Native.Nat.{ℕ, ◌≤◌}
use mathlib.Core.Path.{◌≡◌, ap, ap₂, ◌∙◌, subst}
use mathlib.Core.Bool.{Bool, true, false, not, ◌||◌}
use mathlib.Core.List.{List}
use native.Mathlib.Omega.{arith}
use lib.ListN.{length, get_or}
use lib.Dec.{eqb}
use Rattle.desk.specs.Readers.{is_marked, id_asked, stash_of}
use Rattle.slots.specs.Slots.{blocks_of}
use Rattle.items.specs.declared.View.{View}
use Rattle.items.specs.Way.{Reached}
use Rattle.opening.specs.Opening.{view_of}
use Rattle.opening.specs.Walk.{Seen, Walked, Unsealed}
use Rattle.opening.proofs.Open.{stash_room, stash-known, copy-carries}
use Rattle.items.proofs.Sealing.{carried-slots}
use Rattle.opening.proofs.Levels.{slots_held, walks-none, walks_next, walks-stop, walks-end}
use Rattle.opening.proofs.table.slots_good.Goals as goal

pub ids_seen-seen-requires : goal.ids_seen-seen-requires
ids_seen-seen-requires c =
    let a = c.args in
    let o = c.requires.open_desk.0 in record { n_in_bounds = rw (c.stash_slots.ensures, c.stash_count.ensures) (stash_room a.desk.now o); by_index = rw (c.stash_slots.ensures, c.stash_count.ensures) (stash-known a.desk.now o) }

pub loop-k-init : goal.loop-k-init
loop-k-init c =
    let a = c.args in
    let s : Seen c.ids_seen-seen.result (stash_of a.desk.now) = rw (c.stash_slots.ensures, c.stash_count.ensures) at c.ids_seen-seen.ensures in
    (s.size, walks-none a.desk.now a.w.now a.n c.ids_seen-seen.result s)

pub slots-requires : goal.slots-requires
slots-requires c =
    let a = c.args in
    let p = c.requires in
    (copy-carries a.desk.now p.open_desk.0 a.v a.w.now p.open_desk.1.0 p.w_len, omega (arith, p.open_desk.1.1, c.loop-k-test.true))

pub item_good-requires : goal.item_good-requires
item_good-requires c =
    let a = c.args in
    let p = c.requires in
    let l = c.loop-k in
    let k : l.k ≤ a.v.sizes.height = omega (arith, p.open_desk.1.1, c.loop-k-test.true) in record { open_desk = (p.open_desk.0, (p.open_desk.1.0, k)); slots_len = (ap length c.slots.ensures ∙ carried-slots a.v.sizes a.w.now l.k (copy-carries a.desk.now p.open_desk.0 a.v a.w.now p.open_desk.1.0 p.w_len) k, l.invariant.0) }

pub returns-then-not-item_good : goal.returns-then-not-item_good
returns-then-not-item_good c =
    let walked : (r : Bool) → c.item_good.result ≡ r → let a = c.args in let l = c.loop-k in Walked a.desk.now l.k (slots_held (view_of a.desk.now) a.w.now l.k) l.seen c.item_good.new.seen r = λ r e. let a = c.args in
    let l = c.loop-k in
    let z = c.item_good.new.seen in
    subst (λ (r : Bool). Walked a.desk.now l.k (slots_held (view_of a.desk.now) a.w.now l.k) l.seen z r) e
    (subst (λ (v : View). Walked a.desk.now l.k (slots_held v a.w.now l.k) l.seen z c.item_good.result) c.requires.open_desk.1.0
    (subst (λ (xs : List ℕ). Walked a.desk.now l.k (blocks_of a.v.sizes.slots xs) l.seen z c.item_good.result) c.slots.ensures c.item_good.ensures)) in
    let a = c.args in
    let o = c.requires.open_desk.0 in
    let e = c.requires.open_desk.1.0 in
    let l = c.loop-k in
    λ path r u.
    walks-stop a.desk.now a.w.now a.n l.seen c.item_good.new.seen l.k c.loop-k-test.true l.invariant.1 path
    (subst (λ (v : View). Reached v path a.n) e r) (subst (λ (v : View). Unsealed v path a.n a.w.now) e u) o.once (walked false (c.if-not-item_good.true))

pub loop-k-preserved : goal.loop-k-preserved
loop-k-preserved c =
    let walked : (r : Bool) → c.item_good.result ≡ r → let a = c.args in let l = c.loop-k in Walked a.desk.now l.k (slots_held (view_of a.desk.now) a.w.now l.k) l.seen c.item_good.new.seen r = λ r e. let a = c.args in
    let l = c.loop-k in
    let z = c.item_good.new.seen in
    subst (λ (r : Bool). Walked a.desk.now l.k (slots_held (view_of a.desk.now) a.w.now l.k) l.seen z r) e
    (subst (λ (v : View). Walked a.desk.now l.k (slots_held v a.w.now l.k) l.seen z c.item_good.result) c.requires.open_desk.1.0
    (subst (λ (xs : List ℕ). Walked a.desk.now l.k (blocks_of a.v.sizes.slots xs) l.seen z c.item_good.result) c.slots.ensures c.item_good.ensures)) in
    let a = c.args in
    let l = c.loop-k in (
      c.item_good.auto.seen ∙ l.invariant.0,
      λ path r u.
          walks_next a.desk.now a.w.now a.n l.seen c.item_good.new.seen l.k c.loop-k-test.true l.invariant.1 path r u
          (walked true (c.if-not-item_good.false)),
    )

pub is_marked-requires : goal.is_marked-requires
is_marked-requires c = let o = c.requires.open_desk.0 in let e = c.id_asked-id.ensures in (o.whole, (omega (arith, o.low), omega (arith, o.high)))

pub bounds-seen-id : goal.bounds-seen-id
bounds-seen-id c = let o = c.requires.open_desk.0 in let e = c.id_asked-id.ensures in let s = o.whole.small in omega (arith, o.high)

pub returns : goal.returns
returns c =
    let a = c.args in
    let o = c.requires.open_desk.0 in
    let e = c.requires.open_desk.1.0 in
    let l = c.loop-k in
    let s = o.whole.small in
    let m : c.is_marked.result ≡ is_marked a.desk.now (id_asked a.desk.now) = c.is_marked.ensures ∙ ap (is_marked a.desk.now) c.id_asked-id.ensures in
    let t : get_or l.seen c.id_asked-id.result 0 ≡ get_or l.seen (id_asked a.desk.now) 0 = ap (λ (i : ℕ). get_or l.seen i 0) c.id_asked-id.ensures in
    λ path r u.
    ap₂ (λ (x : Bool) (y : ℕ). not x || not (eqb y 0)) m t
    ∙ walks-end a.desk.now a.w.now a.n l.seen l.k (omega arith) o.once (omega (arith, o.low)) (omega (arith, o.high)) l.invariant.1 path
    (subst (λ (v : View). Reached v path a.n) e r) (subst (λ (v : View). Unsealed v path a.n a.w.now) e u)

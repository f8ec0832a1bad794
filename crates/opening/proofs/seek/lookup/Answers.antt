-- `opening::seek::lookup` meets its contract: none of the first k items has the id; where none has, the stash is looked through. Assumes nothing.
use Prim.Native.Nat.{ℕ}
use mathlib.Core.Path.{◌≡◌, refl, sym, ap, subst, ◌∙◌}
use mathlib.Core.List.{List, []}
use native.Mathlib.Omega.{arith}
use denote.Ref.{Bor}
use Rattle.std.proofs.Common.{Option, Some, None}
use Rattle.std.specs.Option.{MatchOption, unwrap_or}
use lib.ListN.{length}
use Rattle.sizes.specs.Sizes.{record_len, slots_len}
use Rattle.slots.specs.Slots.{blocks_of}
use Rattle.items.specs.declared.View.{View}
use Rattle.items.specs.Items.{slots_of}
use Rattle.items.specs.Way.{item, Reached}
use Rattle.items.proofs.Sealing.{carried-slots}
use Rattle.opening.specs.Opening.{view_of, lookup}
use Rattle.opening.specs.Walk.{Unsealed}
use Rattle.opening.proofs.Open.{copy-carries}
use Rattle.opening.proofs.Levels.{slots_held}
use Rattle.opening.proofs.Record.{record-here, record-not-here, record-none, record-stash}
use Rattle.opening.proofs.seek.lookup.Goals as goal

-- the record found, or an empty part
or-empty : (r : Option (Bor (List ℕ))) (d : Bor (List ℕ)) (ys : List ℕ) → d.now ≡ [] → MatchOption r (ys ≡ []) (λ f. (f.now ≡ ys) × (length f.now ≡ record_len)) → (unwrap_or r d).now ≡ ys
or-empty None d ys e h = e ∙ sym h
or-empty (Some f) d ys e h = h.0

pub loop-k-init : goal.loop-k-init
loop-k-init c = let a = c.args in λ path r u. record-none a.desk.now a.w.now a.n a.id c.requires.w_len.1 path r u

pub record_in-requires : goal.record_in-requires
record_in-requires c =
    let a = c.args in
    let p = c.requires in
    let e : length (slots_of a.v.sizes (item a.v a.w.now c.loop-k.k)) ≡ slots_len a.v.sizes =
    carried-slots a.v.sizes a.w.now c.loop-k.k (copy-carries a.desk.now p.open_desk.0 a.v a.w.now p.open_desk.1.0 p.w_len.0) (omega (arith, p.open_desk.1.1, c.loop-k-test.true)) in
    omega (arith, ap length c.slots.ensures)

pub returns-in-Some : goal.returns-in-Some
returns-in-Some c =
    let a = c.args in
    let e = c.requires.open_desk.1.0 in
    let l = c.loop-k in
    let found_in : c.in-Some.found.now ≡ lookup a.id (slots_held (view_of a.desk.now) a.w.now l.k) =
    c.in-Some.ensures.0 ∙ ap (λ (xs : List ℕ). lookup a.id (blocks_of a.v.sizes.slots xs)) c.slots.ensures ∙ ap (λ (v : View). lookup a.id (slots_held v a.w.now l.k)) e in
    λ path r u.
    let r₁ = subst (λ (v : View). Reached v path a.n) e r in
    let u₁ = subst (λ (v : View). Unsealed v path a.n a.w.now) e u in
    found_in ∙ record-here a.desk.now a.w.now a.n a.id c.requires.w_len.1 path r₁ u₁ l.k c.loop-k-test.true (l.invariant path r₁ u₁)
    (λ z. omega (arith, z, ap length found_in, c.in-Some.ensures.1))

pub loop-k-preserved : goal.loop-k-preserved
loop-k-preserved c =
    let a = c.args in
    let p = c.requires in
    let e = p.open_desk.1.0 in
    let l = c.loop-k in
    let none : lookup a.id (slots_held (view_of a.desk.now) a.w.now l.k) ≡ [] =
    sym (ap (λ (xs : List ℕ). lookup a.id (blocks_of a.v.sizes.slots xs)) c.slots.ensures ∙ ap (λ (v : View). lookup a.id (slots_held v a.w.now l.k)) e) ∙ c.in_default.ensures in
    let n = subst (λ (v : View). length (slots_of v.sizes (item v a.w.now l.k)) ≡ slots_len v.sizes) e
    (carried-slots a.v.sizes a.w.now l.k (copy-carries a.desk.now p.open_desk.0 a.v a.w.now e p.w_len.0) (omega (arith, p.open_desk.1.1, c.loop-k-test.true))) in
    λ path r u. record-not-here a.desk.now a.w.now a.n a.id p.w_len.1 path r u l.k c.loop-k-test.true (l.invariant path r u) (omega (arith, n)) (ap length none)

pub returns : goal.returns
returns c =
    let a = c.args in
    let e = c.requires.open_desk.1.0 in
    let l = c.loop-k in
    λ path r u.
    let r₁ = subst (λ (v : View). Reached v path a.n) e r in
    let u₁ = subst (λ (v : View). Unsealed v path a.n a.w.now) e u in
    ap (λ (x : Bor (List ℕ)). x.now) c.unwrap_or.ensures ∙ or-empty c.record_in-2.result _ _ refl c.record_in-2.ensures ∙ rw (c.stash_slots.ensures, c.stash_count.ensures)
    (record-stash a.desk.now a.w.now a.n a.id c.requires.w_len.1 path r₁ u₁ l.k (omega arith) (l.invariant path r₁ u₁))

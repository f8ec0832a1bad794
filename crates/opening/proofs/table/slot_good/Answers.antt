-- `opening::table::slot_good` meets its contract: an empty slot passes; any other is placed, and is met for the first time. Assumes nothing.
use Prim.Native.Nat.{ℕ, ◌≤◌}
use mathlib.Core.Bool.{true}
use mathlib.Core.Path.{◌≡◌, sym, ap, ◌∙◌}
use native.Mathlib.Omega.{arith}
use lib.ListN.{get_or}
use Rattle.sizes.specs.Sizes.{record_len, most_ids}
use Rattle.slots.specs.Slots.{Block, block_by}
use Rattle.opening.specs.Opening.{is_placed}
use Rattle.opening.proofs.Looks.{placed-known, looked-empty, looked-misplaced, looked-again, looked-new}
use Rattle.opening.proofs.table.slot_good.Goals as goal

pub returns-then-id-eq0 : goal.returns-then-id-eq0
returns-then-id-eq0 c = let a = c.args in looked-empty a.desk.now a.k (block_by record_len a.slot.now) a.seen.now (sym c.get16-id.ensures ∙ c.if-id-eq0.true)

pub is_placed-requires : goal.is_placed-requires
is_placed-requires c =
    let p = c.requires in
    let e = c.if-id-eq0.false in
    (p.open_desk.0, (p.open_desk.1.0, (p.open_desk.1.1, omega arith)))

pub returns-then-not-is_placed : goal.returns-then-not-is_placed
returns-then-not-is_placed c =
    let block : Block = block_by record_len c.args.slot.now in
    let id-is : c.get16-id.result ≡ block.id = c.get16-id.ensures in
    let used : block.id ≡ 0 → ⊥ = λ e. c.if-id-eq0.false (id-is ∙ e) in
    let test-is : c.is_placed.result ≡ is_placed c.args.desk.now c.args.k block = c.is_placed.ensures block.bytes ∙ rw (c.get16.ensures, id-is) in
    let a = c.args in
    looked-misplaced a.desk.now a.k block a.seen.now used a.seen.now (sym test-is ∙ c.if-not-is_placed.true)

pub bounds-seen-id : goal.bounds-seen-id
bounds-seen-id c =
    let block : Block = block_by record_len c.args.slot.now in
    let id-is : c.get16-id.result ≡ block.id = c.get16-id.ensures in
    let test-is : c.is_placed.result ≡ is_placed c.args.desk.now c.args.k block = c.is_placed.ensures block.bytes ∙ rw (c.get16.ensures, id-is) in
    let placed : c.is_placed.result ≡ true → is_placed c.args.desk.now c.args.k block ≡ true = λ e. sym test-is ∙ e in
    let small : c.is_placed.result ≡ true → block.id ≤ most_ids = λ e. let n = placed-known c.args.desk.now c.args.k block (placed e) in let w = c.requires.open_desk.0.whole.small in omega arith in
    let s = small (c.if-not-is_placed.false) in let e = id-is in omega (arith, c.requires.slot_len.1)

pub returns-then-seen-id-ne0 : goal.returns-then-seen-id-ne0
returns-then-seen-id-ne0 c =
    let block : Block = block_by record_len c.args.slot.now in
    let id-is : c.get16-id.result ≡ block.id = c.get16-id.ensures in
    let used : block.id ≡ 0 → ⊥ = λ e. c.if-id-eq0.false (id-is ∙ e) in
    let test-is : c.is_placed.result ≡ is_placed c.args.desk.now c.args.k block = c.is_placed.ensures block.bytes ∙ rw (c.get16.ensures, id-is) in
    let placed : c.is_placed.result ≡ true → is_placed c.args.desk.now c.args.k block ≡ true = λ e. sym test-is ∙ e in
    let small : c.is_placed.result ≡ true → block.id ≤ most_ids = λ e. let n = placed-known c.args.desk.now c.args.k block (placed e) in let w = c.requires.open_desk.0.whole.small in omega arith in
    let a = c.args in
    let t = c.if-not-is_placed.false in
    looked-again a.desk.now a.k block a.seen.now used (placed t) (small t) a.seen.now (λ z. c.if-seen-id-ne0.true (ap (λ (i : ℕ). get_or a.seen.now i 0) id-is ∙ z))

pub bounds-seen-id-2 : goal.bounds-seen-id-2
bounds-seen-id-2 c =
    let block : Block = block_by record_len c.args.slot.now in
    let id-is : c.get16-id.result ≡ block.id = c.get16-id.ensures in
    let test-is : c.is_placed.result ≡ is_placed c.args.desk.now c.args.k block = c.is_placed.ensures block.bytes ∙ rw (c.get16.ensures, id-is) in
    let placed : c.is_placed.result ≡ true → is_placed c.args.desk.now c.args.k block ≡ true = λ e. sym test-is ∙ e in
    let small : c.is_placed.result ≡ true → block.id ≤ most_ids = λ e. let n = placed-known c.args.desk.now c.args.k block (placed e) in let w = c.requires.open_desk.0.whole.small in omega arith in
    let s = small (c.if-not-is_placed.false) in let e = id-is in omega (arith, c.requires.slot_len.1)

pub returns : goal.returns
returns c =
    let block : Block = block_by record_len c.args.slot.now in
    let id-is : c.get16-id.result ≡ block.id = c.get16-id.ensures in
    let used : block.id ≡ 0 → ⊥ = λ e. c.if-id-eq0.false (id-is ∙ e) in
    let test-is : c.is_placed.result ≡ is_placed c.args.desk.now c.args.k block = c.is_placed.ensures block.bytes ∙ rw (c.get16.ensures, id-is) in
    let placed : c.is_placed.result ≡ true → is_placed c.args.desk.now c.args.k block ≡ true = λ e. sym test-is ∙ e in
    let small : c.is_placed.result ≡ true → block.id ≤ most_ids = λ e. let n = placed-known c.args.desk.now c.args.k block (placed e) in let w = c.requires.open_desk.0.whole.small in omega arith in
    let a = c.args in
    let t = c.if-not-is_placed.false in
    looked-new a.desk.now a.k block a.seen.now used (placed t) (small t) c.get16-id.result id-is (ap (λ (i : ℕ). get_or a.seen.now i 0) (sym id-is) ∙ c.if-seen-id-ne0.false)

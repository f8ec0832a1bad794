-- `verdicts::read_whole` meets its contract: its tests are those of a good record, and its parts the entry's. Assumes nothing.
use Prim.Native.Nat.{ℕ, ◌-◌}
use mathlib.Core.Path.{◌≡◌, sym, ap, ◌∙◌}
use mathlib.Core.Bool.{true, false, ◌&&◌}
use lib.ListN.{get_or}
use lib.Dec.{leb}
use Rattle.words.specs.Bytes.{part}
use Rattle.verdicts.specs.Verdict.{chapter_at, most_chapter, name_at, good_record, entry_in}
use Rattle.verdicts.proofs.GoodRecord.{reading-good, reading-bad, no-verdict, length-is, tests-are}
use Rattle.verdicts.proofs.read_whole.Goals as goal

pub returns-in_default : goal.returns-in_default
returns-in_default c = sym (reading-bad _ (no-verdict _ c.in_default.ensures.0))

pub returns-then-not-good : goal.returns-then-not-good
returns-then-not-good c =
    let tests : let a = c.args.«record».now in (leb (get_or a chapter_at 0) most_chapter && c.is_padded.result) ≡ good_record a = let a = c.args.«record».now in
    tests-are a _ c.requires (ap (λ (n : ℕ). part a name_at (n - name_at)) c.requires) c.before-length.ensures.0 (sym c.in-Ok.ensures.0) c.is_padded.ensures in
    sym (reading-bad _ (sym tests ∙ c.if-not-good.true))

pub returns : goal.returns
unfolding entry_in
returns c =
    let tests : let a = c.args.«record».now in (leb (get_or a chapter_at 0) most_chapter && c.is_padded.result) ≡ good_record a = let a = c.args.«record».now in
    tests-are a _ c.requires (ap (λ (n : ℕ). part a name_at (n - name_at)) c.requires) c.before-length.ensures.0 (sym c.in-Ok.ensures.0) c.is_padded.ensures in
    let a = c.args.«record».now in
    let n = length-is a _ c.requires (ap (λ (n : ℕ). part a name_at (n - name_at)) c.requires) c.before-length.ensures.0 in
    rw (c.in-Ok.ensures.1, c.get16.ensures, n) (sym (reading-good a (sym tests ∙ c.if-not-good.false)))

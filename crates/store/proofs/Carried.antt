-- By kind and mark: what the tests of the code say of mark, answer and buffer. Assumes nothing.
use mathlib.Core.Path.{◌≡◌, refl}
use mathlib.Core.Bool.{Bool, true, false}
use mathlib.Core.List.{List}
use Prim.Native.Nat.{ℕ}
use Rattle.std.specs.Int.{from_bool}
use Rattle.desk.specs.declared.Kind.{Kind}
use Rattle.desk.specs.declared.Kind.TheVariants.{Read, Write}
use Rattle.store.specs.declared.Finished.TheVariants as finished
use Rattle.store.specs.Steps.{answer_for, buffer_for, mark_for}
use Rattle.store.specs.Carried.{is_found, is_there}

pub mark-there : (kind : Kind) (marked : Bool) → is_there kind marked ≡ true → 1 ≡ mark_for kind marked
mark-there Read true h = refl
mark-there Read false h = cc
mark-there Write marked h = refl

pub mark-none : (kind : Kind) (marked : Bool) → is_there kind marked ≡ false → 0 ≡ mark_for kind marked
mark-none Read true h = cc
mark-none Read false h = refl
mark-none Write marked h = cc

pub mark-is : (kind : Kind) (marked : Bool) → from_bool (is_there kind marked) ≡ mark_for kind marked
mark-is Read true = refl
mark-is Read false = refl
mark-is Write marked = refl

pub answer-found : (kind : Kind) (marked : Bool) → is_found kind marked ≡ true → finished.Record ≡ answer_for kind marked
answer-found Read true h = refl
answer-found Read false h = cc
answer-found Write marked h = cc

pub answer-done : (kind : Kind) (marked : Bool) → is_found kind marked ≡ false → is_there kind marked ≡ true → finished.Done ≡ answer_for kind marked
answer-done Read true h k = cc
answer-done Read false h k = cc
answer-done Write marked h k = refl

pub answer-never : (kind : Kind) (marked : Bool) → is_there kind marked ≡ false → finished.Never ≡ answer_for kind marked
answer-never Read true h = cc
answer-never Read false h = refl
answer-never Write marked h = cc

module _ (found buffer : List ℕ) where
  pub buffer-found : (kind : Kind) (marked : Bool) → is_found kind marked ≡ true → found ≡ buffer_for kind marked found buffer
  buffer-found Read true h = refl
  buffer-found Read false h = cc
  buffer-found Write marked h = cc

  pub buffer-kept : (kind : Kind) (marked : Bool) → is_found kind marked ≡ false → buffer ≡ buffer_for kind marked found buffer
  buffer-kept Read true h = cc
  buffer-kept Read false h = refl
  buffer-kept Write marked h = refl

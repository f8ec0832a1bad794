-- `asks::ask_checked` meets its contract: each return is the first row whose test holds; what a row needs is known from the rows before it. Assumes nothing.
use mathlib.Core.Path.{◌≡◌, sym, ap, ◌∙◌}
use mathlib.Core.Bool.{true}
use native.Mathlib.Omega.{arith}
use lib.Dec.{leb, eqb}
use borrow.Author.Tests.{le-leb, lt-leb}
use Rattle.desk.specs.Status.{open_status, first_stopped}
use Rattle.desk.proofs.Statuses.{is-open}
use Rattle.sizes.specs.Sizes.{leaves}
use Rattle.desk.specs.declared.Shape.{Shape}
use Rattle.desk.specs.Layout.{ids_of, shape_of}
use Rattle.desk.specs.Readers.{sizes_of}
use Rattle.desk.specs.Good.{good_desk}
use Rattle.desk.proofs.Known.{known}
use Rattle.asks.specs.Ask.{ask_checked, record_fits}
use Rattle.asks.proofs.ask_checked.Goals as goal

pub returns-then-not-good : goal.returns-then-not-good
unfolding ask_checked
returns-then-not-good c = rw (sym c.good.ensures ∙ c.if-not-good.true)

pub status_of-status-requires : goal.status_of-status-requires
status_of-status-requires c = sym c.good.ensures ∙ c.if-not-good.false

pub returns-then-is_stopped : goal.returns-then-is_stopped
unfolding ask_checked
returns-then-is_stopped c =
    let good-at : good_desk c.args.desk.now ≡ true = sym c.good.ensures ∙ c.if-not-good.false in
    rw (good-at, sym (c.is_stopped.ensures ∙ ap (leb first_stopped) c.status_of-status.ensures) ∙ c.if-is_stopped.true)

pub returns-then-eq : goal.returns-then-eq
unfolding ask_checked
returns-then-eq c =
    let good-at : good_desk c.args.desk.now ≡ true = sym c.good.ensures ∙ c.if-not-good.false in
    rw (good-at, sym (c.is_stopped.ensures ∙ ap (leb first_stopped) c.status_of-status.ensures) ∙ c.if-is_stopped.false, sym (c.eq.ensures ∙ is-open _ ∙ ap (λ n. eqb n open_status) c.status_of-status.ensures) ∙ c.if-eq.true)

pub shape_of-h-requires : goal.shape_of-h-requires
shape_of-h-requires c =
    let good-at : good_desk c.args.desk.now ≡ true = sym c.good.ensures ∙ c.if-not-good.false in
    omega (arith, (known _ good-at).size)

pub returns-then-not-within : goal.returns-then-not-within
unfolding ask_checked
returns-then-not-within c =
    let good-at : good_desk c.args.desk.now ≡ true = sym c.good.ensures ∙ c.if-not-good.false in
    let ids_at : c.h.inside.n ≡ ids_of c.args.desk.now = ap (λ (h : Shape). h.n) (c.h.view_is ∙ c.shape_of-h.ensures) in
    rw (good-at, sym (c.is_stopped.ensures ∙ ap (leb first_stopped) c.status_of-status.ensures) ∙ c.if-is_stopped.false, sym (c.eq.ensures ∙ is-open _ ∙ ap (λ n. eqb n open_status) c.status_of-status.ensures) ∙ c.if-eq.false, ← ids_at, c.if-not-within.true)

pub sizes_of-requires : goal.sizes_of-requires
sizes_of-requires c =
    let good-at : good_desk c.args.desk.now ≡ true = sym c.good.ensures ∙ c.if-not-good.false in
    omega (arith, (known _ good-at).size)

pub leaves-requires : goal.leaves-requires
leaves-requires c =
    let good-at : good_desk c.args.desk.now ≡ true = sym c.good.ensures ∙ c.if-not-good.false in
    rw c.sizes_of.ensures (known _ good-at).head.sizes

pub returns-then-leaves-leaf : goal.returns-then-leaves-leaf
unfolding ask_checked
returns-then-leaves-leaf c =
    let good-at : good_desk c.args.desk.now ≡ true = sym c.good.ensures ∙ c.if-not-good.false in
    let ids_at : c.h.inside.n ≡ ids_of c.args.desk.now = ap (λ (h : Shape). h.n) (c.h.view_is ∙ c.shape_of-h.ensures) in
    let leaves_at : c.leaves.result ≡ leaves (sizes_of c.args.desk.now) = c.leaves.ensures.0 ∙ ap leaves c.sizes_of.ensures in
    rw (good-at, sym (c.is_stopped.ensures ∙ ap (leb first_stopped) c.status_of-status.ensures) ∙ c.if-is_stopped.false, sym (c.eq.ensures ∙ is-open _ ∙ ap (λ n. eqb n open_status) c.status_of-status.ensures) ∙ c.if-eq.false, ← ids_at, c.if-not-within.false, ← leaves_at, le-leb _ _ c.if-leaves-leaf.true)

pub returns-then-not-record_fits : goal.returns-then-not-record_fits
unfolding ask_checked
returns-then-not-record_fits c =
    let good-at : good_desk c.args.desk.now ≡ true = sym c.good.ensures ∙ c.if-not-good.false in
    let ids_at : c.h.inside.n ≡ ids_of c.args.desk.now = ap (λ (h : Shape). h.n) (c.h.view_is ∙ c.shape_of-h.ensures) in
    let leaves_at : c.leaves.result ≡ leaves (sizes_of c.args.desk.now) = c.leaves.ensures.0 ∙ ap leaves c.sizes_of.ensures in
    let fits-at : let a = c.args in c.record_fits.result ≡ record_fits (shape_of a.desk.now).r a.kind a.«record».now = let a = c.args in c.record_fits.ensures ∙ ap (λ (h : Shape). record_fits h.r a.kind a.«record».now) (c.h.view_is ∙ c.shape_of-h.ensures) in
    rw (
      good-at,
      sym (c.is_stopped.ensures ∙ ap (leb first_stopped) c.status_of-status.ensures) ∙ c.if-is_stopped.false,
      sym (c.eq.ensures ∙ is-open _ ∙ ap (λ n. eqb n open_status) c.status_of-status.ensures) ∙ c.if-eq.false,
      ← ids_at,
      c.if-not-within.false,
      ← leaves_at,
      lt-leb _ _ c.if-leaves-leaf.false,
      sym fits-at ∙ c.if-not-record_fits.true,
    )

pub returns : goal.returns
unfolding ask_checked
returns c =
    let good-at : good_desk c.args.desk.now ≡ true = sym c.good.ensures ∙ c.if-not-good.false in
    let ids_at : c.h.inside.n ≡ ids_of c.args.desk.now = ap (λ (h : Shape). h.n) (c.h.view_is ∙ c.shape_of-h.ensures) in
    let leaves_at : c.leaves.result ≡ leaves (sizes_of c.args.desk.now) = c.leaves.ensures.0 ∙ ap leaves c.sizes_of.ensures in
    let fits-at : let a = c.args in c.record_fits.result ≡ record_fits (shape_of a.desk.now).r a.kind a.«record».now = let a = c.args in c.record_fits.ensures ∙ ap (λ (h : Shape). record_fits h.r a.kind a.«record».now) (c.h.view_is ∙ c.shape_of-h.ensures) in
    rw (
      good-at,
      sym (c.is_stopped.ensures ∙ ap (leb first_stopped) c.status_of-status.ensures) ∙ c.if-is_stopped.false,
      sym (c.eq.ensures ∙ is-open _ ∙ ap (λ n. eqb n open_status) c.status_of-status.ensures) ∙ c.if-eq.false,
      ← ids_at,
      c.if-not-within.false,
      ← leaves_at,
      lt-leb _ _ c.if-leaves-leaf.false,
      sym fits-at ∙ c.if-not-record_fits.false,
    )

-- `store::entry_checked` meets its contract: each return gives the first row that applies. Assumes nothing.
use mathlib.Core.Path.{◌≡◌, sym, ap, ◌∙◌}
use mathlib.Core.Bool.{true}
use native.Mathlib.Omega.{arith}
use lib.Dec.{leb, eqb}
use Rattle.desk.specs.Status.{ready_status, first_stopped}
use Rattle.desk.proofs.Statuses.{is-ready}
use Rattle.sizes.specs.Sizes.{path_len}
use Rattle.desk.specs.Readers.{sizes_of}
use Rattle.desk.specs.Good.{good_desk}
use Rattle.desk.proofs.Known.{known}
use Rattle.store.proofs.entry_checked.Goals as goal

pub returns-then-not-good : goal.returns-then-not-good
returns-then-not-good c = rw (sym c.good.ensures ∙ c.if-not-good.true)

pub status_of-status-requires : goal.status_of-status-requires
status_of-status-requires c = sym c.good.ensures ∙ c.if-not-good.false

pub returns-then-is_stopped : goal.returns-then-is_stopped
returns-then-is_stopped c =
    let good-at : good_desk c.args.desk.now ≡ true = sym c.good.ensures ∙ c.if-not-good.false in
    rw (good-at, sym (c.is_stopped.ensures ∙ ap (leb first_stopped) c.status_of-status.ensures) ∙ c.if-is_stopped.true)

pub returns-then-eq : goal.returns-then-eq
returns-then-eq c =
    let good-at : good_desk c.args.desk.now ≡ true = sym c.good.ensures ∙ c.if-not-good.false in
    rw (good-at, sym (c.is_stopped.ensures ∙ ap (leb first_stopped) c.status_of-status.ensures) ∙ c.if-is_stopped.false, sym (c.eq.ensures ∙ is-ready _ ∙ ap (λ n. eqb n ready_status) c.status_of-status.ensures) ∙ c.if-eq.true)

pub sizes_of-s-requires : goal.sizes_of-s-requires
sizes_of-s-requires c =
    let good-at : good_desk c.args.desk.now ≡ true = sym c.good.ensures ∙ c.if-not-good.false in
    omega (arith, (known _ good-at).size)

pub path_len-requires : goal.path_len-requires
path_len-requires c =
    let good-at : good_desk c.args.desk.now ≡ true = sym c.good.ensures ∙ c.if-not-good.false in
    rw c.sizes_of-s.ensures (known _ good-at).head.sizes

pub returns-then-not-fits : goal.returns-then-not-fits
returns-then-not-fits c =
    let good-at : good_desk c.args.desk.now ≡ true = sym c.good.ensures ∙ c.if-not-good.false in
    let length_at : c.path_len.result ≡ path_len (sizes_of c.args.desk.now) = c.path_len.ensures ∙ ap path_len c.sizes_of-s.ensures in
    rw (good-at, sym (c.is_stopped.ensures ∙ ap (leb first_stopped) c.status_of-status.ensures) ∙ c.if-is_stopped.false, sym (c.eq.ensures ∙ is-ready _ ∙ ap (λ n. eqb n ready_status) c.status_of-status.ensures) ∙ c.if-eq.false, ← length_at, c.if-not-fits.true)

pub returns : goal.returns
returns c =
    let good-at : good_desk c.args.desk.now ≡ true = sym c.good.ensures ∙ c.if-not-good.false in
    let length_at : c.path_len.result ≡ path_len (sizes_of c.args.desk.now) = c.path_len.ensures ∙ ap path_len c.sizes_of-s.ensures in
    rw (good-at, sym (c.is_stopped.ensures ∙ ap (leb first_stopped) c.status_of-status.ensures) ∙ c.if-is_stopped.false, sym (c.eq.ensures ∙ is-ready _ ∙ ap (λ n. eqb n ready_status) c.status_of-status.ensures) ∙ c.if-eq.false, ← length_at, c.if-not-fits.false)

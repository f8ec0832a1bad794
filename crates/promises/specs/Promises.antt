-- All that is promised of our store, over a digest and a cipher. Assumes nothing.
use Rattle.items.specs.Items.{Means}
use Rattle.promises.specs.Stores.{ours}
use Rattle.promises.specs.DemandOne.{DemandOne}
use Rattle.promises.specs.Finishes.{KeepsGood, EachFinish}
use Rattle.promises.specs.DemandTwo.{Exactly, DemandTwo, DemandTwoReachable}
use Rattle.promises.specs.Trees.{DemandTwoTree}
use Rattle.promises.specs.Requests.{WholeRequests}
use Rattle.promises.specs.DemandThree.{DemandThree, InOrder, ShownByDraws, ShownOnce, ShownLast}
use Rattle.promises.specs.Rows.{HonestRows, AnyRow}
use Rattle.promises.specs.Taps.{HonestTaps, AnyTap}
use Rattle.promises.specs.Carried.{Carried}
use Rattle.promises.specs.Deeds.{ThreeWithDeeds}
use Rattle.promises.specs.Exists.{Exists}
use Rattle.promises.specs.Wrong.{ShutOut}
use Rattle.promises.specs.Figures.{Figures}

pub record Promises (m : Means) : Type 0 where
  -- 1: one result on every input, refusals in order, what they change
  pub one : DemandOne m (ours m)
  -- of each call, whatever path comes back: a good desk stays good; what a finish reads, and what it leaves
  pub keeps_good : KeepsGood (ours m)
  pub each_finish : EachFinish m (ours m)
  -- 2: Forged, Worn and Full exactly; a plain table over an honest server, over one that alters only what nobody looks at, and over fetch and put
  pub exactly : Exactly m (ours m)
  pub two : DemandTwo m (ours m)
  pub two_reachable : DemandTwoReachable m (ours m)
  pub two_tree : DemandTwoTree m (ours m)
  -- one whole request, as one call, is what its steps are
  pub requests : WholeRequests
  -- a row of the verdict book: its counts add up; over an honest server it is the plain table's own row, and leaves the table
  pub any_row : AnyRow
  pub honest_rows : HonestRows
  -- TAP in and out: a text that is refused changes nothing, and a refusal hands out none
  pub any_tap : AnyTap
  -- over an honest server a text that is read is what the table then holds, and a text that is written is what it says
  pub honest_taps : HonestTaps
  -- a text written from one store and read into another
  pub carried : Carried
  -- 3: what is shown does not depend on what is asked for; no draw is shown twice; the leaf shown is the last one drawn for the id
  pub three : DemandThree (ours m) (ours m)
  pub in_order : InOrder
  pub shown_by_draws : ShownByDraws (ours m)
  pub shown_once : ShownOnce (ours m)
  pub shown_last : ShownLast (ours m)
  -- the same of runs with rows of the verdict book and texts of TAP among the requests
  pub three_with_deeds : ThreeWithDeeds
  -- there are runs, and wrong stores are shut out
  pub exists : Exists (ours m)
  pub shut_out : ShutOut m
  -- the worked figures
  pub figures : Figures m (ours m)

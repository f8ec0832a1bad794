-- All that is promised holds, whatever digest of 32 bytes and whatever cipher that keeps the length and undoes itself. Assumes nothing else.
use Rattle.items.specs.Items.{Means, Sound}
use Rattle.draws.proofs.Same.{rearrange-order}
use Rattle.promises.specs.Promises.{Promises}
use Rattle.promises.specs.Wrong.{ShutOut}
use Rattle.promises.proofs.One.{demand-one}
use Rattle.promises.proofs.Finishes.{keeps_good, each_finish}
use Rattle.promises.proofs.Exactly.{exactly}
use Rattle.promises.proofs.Two.{demand-two, demand-two-reachable}
use Rattle.promises.proofs.Trees.{demand-two-tree}
use Rattle.promises.proofs.Requests.{whole-requests}
use Rattle.promises.proofs.Three.{demand-three, leaf-at, shown_once, shown-last-drawn}
use Rattle.promises.proofs.BookRows.{any_row}
use Rattle.promises.proofs.HonestRows.{honest_rows}
use Rattle.promises.proofs.AnyTaps.{any_tap}
use Rattle.promises.proofs.HonestTaps.{honest_taps}
use Rattle.promises.proofs.Carried.{carried}
use Rattle.promises.proofs.DeedsShown.{three_with_deeds}
use Rattle.promises.proofs.Exists.{exists}
use Rattle.promises.proofs.Wrong.{refusing-out, denying-out, idle-out, inventing-out, zeroing-out, zeroing-three}
use Rattle.promises.proofs.Echo.{echoing-out}
use Rattle.promises.proofs.Figures.{figures}

shut_out : (m : Means) → Sound m → ShutOut m
shut_out m o =
    record {
      refuses_always = refusing-out m o;
      answers_never = denying-out m o;
      changes_nothing = idle-out m o;
      only_echoes = echoing-out m o;
      invents_counters = inventing-out m o;
      asks_for_zero = zeroing-out m o;
      zero_is_no_leak = zeroing-three m o;
    }

pub promises : (m : Means) → Sound m → Promises m
promises m o =
    record {
      one = demand-one m;
      keeps_good = keeps_good m o;
      each_finish = each_finish m o;
      exactly = exactly m;
      two = demand-two m o;
      two_reachable = demand-two-reachable m o;
      two_tree = demand-two-tree m o;
      requests = whole-requests;
      any_row = any_row;
      honest_rows = honest_rows;
      any_tap = any_tap;
      honest_taps = honest_taps;
      carried = carried;
      three = demand-three m o m o;
      in_order = rearrange-order;
      shown_by_draws = λ n. leaf-at m o n;
      shown_once = shown_once m o;
      shown_last = shown-last-drawn m o;
      three_with_deeds = three_with_deeds;
      exists = exists m o;
      shut_out = shut_out m o;
      figures = figures m;
    }

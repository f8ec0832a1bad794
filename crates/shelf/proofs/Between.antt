-- The program's loop: between two turns the buffers have the lengths that they came with, the unread text lies in the window, and the run is sound. Assumes nothing.
use Prim.Native.Nat.{ℕ, ◌+◌, ◌^◌, ◌≤◌, ◌<◌}
use mathlib.Core.Path.{◌≡◌, refl, ◌∙◌}
use mathlib.Core.Bool.{false}
use mathlib.Core.List.{List}
use native.Mathlib.Omega.{arith}
use lib.ListN.{length}
use Rattle.std.specs.Prelude.{Option, Some, None}
use Rattle.setup.specs.Setup.{most_line}
use Rattle.runs.specs.declared.run.Run.TheVariants as run
use Rattle.shelf.specs.declared.turns.Place.{Place}
use Rattle.runs.specs.Shelf.{shelf, Lent}
use Rattle.runs.specs.Run.{is_over, Sound, count_of}
use Rattle.shelf.specs.Turns.{Left, Turned}

pub record Between (w₀ d₀ t₀ p₀ b₀ l₀ o₀ w d t p b l o : List ℕ) (at : Place) (turns : ℕ) : Type 0 where
  pub window_is : length w ≡ length w₀
  pub desk_is : length d ≡ length d₀
  pub tree_is : length t ≡ length t₀
  pub path_is : length p ≡ length p₀
  pub buffer_is : length b ≡ length b₀
  pub leaves_is : length l ≡ length l₀
  pub out_is : length o ≡ length o₀
  pub from_to : at.from ≤ at.to
  pub inside : at.to ≤ length w
  pub window_most : most_line < length w
  pub going : is_over at.run ≡ false
  pub sound : Sound at.run
  pub counted : count_of at.run ≤ turns
  pub lent : Lent (shelf d t p b l) o

pub between_first : (w d t p b l o : List ℕ) (turns : ℕ) → turns < 2 ^ 64 → most_line < length w → Lent (shelf d t p b l) o → Between w d t p b l o w d t p b l o (record { from = 0; to = 0; ended = false; run = run.First }) turns
between_first w d t p b l o turns h m e =
    record {
      window_is = refl;
      desk_is = refl;
      tree_is = refl;
      path_is = refl;
      buffer_is = refl;
      leaves_is = refl;
      out_is = refl;
      from_to = omega arith;
      inside = omega arith;
      window_most = m;
      going = refl;
      sound = tt;
      counted = omega arith;
      lent = e;
    }

-- one turn more
module _ {w₀ d₀ t₀ p₀ b₀ l₀ o₀ w d t p b l o : List ℕ} {at : Place} {turns : ℕ} (x : Between w₀ d₀ t₀ p₀ b₀ l₀ o₀ w d t p b l o at turns) where
  pub between_next : {w' d' t' p' b' l' o' : List ℕ} {at' : Place} → length w' ≡ length w → length d' ≡ length d → length t' ≡ length t → length p' ≡ length p → length b' ≡ length b → length l' ≡ length l → length o' ≡ length o
      → Left at' (count_of at.run) (length w) → Between w₀ d₀ t₀ p₀ b₀ l₀ o₀ w' d' t' p' b' l' o' at' (turns + 1)
  between_next kw kd kt kp kb kl ko y =
      record {
        window_is = kw ∙ x.window_is;
        desk_is = kd ∙ x.desk_is;
        tree_is = kt ∙ x.tree_is;
        path_is = kp ∙ x.path_is;
        buffer_is = kb ∙ x.buffer_is;
        leaves_is = kl ∙ x.leaves_is;
        out_is = ko ∙ x.out_is;
        from_to = y.from_to;
        inside = omega (arith, kw, y.inside);
        window_most = omega (arith, kw, x.window_most);
        going = y.going;
        sound = y.sound;
        counted = omega (arith, y.count_high, x.counted);
        lent =
            record {
              desk_most = omega (arith, kd, x.lent.desk_most);
              tree_most = omega (arith, kt, x.lent.tree_most);
              path_most = omega (arith, kp, x.lent.path_most);
              buffer_is = kb ∙ x.lent.buffer_is;
              leaves_most = omega (arith, kl, x.lent.leaves_most);
              out_most = omega (arith, ko, x.lent.out_most);
            };
      }

-- a turn may be said to go on in a larger window
pub turned-in : (x : Option Place) (k n m : ℕ) → n ≤ m → Turned x k n → Turned x k m
turned-in (Some at) k n m h y = record { from_to = y.from_to; inside = omega (arith, y.inside); going = y.going; sound = y.sound; count_high = y.count_high }
turned-in None k n m h y = tt

-- The lengths and numbers under which a new desk is written. Assumes nothing.
use Rattle.std.specs.Prelude.{ℕ, ◌≤◌, ◌≡◌, List, length}
use Rattle.sizes.specs.Sizes.{most_ids, desk_len, key_len}

pub record Fits (desk : List ℕ) (room n : ℕ) (key starts : List ℕ) : Type 0 where
  pub size : length desk ≡ desk_len n room
  pub ids_high : n ≤ most_ids
  pub room_high : room ≤ 255
  pub starts_length : length starts ≡ n
  pub key_length : length key ≡ key_len

-- What a `Hasher` stands for. Assumes nothing.
use Rattle.std.specs.Prelude.{◌≡◌, ℕ, ◌+◌, ◌*◌, ◌/◌, ◌%◌, ◌^◌, List, ◌++◌, length, take, drop}
use Rattle.digest_sha2.specs.Sha2.{after}
use Rattle.digest_sha2.specs.Sha256.{v256, H256}
use Rattle.sha256.specs.declared.stream.Hasher.{Hasher}

-- h has taken in the bytes bs: its state is the one after the whole blocks of bs, its block begins with the bytes left over, and it has counted them all
pub record Holds (h : Hasher) (bs : List ℕ) : Type 0 where
  pub hash : h.state ≡ after v256 H256 (length bs / 64) bs
  pub left : take (length bs % 64) h.block ≡ drop (64 * (length bs / 64)) bs
  pub count : h.total ≡ length bs % 2 ^ 64

-- r is h with the bytes of part taken in besides, whatever h had taken in
pub record Grown (h : Hasher) (part : List ℕ) (r : Hasher) : Type 0 where
  pub holds : (bs : List ℕ) → Holds h bs → Holds r (bs ++ part)
  pub total : r.total ≡ (h.total + length part) % 2 ^ 64

-- `digest_sha2::constants256::constants` meets its contract: each row is computed to be the standard's, word by word. Assumes nothing.
use Rattle.std.proofs.Common.{◌≡◌, ℕ, zero, suc, ◌*◌, ◌<◌, List, [], ◌∷◌, refl, get_or, arith}
use Rattle.words.specs.Bytes.{part}
use Rattle.digest_sha2.specs.Sha256.{K256}
use Rattle.digest_sha2.proofs.constants256.constants.Goals as goal

-- the rows of the table, by their number
row : (i : ℕ) (none : List ℕ) → i < 4 → get_or (part K256 0 16 ∷ part K256 16 16 ∷ part K256 32 16 ∷ part K256 48 16 ∷ []) i none ≡ part K256 (16 * i) 16
row zero none h = refl
row (suc zero) none h = refl
row (suc (suc zero)) none h = refl
row (suc (suc (suc zero))) none h = refl
row (suc (suc (suc (suc i)))) none h = absurd (omega arith)

pub returns : goal.returns
unfolding K256
returns c = row c.args.row _ c.requires

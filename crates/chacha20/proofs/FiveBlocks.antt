-- What five blocks at once come to: the keystream's blocks one after another. Assumes nothing.
use Rattle.std.proofs.Common.{◌≡◌, ℕ, suc, ◌+◌, ◌%◌, ◌^◌, ◌<◌, List, length, ap, ◌∙◌, append-nil, arith}
use Rattle.chacha20.specs.ChaCha.{add32, rounds, initial, zipped, serialize, block, blocks}
use Rattle.chacha20.specs.Lanes.{lane, rounds_four, initial_four, bytes_of_five}
use Rattle.chacha20.proofs.Zipped.{length-zipped}
use Rattle.chacha20.proofs.Serial.{lane-one}
use Rattle.chacha20.proofs.Blocks.{length-rounds, length-initial}
use Rattle.chacha20.proofs.Lanes.{counter, length-rounds_four, length-initial_four, rounds-lane, zipped-lane, initial-lane}

module _ (key nonce : List ℕ) (n : ℕ) where
  -- one of the four
  lane-block : (k : ℕ) → k < 4
      → serialize (lane 4 k (zipped add32 (rounds_four 10 (initial_four key nonce n)) (initial_four key nonce n))) ≡ block key nonce (counter n k)
  unfolding block
  lane-block k h =
      let s = initial_four key nonce n in
      let l : length s ≡ 64 = length-initial_four key nonce n in
      let e : lane 4 k s ≡ initial key nonce (counter n k) = initial-lane key nonce n k h in
      ap serialize
      (zipped-lane add32 (rounds_four 10 s) s k (length-rounds_four 10 s ∙ l) l h ∙ rw (rounds-lane 10 s k l h, e))

  -- the one beside them
  one_block : (m : ℕ) → serialize (lane 1 0 (zipped add32 (rounds 10 (initial key nonce m)) (initial key nonce m))) ≡ block key nonce m
  unfolding block
  one_block m =
      let s = initial key nonce m in
      let l : length s ≡ 16 = length-initial key nonce m in
      let r : length (rounds 10 s) ≡ length s = length-rounds 10 s in
      ap serialize (lane-one (zipped add32 (rounds 10 s) s) (length-zipped add32 (rounds 10 s) s (omega arith) ∙ r ∙ l))

  pub five-blocks : n < 2 ^ 32
      → bytes_of_five (zipped add32 (rounds_four 10 (initial_four key nonce n)) (initial_four key nonce n))
      (zipped add32 (rounds 10 (initial key nonce (add32 n 4))) (initial key nonce (add32 n 4)))
      ≡ blocks key nonce n 5
  unfolding bytes_of_five blocks add32
  five-blocks h =
      let e0 : n % 2 ^ 32 ≡ n = omega arith in
      let e1 : suc n % 2 ^ 32 ≡ (n + 1) % 2 ^ 32 = omega arith in
      let e2 : suc (suc n) % 2 ^ 32 ≡ (n + 2) % 2 ^ 32 = omega arith in
      let e3 : suc (suc (suc n)) % 2 ^ 32 ≡ (n + 3) % 2 ^ 32 = omega arith in
      let e4 : suc (suc (suc (suc n))) % 2 ^ 32 ≡ (n + 4) % 2 ^ 32 = omega arith in
      rw (lane-block 0 (omega arith), lane-block 1 (omega arith), lane-block 2 (omega arith), lane-block 3 (omega arith), one_block ((n + 4) % 2 ^ 32), e0, e1, e2, e3, e4)
      (simp append-nil)

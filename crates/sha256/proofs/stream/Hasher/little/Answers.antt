-- `sha256::stream::Hasher::little` meets its contract: the bytes go behind those left over, and a block that is full is compressed. Assumes nothing.
use Rattle.std.proofs.Common.{◌≡◌, ℕ, ◌/◌, refl, ap, ◌∙◌, length, arith, rules}
use Rattle.digest_sha2.specs.Sha2.{after}
use Rattle.digest_sha2.specs.Sha256.{v256}
use Rattle.sha256.proofs.Held.{grown-full, grown-part}
use Rattle.sha256.proofs.stream.Hasher.little.Goals as goal

pub returns-then-at-part-eq-BLOCK : goal.returns-then-at-part-eq-BLOCK
returns-then-at-part-eq-BLOCK c =
    let b = c.begun-at in
    let h = c.args.self.now in
    let block = c.copy.new.dst in
    let l : length h.block ≡ 64 = search rules in
    let m : length block ≡ 64 = search rules in
    let n : length block / 64 ≡ 1 = omega arith in
    grown-full h c.args.part.now block b.result _ b.ensures l c.requires c.copy.ensures refl c.blocks-self.result (omega (arith, b.ensures, c.if-at-part-eq-BLOCK.true))
    (c.blocks-self.ensures ∙ ap (λ (k : ℕ). after v256 h.state k block) n)

pub returns-else-at-part-eq-BLOCK : goal.returns-else-at-part-eq-BLOCK
returns-else-at-part-eq-BLOCK c =
    let b = c.begun-at in
    let h = c.args.self.now in
    let l : length h.block ≡ 64 = search rules in
    grown-part h c.args.part.now c.copy.new.dst b.result _ b.ensures l c.requires c.copy.ensures refl (λ e. c.if-at-part-eq-BLOCK.false (rw b.ensures e))

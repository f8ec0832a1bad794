-- `sha256::rounds::four` meets its contract: four steps, each with the word at its place. Assumes nothing.
use Rattle.std.proofs.Common.{◌≡◌, ℕ, ◌+◌, ◌<◌, get_or, arith}
use Rattle.digest_sha2.proofs.Window.{window-begun}
use Rattle.sha256.proofs.rounds.four.Goals as goal

pub returns : goal.returns
returns c =
    let a = c.args in
    λ ws s₀ t k p q.
    let word : (j : ℕ) → j < 16 → get_or a.w.now j 0 ≡ get_or ws (t + j) 0 = window-begun ws a.w.now t p in
    let e₂ : a.i + 1 + 1 ≡ a.i + 2 = omega arith in
    let e₃ : a.i + 2 + 1 ≡ a.i + 3 = omega arith in
    let e₄ : a.i + 3 + 1 ≡ a.i + 4 = omega arith in
    let r₁ = c.step-a.ensures ws s₀ t k (word a.i (omega arith)) q in
    let r₂ = rw e₂ at (c.step-b.ensures ws s₀ t k (word (a.i + 1) (omega arith)) r₁) in
    let r₃ = rw e₃ at (c.step-c.ensures ws s₀ t k (word (a.i + 2) (omega arith)) r₂) in
    rw e₄ at (c.step.ensures ws s₀ t k (word (a.i + 3) (omega arith)) r₃)

-- `sha256::rounds::turn` meets its contract: sixteen steps, each from where the one before it ends. Assumes nothing.
use Rattle.std.proofs.Common.{lit<}
use Rattle.digest_sha2.specs.Sha256.{v256}
use Rattle.digest_sha2.proofs.Rounds.{reached-turn}
use Rattle.sha256.proofs.rounds.turn.Goals as goal

pub step_on-s1-requires : goal.step_on-s1-requires
step_on-s1-requires c = record { i_bound = lit< tt; k_len = c.requires.k_len; w_len = c.requires.w_len }

pub step_on-s2-requires : goal.step_on-s2-requires
step_on-s2-requires c = record { i_bound = lit< tt; k_len = c.requires.k_len; w_len = c.step_on-s1.ensures.w_len_2 }

pub step_on-s3-requires : goal.step_on-s3-requires
step_on-s3-requires c = record { i_bound = lit< tt; k_len = c.requires.k_len; w_len = c.step_on-s2.ensures.w_len_2 }

pub step_on-s4-requires : goal.step_on-s4-requires
step_on-s4-requires c = record { i_bound = lit< tt; k_len = c.requires.k_len; w_len = c.step_on-s3.ensures.w_len_2 }

pub step_on-s5-requires : goal.step_on-s5-requires
step_on-s5-requires c = record { i_bound = lit< tt; k_len = c.requires.k_len; w_len = c.step_on-s4.ensures.w_len_2 }

pub step_on-s6-requires : goal.step_on-s6-requires
step_on-s6-requires c = record { i_bound = lit< tt; k_len = c.requires.k_len; w_len = c.step_on-s5.ensures.w_len_2 }

pub step_on-s7-requires : goal.step_on-s7-requires
step_on-s7-requires c = record { i_bound = lit< tt; k_len = c.requires.k_len; w_len = c.step_on-s6.ensures.w_len_2 }

pub step_on-s8-requires : goal.step_on-s8-requires
step_on-s8-requires c = record { i_bound = lit< tt; k_len = c.requires.k_len; w_len = c.step_on-s7.ensures.w_len_2 }

pub step_on-s9-requires : goal.step_on-s9-requires
step_on-s9-requires c = record { i_bound = lit< tt; k_len = c.requires.k_len; w_len = c.step_on-s8.ensures.w_len_2 }

pub step_on-s10-requires : goal.step_on-s10-requires
step_on-s10-requires c = record { i_bound = lit< tt; k_len = c.requires.k_len; w_len = c.step_on-s9.ensures.w_len_2 }

pub step_on-s11-requires : goal.step_on-s11-requires
step_on-s11-requires c = record { i_bound = lit< tt; k_len = c.requires.k_len; w_len = c.step_on-s10.ensures.w_len_2 }

pub step_on-s12-requires : goal.step_on-s12-requires
step_on-s12-requires c = record { i_bound = lit< tt; k_len = c.requires.k_len; w_len = c.step_on-s11.ensures.w_len_2 }

pub step_on-s13-requires : goal.step_on-s13-requires
step_on-s13-requires c = record { i_bound = lit< tt; k_len = c.requires.k_len; w_len = c.step_on-s12.ensures.w_len_2 }

pub step_on-s14-requires : goal.step_on-s14-requires
step_on-s14-requires c = record { i_bound = lit< tt; k_len = c.requires.k_len; w_len = c.step_on-s13.ensures.w_len_2 }

pub step_on-s15-requires : goal.step_on-s15-requires
step_on-s15-requires c = record { i_bound = lit< tt; k_len = c.requires.k_len; w_len = c.step_on-s14.ensures.w_len_2 }

pub step_on-s16-requires : goal.step_on-s16-requires
step_on-s16-requires c = record { i_bound = lit< tt; k_len = c.requires.k_len; w_len = c.step_on-s15.ensures.w_len_2 }

pub returns : goal.returns
returns c = record {
  w_len_2 = c.step_on-s16.ensures.w_len_2;
  by_index = λ ws s₀ t f b k p.
      let p₁ = c.step_on-s1.ensures.by_index ws s₀ t f b k p in
      let p₂ = c.step_on-s2.ensures.by_index ws s₀ t f b k p₁ in
      let p₃ = c.step_on-s3.ensures.by_index ws s₀ t f b k p₂ in
      let p₄ = c.step_on-s4.ensures.by_index ws s₀ t f b k p₃ in
      let p₅ = c.step_on-s5.ensures.by_index ws s₀ t f b k p₄ in
      let p₆ = c.step_on-s6.ensures.by_index ws s₀ t f b k p₅ in
      let p₇ = c.step_on-s7.ensures.by_index ws s₀ t f b k p₆ in
      let p₈ = c.step_on-s8.ensures.by_index ws s₀ t f b k p₇ in
      let p₉ = c.step_on-s9.ensures.by_index ws s₀ t f b k p₈ in
      let p₁₀ = c.step_on-s10.ensures.by_index ws s₀ t f b k p₉ in
      let p₁₁ = c.step_on-s11.ensures.by_index ws s₀ t f b k p₁₀ in
      let p₁₂ = c.step_on-s12.ensures.by_index ws s₀ t f b k p₁₁ in
      let p₁₃ = c.step_on-s13.ensures.by_index ws s₀ t f b k p₁₂ in
      let p₁₄ = c.step_on-s14.ensures.by_index ws s₀ t f b k p₁₃ in
      let p₁₅ = c.step_on-s15.ensures.by_index ws s₀ t f b k p₁₄ in
      let p₁₆ = c.step_on-s16.ensures.by_index ws s₀ t f b k p₁₅ in
      reached-turn v256 ws s₀ _ _ t p₁₆;
}

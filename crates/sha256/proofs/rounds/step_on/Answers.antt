-- `sha256::rounds::step_on` meets its contract: one round more, and one word. Assumes nothing.
use Rattle.std.proofs.Common.{arith}
use Rattle.digest_sha2.proofs.Window.{window-word}
use Rattle.sha256.proofs.rounds.step_on.Goals as goal

pub returns : goal.returns
returns c =
    let a = c.args in
    let h = c.requires.i_bound in record {
      w_len_2 = c.renew.ensures.w_len_2;
      by_index = λ ws s₀ t f b k p.
          record {
            state = c.step-r.ensures ws s₀ t k (window-word ws a.w.now t a.i h p.words) p.state;
            words = c.renew.ensures.by_index ws t f (omega arith) p.words;
          };
    }

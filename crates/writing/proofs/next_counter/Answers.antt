-- `writing::next_counter` meets its contract: reachable or not, as the number of reachable items says. Assumes nothing.
use Rattle.std.proofs.Common.{ℕ, ◌+◌, ap, ◌∙◌, le-ltb, lt-ltb}
use Rattle.words.specs.Numbers.{bytes_of}
use Rattle.sizes.specs.Sizes.{counter_len}
use Rattle.writing.proofs.Heads.{bytes_of-rest}
use Rattle.writing.proofs.next_counter.Goals as goal

pub returns-then-n-k : goal.returns-then-n-k
returns-then-n-k c = rw (c.requires.1.1 ∙ le-ltb _ _ c.if-n-k.true)

pub returns : goal.returns
returns c =
    rw (c.requires.1.1 ∙ lt-ltb _ _ c.if-n-k.false)
    (bytes_of-rest 8 _ ∙ ap (λ (n : ℕ). bytes_of counter_len (n + 1)) c.counter.ensures)

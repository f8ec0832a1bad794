-- `sha256::schedule::renew` meets its contract: the word goes to the place of one that is needed no more. Assumes nothing.
use Rattle.std.proofs.Common.{length-set, rules}
use Rattle.digest_sha2.proofs.Window.{window-renew}
use Rattle.sha256.proofs.schedule.renew.Goals as goal

pub returns : goal.returns
returns c =
    let a = c.args in
    let p = c.requires in record { w_len_2 = simp length-set (search rules); by_index = λ ws t f h q. window-renew ws a.w.now t a.i c.next.result p.w_len p.i_bound q (c.next.ensures ws t f h q) }

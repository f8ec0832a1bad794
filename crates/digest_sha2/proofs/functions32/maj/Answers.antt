-- `digest_sha2::functions32::maj` meets its contract: it is a choice. Assumes nothing.
use Rattle.std.proofs.Common.{◌∙◌, rules}
use Rattle.digest_sha2.proofs.Choose.{majority-is}
use Rattle.digest_sha2.proofs.functions32.maj.Goals as goal

pub returns : goal.returns
returns c =
    let a = c.args in
    c.ch.ensures ∙ majority-is 32 a.x a.y a.z (search rules) (search rules) (search rules)

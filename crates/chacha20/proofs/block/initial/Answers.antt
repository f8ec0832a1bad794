-- `chacha20::block::initial` meets its contract: word by word. Assumes nothing.
use Rattle.chacha20.proofs.Blocks.{initial-is}
use Rattle.chacha20.proofs.block.initial.Goals as goal

pub returns : goal.returns
returns c =
    let a = c.args in
    initial-is a.key.now a.nonce.now c.get32.ensures c.get32-2.ensures c.get32-3.ensures c.get32-4.ensures c.get32-5.ensures c.get32-6.ensures c.get32-7.ensures c.get32-8.ensures c.get32-9.ensures c.get32-10.ensures c.get32-11.ensures

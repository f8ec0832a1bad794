-- `sha256::Hasher::absorb` meets its contract: its three parts are the part, and each is taken in. Assumes nothing.
use Rattle.std.proofs.Common.{rules}
use Rattle.sha256.proofs.Held.{grown-all, grown-split}
use Rattle.sha256.proofs.stream.Hasher.absorb.Goals as goal

pub returns-then-is_empty : goal.returns-then-is_empty
returns-then-is_empty c =
    let s = c.split_at in
    grown-all c.args.self c.little.new.self c.args.part.now s.result.0.now s.result.1.now c.head.result s.ensures.front s.ensures.back c.little.ensures (search rules)

pub returns : goal.returns
returns c =
    let s = c.split_at in
    let e = c.split_at-2 in
    grown-split c.args.self c.little.new.self c.args.part.now s.result.0.now s.result.1.now c.head.result s.ensures.front s.ensures.back c.little.ensures c.little-2.new.self
    (grown-split c.little.new.self c.whole.new.self s.result.1.now e.result.0.now e.result.1.now _ e.ensures.front e.ensures.back c.whole.ensures c.little-2.new.self c.little-2.ensures)

use Rattle.std.proofs.Common.{arith}
use Rattle.weave.proofs.Walks.{nothing_left}
use Rattle.weave.proofs.shown.Shown.stop.Goals as goal

pub returns-clause-over : goal.returns-clause-over
returns-clause-over g c =
    let s = c.args.self.now in
    let few = (g.S.LineSource.lawful s.source.now).0 in
    nothing_left (g.S.LineSource.lines s.source.now) s.set c.clear.new.self 4001 (omega arith) c.clear.ensures.none

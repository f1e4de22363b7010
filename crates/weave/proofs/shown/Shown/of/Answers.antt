use Rattle.std.proofs.Common.{arith}
use Rattle.weave.proofs.Walks.{from_head}
use Rattle.weave.proofs.shown.Shown.of.Goals as goal

pub returns : goal.returns
returns g c =
    from_head (g.S.LineSource.lines c.args.source.now) c.args.set c.args.marks c.args.head c.count.result _ c.count.ensures (omega arith) c.requires

use Rattle.std.proofs.Common.{ap, arith}
use Rattle.lines.specs.Lines.{total}
use Rattle.whole.proofs.WholeLaws.{total-most}
use Rattle.whole.proofs.measure.total_bytes.Goals as goal

pub overflow_add-bytes : goal.overflow_add-bytes
overflow_add-bytes g c =
    omega (arith, ap total c.in-Some.ensures, c.loop-line.invariant, total-most (g.S.LineSource.lines c.args.source.now) (g.S.LineSource.lawful c.args.source.now))

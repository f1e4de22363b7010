use Rattle.head.specs.Tables.{entries}
use Rattle.head.proofs.Turns.{left, Sofar}
use Rattle.head.proofs.reading.read_head.Given as goal

abbrev pub invariant-loop-records : goal.invariant-loop-records
invariant-loop-records g l = Sofar (g.S.LineSource.lines l.source) l.records (entries l.table)

abbrev pub decreases-loop-records : goal.decreases-loop-records
decreases-loop-records g l = left (entries l.table)

use Rattle.std.proofs.Common.{◌≡◌, ◌+◌, length}
use Rattle.lines.specs.Lines.{total}
use Rattle.whole.proofs.measure.total_bytes.Given as goal

-- the bytes so far and those of the lines to come are all
abbrev pub invariant-loop-line : goal.invariant-loop-line
invariant-loop-line g l =
    l.bytes + total l.lines ≡ total (g.S.LineSource.lines l.source)

abbrev pub decreases-loop-line : goal.decreases-loop-line
decreases-loop-line g l = length l.lines

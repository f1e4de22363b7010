use Rattle.std.proofs.Common.{◌≡◌, ◌+◌, ◌%◌, ◌<◌, drop, length}
use Rattle.checksum.specs.Sum.{weight, sum_of}
use Rattle.checksum.proofs.sum.sum_after.Given as goal

-- the sum so far and the lines to come make the whole sum
abbrev pub invariant-loop-line : goal.invariant-loop-line
invariant-loop-line g l =
    record {
      whole : (l.total + weight l.lines) % 65536 ≡ sum_of (drop l.skipped (g.S.LineSource.lines l.source));
      small : l.total < 65536;
    }

abbrev pub decreases-loop-line : goal.decreases-loop-line
decreases-loop-line g l = length l.lines

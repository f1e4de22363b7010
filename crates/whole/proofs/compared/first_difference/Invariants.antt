use Rattle.std.proofs.Common.{◌≡◌, ◌+◌, ◌≤◌, length}
use Rattle.whole.specs.Whole.{differ_from, first_difference}
use Rattle.whole.proofs.compared.first_difference.Given as goal

-- n is the number of the next line, and the lines before it are alike
abbrev pub invariant-loop-x : goal.invariant-loop-x
invariant-loop-x g l =
    record {
      alike : differ_from l.n l.left l.right ≡ first_difference (g.A.LineSource.lines l.a) (g.B.LineSource.lines l.b);
      few : l.n + length l.left ≤ 4001;
    }

abbrev pub decreases-loop-x : goal.decreases-loop-x
decreases-loop-x g l = length l.left

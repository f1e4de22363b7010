use Rattle.std.proofs.Common.{length}
use Rattle.conformance_sfiles.proofs.cases.run_cases.Given as goal

abbrev pub decreases-loop-line : goal.decreases-loop-line
decreases-loop-line l = length l.rest

use Rattle.std.proofs.Common.{◌≡◌, ◌+◌, ◌≤◌, length}
use Rattle.blocks.specs.Packed.{stops}
use Rattle.blocks.proofs.packed.stop_of.Given as goal

abbrev pub invariant-loop-line : goal.invariant-loop-line
invariant-loop-line l = (l.start ≡ stops l.sheet l._line) × (l.start ≤ length l.sheet + l._line) × (l._line ≤ l.start)

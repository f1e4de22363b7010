use Rattle.std.proofs.Common.{◌≡◌, ◌≤◌, take}
use Rattle.blocks.specs.Indexed.{ends_in}
use Rattle.blocks.proofs.indexed.end_of.Given as goal

abbrev pub invariant-loop-entry : goal.invariant-loop-entry
invariant-loop-entry l = (l.start ≡ ends_in (take l.entry-index l.entries) l.room) × (l.start ≤ l.room)

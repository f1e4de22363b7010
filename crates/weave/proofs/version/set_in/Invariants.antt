use Rattle.std.proofs.Common.{◌≡◌, ℕ, ◌<◌, ◌||◌, length}
use Rattle.weave.specs.Versions.{marks, members, set_of}
use Rattle.sets.specs.Serials.{serials}
use Rattle.weave.specs.Tables.{listed, deltas}
use Rattle.weave.proofs.version.set_in.Given as goal

abbrev pub invariant-entries : goal.invariant-entries
invariant-entries l =
    record {
      few : length l.rest < 64;
      same : (k : ℕ) → set_of (deltas l.initial.rest) l.initial.reached (listed l.initial.marked) k
          ≡ (serials l.set k || members (deltas l.rest) l.reached (marks (listed l.marked)) k);
    }

abbrev pub decreases-entries : goal.decreases-entries
decreases-entries l = length l.rest

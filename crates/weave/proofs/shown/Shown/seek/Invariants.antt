use Rattle.std.proofs.Common.{◌≡◌, ◌-◌}
use Rattle.weave.specs.Coming.{to_come}
use Rattle.weave.proofs.shown.Shown.seek.Given as goal

abbrev pub invariant-records : goal.invariant-records
invariant-records g l =
    to_come (g.S.LineSource.lines l.self.source.now) l.self.set l.self.marks l.self.place
    ≡ to_come (g.S.LineSource.lines l.initial.self.source.now) l.initial.self.set l.initial.self.marks l.initial.self.place

abbrev pub decreases-records : goal.decreases-records
decreases-records g l = 4001 - l.self.place

use Rattle.std.proofs.Common.{◌≡◌, ◌+◌, ◌*◌, ◌≤◌, length}
use Rattle.sets.specs.Serials.{serials}
use Rattle.weave.specs.Coming.{to_come}
use Rattle.weave.specs.Handing.{body_refusal, measure_of, shown_of}
use Rattle.lines.specs.Faults.{verdict}
use Rattle.weave.proofs.Walks.{tally, weight}
use Rattle.weave.proofs.walk.walk.Given as goal

abbrev pub invariant-loop-line : goal.invariant-loop-line
invariant-loop-line g l =
    let items = to_come (g.S.LineSource.lines l.shown.source.now) l.shown.set l.shown.marks l.shown.place in
    record {
      same : tally l.measure.lines l.measure.bytes items ≡ verdict (body_refusal l.top l.head (g.S.LineSource.lines l.source)) (measure_of (shown_of l.top (serials l.fn.set) l.head (g.S.LineSource.lines l.source)));
      few : l.measure.lines + length items ≤ 4001;
      small : l.measure.bytes + weight items ≤ 241 * 4000;
    }

abbrev pub decreases-loop-line : goal.decreases-loop-line
decreases-loop-line g l = length (to_come (g.S.LineSource.lines l.shown.source.now) l.shown.set l.shown.marks l.shown.place)

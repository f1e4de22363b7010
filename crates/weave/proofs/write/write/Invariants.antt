use Rattle.std.proofs.Common.{◌≡◌, true, length}
use Rattle.whole.specs.Whole.{text_of}
use Rattle.sets.specs.Serials.{serials}
use Rattle.weave.specs.Coming.{to_come}
use Rattle.weave.specs.Handing.{shown_of}
use Rattle.weave.proofs.Walks.{sound, lines_of}
use Rattle.weave.proofs.Writes.{Written}
use Rattle.weave.proofs.write.write.Given as goal

abbrev pub invariant-loop-line : goal.invariant-loop-line
invariant-loop-line g l =
    let items = to_come (g.S.LineSource.lines l.shown.source.now) l.shown.set l.shown.marks l.shown.place in
    record {
      clean : sound items ≡ true;
      done : Written (text_of (shown_of l.top (serials l.fn.set) l.head (g.S.LineSource.lines l.source))) l.initial.out l.out l.at (lines_of items);
    }

abbrev pub decreases-loop-line : goal.decreases-loop-line
decreases-loop-line g l = length (to_come (g.S.LineSource.lines l.shown.source.now) l.shown.set l.shown.marks l.shown.place)

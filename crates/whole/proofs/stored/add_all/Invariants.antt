use Rattle.std.proofs.Common.{◌≡◌, ◌++◌, length}
use Rattle.lines.specs.Lines.{draft_lines}
use Rattle.lines.specs.Stores.{drafting}
use Rattle.whole.proofs.stored.add_all.Given as goal

-- the draft has the lines so far, and nothing else changed
abbrev pub invariant-loop-line : goal.invariant-loop-line
invariant-loop-line g l =
    let d = draft_lines (g.D.LineStore.store l.store).draft in
    record {
      split : d ++ l.lines ≡ g.S.LineSource.lines l.source;
      store : g.D.LineStore.store l.store ≡ drafting d (g.D.LineStore.store l.initial.store);
    }

abbrev pub decreases-loop-line : goal.decreases-loop-line
decreases-loop-line g l = length l.lines

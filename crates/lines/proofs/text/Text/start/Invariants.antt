use Rattle.std.proofs.Common.{◌≡◌, ◌≤◌, length}
use Rattle.lines.specs.Rows.{lines_in, start_of}
use Rattle.lines.proofs.text.Text.start.Given as goal

abbrev pub invariant-loop : goal.invariant-loop
invariant-loop l =
    record {
      here : l.at ≡ start_of (lines_in l.self.bytes.now) l.counter;
      within : l.at ≤ length l.self.bytes.now;
    }

use Rattle.std.proofs.Common.{◌≡◌, ◌+◌, ◌≤◌, ◌++◌, length, take, drop}
use Rattle.whole.specs.Whole.{text_of}
use Rattle.whole.proofs.written.write_text.Given as goal

-- the front of the buffer and the text of the lines to come are the whole text
abbrev pub invariant-loop-line : goal.invariant-loop-line
invariant-loop-line g l =
    record {
      front : take l.at l.buf ++ text_of l.lines ≡ text_of (g.S.LineSource.lines l.source);
      kept : drop l.at l.buf ≡ drop l.at l.initial.buf;
      room : l.at + length (text_of l.lines) ≤ length l.buf;
    }

abbrev pub decreases-loop-line : goal.decreases-loop-line
decreases-loop-line g l = length l.lines

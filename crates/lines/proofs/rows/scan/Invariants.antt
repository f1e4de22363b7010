use Rattle.std.proofs.Common.{◌≡◌, ◌+◌, ◌≤◌, length}
use Rattle.std.specs.Slice.Iter.{split_inclusive_rest}
use Rattle.lines.specs.Rows.{rows, first_wrong, wrong_row}
use Rattle.lines.proofs.rows.scan.Given as goal

-- no row was wrong so far, and the rest has the other rows
abbrev pub invariant-loop-row : goal.invariant-loop-row
invariant-loop-row l =
    let rest = rows (split_inclusive_rest l.row-iterator) in
    record {
      sofar : first_wrong (l.count + 1) rest ≡ wrong_row l.bytes;
      counted : l.count + length rest ≡ length (rows l.bytes);
      few : l.count ≤ 4000;
    }

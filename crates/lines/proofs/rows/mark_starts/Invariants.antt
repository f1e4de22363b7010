use Rattle.std.proofs.Common.{◌≡◌, ℕ, ◌+◌, ◌*◌, ◌<◌, length, drop, get_or}
use Rattle.std.specs.Iterator.Adapters.{enumerate_source, enumerate_count}
use Rattle.std.specs.Slice.Iter.{split_inclusive_rest}
use Rattle.lines.specs.Rows.{rows, lines_in, start_of}
use Rattle.lines.proofs.rows.mark_starts.Given as goal

-- so many rows are passed, and the next one, if there is one, begins at `at`
abbrev pub invariant-loop-i : goal.invariant-loop-i
invariant-loop-i l =
    let passed = enumerate_count l.i-iterator in
    let rest = split_inclusive_rest (enumerate_source l.i-iterator) in
    record {
      long : length l.starts ≡ 63;
      rest_is : rest ≡ drop l.at l.bytes;
      left : passed + length (rows rest) ≡ length (rows l.bytes);
      here : 0 < length rest → l.at ≡ start_of (lines_in l.bytes) (passed + 1);
      marked : (k : ℕ) → 64 * k < passed → get_or l.starts k 0 ≡ start_of (lines_in l.bytes) (64 * k + 1);
    }

-- The records of a body by what they mean, and what each line of a body is. Assumes nothing.
--
-- Mark             insertion n or deletion n, the marks ^I and ^D of the serial n
-- serial m         the serial of the mark m
-- Record           opens m: the mark m is opened; ends n: the mark of serial n is closed; text l: the line l of text;
--                  wrong: a record that begins with the byte 1 and is none of these
-- control k o      what the letter k makes of the serial in o: I (73), D (68) and E (69)
-- after_one top l  what stands after the byte 1: a letter, a blank (32) and a serial from 1 to `top`
-- record_of top l  the record that the line l is, where `top` is the greatest serial
-- body top ls      the records of the lines ls
use Rattle.std.specs.Prelude.{ℕ, cond, List, [], ◌∷◌, map, Some, None, Option, ◌==◌}
use Rattle.lines.specs.Lines.{Line}
use Rattle.records.specs.Numerals.{serial_up_to}

pub data Mark : Type 0 where
  insertion : ℕ → Mark
  deletion : ℕ → Mark

abbrev pub serial : Mark → ℕ
serial (insertion n) = n
serial (deletion n) = n

pub data Record : Type 0 where
  opens : Mark → Record
  ends : ℕ → Record
  text : Line → Record
  wrong : Record

abbrev pub control : ℕ → Option ℕ → Record
control k None = wrong
control k (Some n) =
    cond (k == 73) (opens (insertion n)) (cond (k == 68) (opens (deletion n)) (cond (k == 69) (ends n) wrong))

abbrev pub after_one : ℕ → Line → Record
after_one top [] = wrong
after_one top (k ∷ []) = wrong
after_one top (k ∷ (b ∷ word)) = cond (b == 32) (control k (serial_up_to top word)) wrong

abbrev pub record_of : ℕ → Line → Record
record_of top [] = text []
record_of top (b ∷ bs) = cond (b == 1) (after_one top bs) (text (b ∷ bs))

abbrev pub body : ℕ → List Line → List Record
body top ls = map (record_of top) ls

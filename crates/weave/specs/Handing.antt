-- The body of an archive: its breach, and the table that a set shows of it. Assumes nothing.
--
-- The body stands after `head` lines of the list ls; `top` is the greatest serial.
--
-- seen s ms r               the line that a set shows of the record r, with the marks ms open before it
-- breach_refusal b          13 at the place of the breach b
-- body_refusal top head ls  the same for the body
-- shown_of top s head ls    the lines that a set shows of the body
-- measure_of ls             how many lines there are, and how many bytes with their LFs
-- chosen_set c              the set that was chosen; none where the choice was refused
-- choice_refusal c          why the choice was refused
-- hand_refusal ..           the refusal of handing out the table of the set that was chosen, into `space` bytes: a breach of
--                           the body comes first, then a refused choice, then a buffer that is too small
use Rattle.std.specs.Prelude.{ℕ, ◌+◌, cond, List, [], length, drop, Some, None, Ok, Err, Option, Result}
use Rattle.lines.specs.declared.fault.Fault.{Fault}
use Rattle.lines.specs.declared.fault.Cause.TheVariants.{BodyRule}
use Rattle.lines.specs.Faults.{Refusal, placed, first_refusal}
use Rattle.lines.specs.Lines.{Line}
use Rattle.whole.specs.Whole.{text_of, text_refusal}
use Rattle.sets.specs.Bits.{Serials, no_serials}
use Rattle.sets.specs.Serials.{serials}
use Rattle.sets.specs.declared.set.SerialSet.{SerialSet}
use Rattle.records.specs.BodyRecords.{Mark, Record, opens, ends, text, wrong, body}
use Rattle.weave.specs.Marks.{visible, shown}
use Rattle.weave.specs.Rules.{breach}
use Rattle.weave.specs.declared.measure.Measure.{Measure}

abbrev pub seen : Serials → List Mark → Record → Option Line
seen s ms (opens m) = None
seen s ms (ends n) = None
seen s ms (text l) = cond (visible s ms) (Some l) None
seen s ms wrong = None

abbrev pub breach_refusal : Option ℕ → Refusal
breach_refusal None = None
breach_refusal (Some p) = Some (placed BodyRule p)

abbrev pub body_refusal : ℕ → ℕ → List Line → Refusal
body_refusal top head ls = breach_refusal (breach top [] (head + 1) (body top (drop head ls)))

abbrev pub shown_of : ℕ → Serials → ℕ → List Line → List Line
shown_of top s head ls = shown s [] (body top (drop head ls))

abbrev pub measure_of : List Line → Measure
measure_of ls = record { lines = length ls; bytes = length (text_of ls) }

abbrev pub chosen_set : Result SerialSet Fault → Serials
chosen_set (Ok s) = serials s
chosen_set (Err f) = no_serials

abbrev pub choice_refusal : Result SerialSet Fault → Refusal
choice_refusal (Ok s) = None
choice_refusal (Err f) = Some f

abbrev pub hand_refusal : ℕ → ℕ → List Line → Result SerialSet Fault → ℕ → Refusal
hand_refusal top head ls c space =
    first_refusal (body_refusal top head ls) (first_refusal (choice_refusal c) (text_refusal (shown_of top (chosen_set c) head ls) space))

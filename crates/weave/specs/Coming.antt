-- What is handed on of a body, one item after another: the lines that a set shows, as long as no rule is broken; then, if
-- one is, the refusal of the breach. Assumes nothing.
--
-- Item                   a line that is shown, or the refusal of a breach
-- lent r                 what is handed on of a line in lent room: its bytes
-- in_room r n            the same where the line stands at the front of the room r, by its length
-- breach_at p            the refusal of a breach at place p
-- and_then o is          the items `is`, after the line o if there is one
-- coming s top ms p rs   the items of the records rs, with the marks ms open before them; the first record stands at place p
-- to_come ls set marks p the items of the lines ls from place p on, counted from 1

use Rattle.std.specs.Prelude.{ℕ, ◌+◌, ◌-◌, cond, List, [], ◌∷◌, take, drop, Some, None, Ok, Err, Option, Result}
use Rattle.std.specs.Borrow.{Bor}
use Rattle.std.specs.Result.{result_map_both}
use Rattle.lines.specs.declared.fault.Fault.{Fault}
use Rattle.lines.specs.declared.fault.Cause.TheVariants.{BodyRule}
use Rattle.lines.specs.Faults.{placed}
use Rattle.lines.specs.Lines.{Line}
use Rattle.sets.specs.Bits.{Serials}
use Rattle.sets.specs.Serials.{serials}
use Rattle.sets.specs.declared.set.SerialSet.{SerialSet}
use Rattle.records.specs.BodyRecords.{Mark, Record, body}
use Rattle.weave.specs.Handing.{seen}
use Rattle.weave.specs.Marks.{then_open}
use Rattle.weave.specs.Open.{open_marks}
use Rattle.weave.specs.Rules.{empty, allowed}
use Rattle.weave.specs.declared.marks.OpenMarks.{OpenMarks}

abbrev pub Item : Type 0
Item = Result Line Fault

abbrev pub lent : Result (Bor Line) Fault → Item
lent r = result_map_both (λ x. x.now) (λ f. f) r

abbrev pub in_room : List ℕ → Result ℕ Fault → Item
in_room r n = result_map_both (λ len. take len r) (λ f. f) n

abbrev pub breach_at : ℕ → Item
breach_at p = Err (placed BodyRule p)

abbrev pub and_then : Option Line → List Item → List Item
and_then None is = is
and_then (Some l) is = Ok l ∷ is

unfoldable pub coming : Serials → ℕ → List Mark → ℕ → List Record → List Item
coming s top ms p [] = cond (empty ms) [] (breach_at p ∷ [])
coming s top ms p (r ∷ rs) = cond (allowed top ms r) (and_then (seen s ms r) (coming s top (then_open ms r) (p + 1) rs)) (breach_at p ∷ [])

abbrev pub to_come : List Line → SerialSet → OpenMarks → ℕ → List Item
to_come ls set marks p = coming (serials set) marks.top (open_marks marks.queue) p (body marks.top (drop (p - 1) ls))

-- What the calls that read an archive answer, over the health and the lines of its source. Assumes nothing.
--
-- head_of h ls      the head of the lines ls of a source with health h: its entries, newest first, and how many records
--                   it has; or 10, or the head's fault
-- val_answer o ls   what `val` answers for the head o: the number of deltas; or the head's refusal, or 13
-- get_refusal ..    why `get` refuses a request with a buffer of `space` bytes: the head's refusal, 13, 14, 15, 20
-- get_lines o ls r  the lines that `get` hands out
use Rattle.std.specs.Prelude.{ℕ, cond, List, [], length, Some, Ok, Err, Result, ◌==◌}
use Rattle.lines.specs.declared.fault.Fault.{Fault}
use Rattle.lines.specs.declared.fault.Cause.TheVariants.{NotWhole}
use Rattle.lines.specs.Faults.{Refusal, layered, first_refusal, verdict}
use Rattle.lines.specs.Lines.{Line}
use Rattle.whole.specs.Whole.{text_refusal}
use Rattle.head.specs.Heads.{Outcome, head}
use Rattle.weave.specs.Handing.{body_refusal, shown_of}
use Rattle.archive.specs.declared.request.Request.{Request}
use Rattle.archive.specs.Requests.{request_refusal, request_set}

abbrev pub head_of : ℕ → List Line → Outcome
head_of h ls = cond (h == 0) (head ls) (Err (layered NotWhole h))

abbrev pub val_answer : Outcome → List Line → Result ℕ Fault
val_answer (Err f) ls = Err f
val_answer (Ok (es, n)) ls = verdict (body_refusal (length es) n ls) (length es)

abbrev pub get_lines : Outcome → List Line → Request → List Line
get_lines (Err f) ls r = []
get_lines (Ok (es, n)) ls r = shown_of (length es) (request_set es r) n ls

abbrev pub get_refusal : Outcome → List Line → Request → ℕ → Refusal
get_refusal (Err f) ls r space = Some f
get_refusal (Ok (es, n)) ls r space =
    first_refusal (body_refusal (length es) n ls) (first_refusal (request_refusal es r) (text_refusal (get_lines (Ok (es, n)) ls r) space))

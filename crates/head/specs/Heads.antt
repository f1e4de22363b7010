-- The head of an s-file: which record may come, what it must hold, and what follows it. Assumes nothing.
--
-- includes_mark, excludes_mark  ^i and ^x, each with the blank after it
-- end_mark, last_marks          ^e, which ends an entry; ^u, ^U, ^t and ^T, which end the head
-- opened d                      the entry that the delta record d opens, with no lists yet
-- including m e                 the entry e with the includes m
-- excluding m e                 the entry e with the excludes m
-- last_serial es                the serial of the last of the entries es, if there is one
-- follows b n                   the serial n may follow that in b: the first is 1 to 63, each other one less than that before it
-- in_order es n                 the serial n may follow the entries es
-- precedes p n                  the predecessor p is lower than its serial n, and 0 only for serial 1
-- same_sid a b                  the SIDs are equal, part by part
-- has_sid es s                  the SID s is that of an entry already read
-- sound es d                    the content of the delta record d is good after the entries es
-- Turn                          what the next record is to be: counts, delta, lists e (^i, or what may stand in its place), excludes e,
--                               comment e, close e (the end of the entry e), last ms (the marks ms are still to come)
-- Step                          what a record does: fault c, next es t (the entries es are read, and t comes next), whole es (the head ends)
-- formal b s                    a record of which only the form is judged: s where it is good
-- with_set r f                  a record with a list: its set leads on, or its cause stops
-- after_entry n                 after the entry of serial n comes the next one, and after that of serial 1 the last marks
-- on_x ..                       what a record does at the turn X
-- judge es t l                  what the record l does at the turn t, after the entries es
-- Outcome                       what a head is read as: its entries and the number of its records, or a fault
-- proceed s p f                 the outcome of the step s of the record at place p, where f says what the next ones come to
-- walk p es t ls                the records ls from place p on; where they end early, the fault is one of form after the last
-- head ls                       the head of the records ls
use Rattle.std.specs.Prelude.{ℕ, ◌+◌, ◌-◌, Bool, cond, not, ◌&&◌, ◌||◌, List, [], ◌∷◌, ◌++◌, length, Some, None, Ok, Err, Option, Result, ◌==◌, nat_le, nat_lt, slice_get}
use Rattle.std.specs.List.{list_any}
use Rattle.std.specs.Option.{option_map}
use Rattle.std.specs.Str.{bytes_eq}
use Rattle.lines.specs.declared.fault.Cause.{Cause}
use Rattle.lines.specs.declared.fault.Cause.TheVariants.{HeadForm, HeadContent}
use Rattle.lines.specs.declared.fault.Fault.{Fault}
use Rattle.lines.specs.Faults.{placed}
use Rattle.lines.specs.Lines.{Line}
use Rattle.sets.specs.declared.set.SerialSet.{SerialSet}
use Rattle.sets.specs.Serials.{unlisted}
use Rattle.records.specs.declared.sid.Sid.{Sid}
use Rattle.records.specs.declared.delta_record.DeltaRecord.{DeltaRecord}
use Rattle.records.specs.HeadRecords.{after, counts_record, comment_record}
use Rattle.records.specs.DeltaRecords.{delta_record}
use Rattle.records.specs.SerialLists.{serial_list}
use Rattle.head.specs.declared.table.Entry.{Entry}

abbrev pub includes_mark : Line
includes_mark = 1 ∷ 105 ∷ 32 ∷ []

abbrev pub excludes_mark : Line
excludes_mark = 1 ∷ 120 ∷ 32 ∷ []

abbrev pub end_mark : Line
end_mark = 1 ∷ 101 ∷ []

abbrev pub last_marks : List Line
last_marks = (1 ∷ 117 ∷ []) ∷ (1 ∷ 85 ∷ []) ∷ (1 ∷ 116 ∷ []) ∷ (1 ∷ 84 ∷ []) ∷ []

abbrev pub opened : DeltaRecord → Entry
opened d =
    record { sid = d.sid; serial = d.serial; predecessor = d.predecessor; lists = record { includes = unlisted; excludes = unlisted } }

abbrev pub including : SerialSet → Entry → Entry
including m e =
    record { sid = e.sid; serial = e.serial; predecessor = e.predecessor; lists = record { includes = m; excludes = e.lists.excludes } }

abbrev pub excluding : SerialSet → Entry → Entry
excluding m e =
    record { sid = e.sid; serial = e.serial; predecessor = e.predecessor; lists = record { includes = e.lists.includes; excludes = m } }

abbrev pub last_serial : List Entry → Option ℕ
last_serial es = option_map (λ e. e.serial) (slice_get es (length es - 1))

abbrev pub follows : Option ℕ → ℕ → Bool
follows None n = nat_le 1 n && nat_le n 63
follows (Some b) n = n + 1 == b

abbrev pub in_order : List Entry → ℕ → Bool
in_order es n = follows (last_serial es) n

abbrev pub precedes : ℕ → ℕ → Bool
precedes p n = nat_lt p n && (n == 1 || nat_lt 0 p)

abbrev pub same_sid : Sid → Sid → Bool
same_sid a b =
    (a.release == b.release) && (a.level == b.level && (a.branch == b.branch && a.sequence == b.sequence))

abbrev pub has_sid : List Entry → Sid → Bool
has_sid es s = list_any (λ e. same_sid e.sid s) es

abbrev pub sound : List Entry → DeltaRecord → Bool
sound es d =
    d.real && (in_order es d.serial && (precedes d.predecessor d.serial && not (has_sid es d.sid)))

pub data Turn : Type 0 where
  counts : Turn
  delta : Turn
  lists : Entry → Turn
  excludes : Entry → Turn
  comment : Entry → Turn
  close : Entry → Turn
  last : List Line → Turn

pub data Step : Type 0 where
  fault : Cause → Step
  next : List Entry → Turn → Step
  whole : List Entry → Step

abbrev pub formal : Bool → Step → Step
formal b s = cond b s (fault HeadForm)

abbrev pub with_set : Result SerialSet Cause → (SerialSet → Step) → Step
with_set (Ok m) f = f m
with_set (Err c) f = fault c

abbrev pub after_entry : ℕ → Turn
after_entry serial = cond (serial == 1) (last last_marks) counts

abbrev pub on_delta : List Entry → Option DeltaRecord → Step
on_delta es None = fault HeadForm
on_delta es (Some d) = cond (sound es d) (next es (lists (opened d))) (fault HeadContent)

abbrev pub on_comment : List Entry → Entry → Line → Step
on_comment es e l = formal (comment_record l) (next es (close e))

abbrev pub on_excludes : List Entry → Entry → Line → Option Line → Step
on_excludes es e l None = on_comment es e l
on_excludes es e l (Some rest) =
    with_set (serial_list e.serial e.lists.includes rest) (λ m. next es (comment (excluding m e)))

abbrev pub on_includes : List Entry → Entry → Line → Option Line → Step
on_includes es e l None = on_excludes es e l (after excludes_mark l)
on_includes es e l (Some rest) =
    with_set (serial_list e.serial unlisted rest) (λ m. next es (excludes (including m e)))

abbrev pub on_last : List Entry → List Line → Step
on_last es [] = whole es
on_last es (m ∷ ms) = next es (last (m ∷ ms))

abbrev pub judge : List Entry → Turn → Line → Step
judge es counts l = formal (counts_record l) (next es delta)
judge es delta l = on_delta es (delta_record l)
judge es (lists e) l = on_includes es e l (after includes_mark l)
judge es (excludes e) l = on_excludes es e l (after excludes_mark l)
judge es (comment e) l = on_comment es e l
judge es (close e) l = formal (bytes_eq l end_mark) (next (es ++ e ∷ []) (after_entry e.serial))
judge es (last []) l = whole es
judge es (last (m ∷ ms)) l = formal (bytes_eq l m) (on_last es ms)

abbrev pub Outcome : Type 0
Outcome = Result (List Entry × ℕ) Fault

abbrev pub proceed : Step → ℕ → (List Entry → Turn → Outcome) → Outcome
proceed (fault c) p f = Err (placed c p)
proceed (next es t) p f = f es t
proceed (whole es) p f = Ok (es, p)

abbrev pub walk : ℕ → List Entry → Turn → List Line → Outcome
walk p es t [] = Err (placed HeadForm p)
walk p es t (l ∷ ls) = proceed (judge es t l) p (λ es t. walk (p + 1) es t ls)

abbrev pub head : List Line → Outcome
head ls = walk 1 [] counts ls

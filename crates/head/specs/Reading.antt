-- What the reader of a head's records answers. Assumes nothing.
--
-- Ahead                   the place of the next record, and the records from it on
-- rest a es t             what the records ahead come to at the turn t, after the entries es
-- here a                  the next record; a fault of form where there is none
-- taken r a               a value that was read, with the records that are ahead after it; or the fault
-- take_as f a             the next record as f reads it, and what is ahead after it; a fault of form where f reads nothing
-- demand f a              the same of a record of which only the form f is judged
-- Takes R a r b           r is what a reader of the relation R makes of the next record of a, and b is ahead after it
-- set_at a r              the set in r, with what is ahead after the next record; or the fault at it
-- list_in own other a o   the same of the list in o; the empty set, and nothing passed, where there is none
-- list_at mark own other a   the set of the next record as a list record; the empty set, and nothing passed, where another
--                         record stands
-- turn_after b            what comes after an entry of the serial in b
-- Fills a d e r b         the records of an entry from a on, after its delta record d: e is filled, and b is ahead; or r is the fault
-- Adds a es r b fs        the records of an entry from a on: fs is es with that entry, and b is ahead; or r is the fault
-- Ends a r b              the last marks: the head ends with the record before b; or r is the fault
use Rattle.std.specs.Prelude.{◌≡◌, ℕ, ◌+◌, ◌-◌, Bool, true, List, [], ◌∷◌, ◌++◌, Some, None, Ok, Err, Option, Result}
use Rattle.std.specs.Bool.{then_some}
use Rattle.std.specs.Option.{ok_or, option_map}
use Rattle.lines.specs.declared.fault.Cause.{Cause}
use Rattle.lines.specs.declared.fault.Cause.TheVariants.{HeadForm}
use Rattle.lines.specs.declared.fault.Fault.{Fault}
use Rattle.lines.specs.Faults.{placed}
use Rattle.lines.specs.Lines.{Line}
use Rattle.sets.specs.declared.set.SerialSet.{SerialSet}
use Rattle.sets.specs.Serials.{unlisted}
use Rattle.records.specs.declared.delta_record.DeltaRecord.{DeltaRecord}
use Rattle.records.specs.HeadRecords.{after}
use Rattle.records.specs.SerialLists.{serial_list}
use Rattle.head.specs.declared.table.Entry.{Entry}
use Rattle.head.specs.Heads.{Turn, counts, lists, last, last_marks, after_entry, opened, in_order, Outcome, walk}

abbrev pub Ahead : Type 0
Ahead = ℕ × List Line

abbrev pub rest : Ahead → List Entry → Turn → Outcome
rest a es t = walk a.0 es t a.1

abbrev pub here : Ahead → Result Line Fault
here (p, []) = Err (placed HeadForm p)
here (p, l ∷ ls) = Ok l

abbrev pub taken : {A : Type 0} → Result A Fault → Ahead → Result (A × Ahead) Fault
taken (Ok x) a = Ok (x, a)
taken (Err f) a = Err f

abbrev pub take_as : {A : Type 0} → (Line → Option A) → Ahead → Result (A × Ahead) Fault
take_as f (p, []) = Err (placed HeadForm p)
take_as f (p, l ∷ ls) = ok_or (option_map (λ x. (x, (p + 1, ls))) (f l)) (placed HeadForm p)

abbrev pub demand : (Line → Bool) → Ahead → Result (Unit × Ahead) Fault
demand f a = take_as (λ l. then_some (f l) tt) a

abbrev pub Takes : {A : Type 0} → (Line → Option A → Type 0) → Ahead → Result A Fault → Ahead → Type 0
Takes R (p, []) r b = r ≡ Err (placed HeadForm p)
Takes R (p, l ∷ ls) r b = (o : Option _) × R l o × (taken r b ≡ ok_or (option_map (λ x. (x, (p + 1, ls))) o) (placed HeadForm p))

abbrev pub set_at : Ahead → Result SerialSet Cause → Result (SerialSet × Ahead) Fault
set_at (p, []) r = Err (placed HeadForm p)
set_at (p, l ∷ ls) (Ok m) = Ok (m, (p + 1, ls))
set_at (p, l ∷ ls) (Err c) = Err (placed c p)

abbrev pub list_in : ℕ → SerialSet → Ahead → Option Line → Result (SerialSet × Ahead) Fault
list_in own other a None = Ok (unlisted, a)
list_in own other a (Some r) = set_at a (serial_list own other r)

abbrev pub list_at : Line → ℕ → SerialSet → Ahead → Result (SerialSet × Ahead) Fault
list_at mark own other (p, []) = Err (placed HeadForm p)
list_at mark own other (p, l ∷ ls) = list_in own other (p, l ∷ ls) (after mark l)

abbrev pub turn_after : Option ℕ → Turn
turn_after None = counts
turn_after (Some b) = after_entry b

abbrev pub Fills : Ahead → DeltaRecord → Entry → Result Unit Fault → Ahead → Type 0
Fills a d e (Ok u) b = (e.serial ≡ d.serial) × ((es : List Entry) → rest a es (lists (opened d)) ≡ rest b (es ++ e ∷ []) (after_entry d.serial))
Fills a d e (Err f) b = (es : List Entry) → rest a es (lists (opened d)) ≡ Err f

abbrev pub Adds : Ahead → List Entry → Result Unit Fault → Ahead → List Entry → Type 0
Adds a es (Ok u) b fs =
    (e : Entry) × (fs ≡ es ++ e ∷ []) × (in_order es e.serial ≡ true) × (rest a es counts ≡ rest b fs (after_entry e.serial))
Adds a es (Err f) b fs = rest a es counts ≡ Err f

abbrev pub Ends : Ahead → Result Unit Fault → Ahead → Type 0
Ends a (Ok u) b = (es : List Entry) → rest a es (last last_marks) ≡ Ok (es, b.0 - 1)
Ends a (Err f) b = (es : List Entry) → rest a es (last last_marks) ≡ Err f

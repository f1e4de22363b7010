-- What a table of deltas holds. Assumes nothing.
--
-- entries t       the entries of the table t, newest first
-- serial_of es s  the serial of the entry of the SID s
-- loaded r        what the reader of a head answers, as an outcome
use Rattle.std.specs.Prelude.{ℕ, List, take, Ok, Err, Option, Result}
use Rattle.std.specs.List.{find}
use Rattle.std.specs.Option.{option_map}
use Rattle.lines.specs.declared.fault.Fault.{Fault}
use Rattle.records.specs.declared.sid.Sid.{Sid}
use Rattle.head.specs.declared.reading.Head.{Head}
use Rattle.head.specs.declared.table.Entry.{Entry}
use Rattle.head.specs.declared.table.Table.{Table}
use Rattle.head.specs.Heads.{Outcome, same_sid}

abbrev pub entries : Table → List Entry
entries t = take t.count t.entries

abbrev pub serial_of : List Entry → Sid → Option ℕ
serial_of es s = option_map (λ e. e.serial) (find (λ e. same_sid e.sid s) es)

abbrev pub loaded : Result Head Fault → Outcome
loaded (Ok h) = Ok (entries h.table, h.records)
loaded (Err f) = Err f

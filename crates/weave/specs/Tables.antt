-- The table of a head as the set of a version asks for it. Assumes nothing.
--
-- lists i x   the includes i and the excludes x
-- listed l    the same of a pair of lists
-- delta_of e  what a set asks of an entry
-- deltas es   the same of a table's entries, newest first
use Rattle.std.specs.Prelude.{List, map}
use Rattle.sets.specs.Serials.{serials}
use Rattle.sets.specs.declared.set.SerialSet.{SerialSet}
use Rattle.sets.specs.declared.listed.Lists as sets
use Rattle.head.specs.declared.table.Entry.{Entry}
use Rattle.weave.specs.Versions.{Lists, Delta}

abbrev pub lists : SerialSet → SerialSet → Lists
lists includes excludes = record { includes = serials includes; excludes = serials excludes }

abbrev pub listed : sets.Lists → Lists
listed l = lists l.includes l.excludes

abbrev pub delta_of : Entry → Delta
delta_of e = record { predecessor = e.predecessor; lists = listed e.lists }

abbrev pub deltas : List Entry → List Delta
deltas es = map delta_of es

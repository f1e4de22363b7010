-- The set of a version: which deltas make up its table. Assumes nothing.
--
-- Lists           two sets of serials: the includes and the excludes of a delta, or of a call
-- no_lists        no serial in either
-- Delta           what a set asks of a delta: its predecessor and its lists. A table has them newest first, so the
--                 first one's serial is their number
-- Marked          which serials are marked, in (true) or out (false)
-- marks l         the marks that lists make
-- or_else a b     the mark a, or b where a is none
-- marked_or a b   a serial with the mark a is in or out as marked, and as b where it has none
-- members ds v m  from the newest serial down, with the marks m: a serial without a mark is in if it is v, the version
--                 or what was reached from it by predecessors; one that is in marks those of its lists that have no mark
-- set_of ds v l   the set for the version v with a call's lists
use Rattle.std.specs.Prelude.{ℕ, ◌+◌, Bool, true, false, cond, List, [], ◌∷◌, length, Some, None, Option, ◌==◌}
use Rattle.sets.specs.Bits.{Serials, no_serials}

pub record Lists : Type 0 where
  pub includes : Serials
  pub excludes : Serials

abbrev pub no_lists : Lists
no_lists = record { includes = no_serials; excludes = no_serials }

pub record Delta : Type 0 where
  pub predecessor : ℕ
  pub lists : Lists

abbrev pub Marked : Type 0
Marked = ℕ → Option Bool

abbrev pub marks : Lists → Marked
marks l k = cond (l.excludes k) (Some false) (cond (l.includes k) (Some true) None)

abbrev pub or_else : Option Bool → Option Bool → Option Bool
or_else (Some b) o = Some b
or_else None o = o

abbrev pub marked_or : Option Bool → Bool → Bool
marked_or (Some b) _ = b
marked_or None b = b

unfoldable pub members : List Delta → ℕ → Marked → Serials
members [] v m k = false
members (d ∷ ds) v m k =
    let n = length ds + 1 in
    let is_in = marked_or (m n) (v == n) in
    let m' = λ (j : ℕ). cond is_in (or_else (m j) (marks d.lists j)) (m j) in
    cond (k == n) is_in (members ds (cond (v == n) d.predecessor v) m' k)

abbrev pub set_of : List Delta → ℕ → Lists → Serials
set_of ds v l = members ds v (marks l)

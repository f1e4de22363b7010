-- The marks that are open at a record of a body, and what a set of serials shows. Assumes nothing.
--
-- with_mark m ms          the open marks ms, which lie by rising serial, with one more
-- closed n ms             the open marks without that of serial n
-- then_open ms r          the marks that are open after the record r
-- inserter ms             the greatest open insertion, 0 where there is none
-- deleted_above s low ms  the set s has an open deletion above `low`
-- visible s ms            a set shows a line exactly when it has the line's inserter and none of its deleters
-- shown s ms rs           the lines that a set shows of the records rs, with the marks ms open before them
use Rattle.std.specs.Prelude.{ℕ, max, Bool, false, cond, not, ◌&&◌, ◌||◌, List, [], ◌∷◌, ◌==◌, nat_lt}
use Rattle.lines.specs.Lines.{Line}
use Rattle.sets.specs.Bits.{Serials}
use Rattle.records.specs.BodyRecords.{Mark, insertion, deletion, serial, Record, opens, ends, text, wrong}

unfoldable pub with_mark : Mark → List Mark → List Mark
with_mark m [] = m ∷ []
with_mark m (k ∷ ks) = cond (nat_lt (serial k) (serial m)) (k ∷ with_mark m ks) (m ∷ (k ∷ ks))

unfoldable pub closed : ℕ → List Mark → List Mark
closed n [] = []
closed n (m ∷ ms) = cond (serial m == n) ms (m ∷ closed n ms)

abbrev pub then_open : List Mark → Record → List Mark
then_open ms (opens m) = with_mark m ms
then_open ms (ends n) = closed n ms
then_open ms (text l) = ms
then_open ms wrong = ms

unfoldable pub inserter : List Mark → ℕ
inserter [] = 0
inserter (insertion n ∷ ms) = max n (inserter ms)
inserter (deletion n ∷ ms) = inserter ms

unfoldable pub deleted_above : Serials → ℕ → List Mark → Bool
deleted_above s low [] = false
deleted_above s low (insertion n ∷ ms) = deleted_above s low ms
deleted_above s low (deletion n ∷ ms) = (nat_lt low n && s n) || deleted_above s low ms

unfoldable pub visible : Serials → List Mark → Bool
visible s ms = s (inserter ms) && not (deleted_above s (inserter ms) ms)

unfoldable pub shown : Serials → List Mark → List Record → List Line
shown s ms [] = []
shown s ms (opens m ∷ rs) = shown s (with_mark m ms) rs
shown s ms (ends n ∷ rs) = shown s (closed n ms) rs
shown s ms (text l ∷ rs) = cond (visible s ms) (l ∷ shown s ms rs) (shown s ms rs)
shown s ms (wrong ∷ rs) = shown s ms rs

-- The rules of a body for the serials 1 to `top`, and the place of the first breach. Assumes nothing.
--
-- empty xs            the list has nothing
-- is_open n ms        the serial n is open, as an insertion or as a deletion
-- is_deleting n ms    the serial n is open as a deletion
-- may_open top n ms   a mark opens where its serial is at most `top`, is not open and is above every open insertion
-- may_close n ms      a deletion closes wherever it is open, an insertion only as the greatest open one
-- allowed top ms r    the rule of each kind of record; text needs an open insertion
-- breach top ms p rs  the place of the first record that breaks a rule, with p for the first record's place; where a
--                     mark is left open, the place after the last record
-- Valid top rs        a body that breaks no rule
use Rattle.std.specs.Prelude.{◌≡◌, ℕ, ◌+◌, Bool, true, false, cond, not, ◌&&◌, ◌||◌, List, [], ◌∷◌, Some, None, Option, ◌==◌, nat_le, nat_lt}
use Rattle.records.specs.BodyRecords.{Mark, insertion, deletion, serial, Record, opens, ends, text, wrong}
use Rattle.weave.specs.Marks.{then_open, inserter}

abbrev pub empty : {A : Type 0} → List A → Bool
empty [] = true
empty (x ∷ xs) = false

unfoldable pub is_open : ℕ → List Mark → Bool
is_open n [] = false
is_open n (m ∷ ms) = serial m == n || is_open n ms

unfoldable pub is_deleting : ℕ → List Mark → Bool
is_deleting n [] = false
is_deleting n (insertion k ∷ ms) = is_deleting n ms
is_deleting n (deletion k ∷ ms) = k == n || is_deleting n ms

unfoldable pub may_open : ℕ → ℕ → List Mark → Bool
may_open top n ms = nat_le n top && (not (is_open n ms) && nat_lt (inserter ms) n)

unfoldable pub may_close : ℕ → List Mark → Bool
may_close n ms = is_deleting n ms || (is_open n ms && n == inserter ms)

abbrev pub allowed : ℕ → List Mark → Record → Bool
allowed top ms (opens m) = may_open top (serial m) ms
allowed top ms (ends n) = may_close n ms
allowed top ms (text l) = nat_lt 0 (inserter ms)
allowed top ms wrong = false

unfoldable pub breach : ℕ → List Mark → ℕ → List Record → Option ℕ
breach top ms p [] = cond (empty ms) None (Some p)
breach top ms p (r ∷ rs) = cond (allowed top ms r) (breach top (then_open ms r) (p + 1) rs) (Some p)

abbrev pub Valid : ℕ → List Record → Type 0
Valid top rs = breach top [] 1 rs ≡ None

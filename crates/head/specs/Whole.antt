-- What holds of the entries of every head that is read. Assumes nothing.
--
-- Runs a es b  the serials of es run from a down by one, and the next would be b
-- Below n m    the serials of the set m are lower than n
-- Disjoint e   no serial is in both lists of the entry e
-- Lower e      the predecessor is lower than the serial, and 0 only for serial 1; listed serials are lower, and none is
--              in both lists
-- Differ es    no SID stands twice
-- Whole es     1 to 63 entries with serials from their number down to 1, each Lower, and no SID twice
use Rattle.std.specs.Prelude.{◌≡◌, ℕ, ◌-◌, ◌<◌, ◌≤◌, true, false, List, [], ◌∷◌, length}
use Rattle.std.specs.List.{AllByRecursion}
use Rattle.sets.specs.declared.set.SerialSet.{SerialSet}
use Rattle.sets.specs.Serials.{serials}
use Rattle.head.specs.declared.table.Entry.{Entry}
use Rattle.head.specs.Heads.{same_sid}

abbrev pub Runs : ℕ → List Entry → ℕ → Type 0
Runs a [] b = a ≡ b
Runs a (e ∷ es) b = (e.serial ≡ a) × (1 ≤ a) × Runs (a - 1) es b

abbrev pub Below : ℕ → SerialSet → Type 0
Below n m = (k : ℕ) → serials m k ≡ true → k < n

abbrev pub Disjoint : Entry → Type 0
Disjoint e = (k : ℕ) → serials e.lists.excludes k ≡ true → serials e.lists.includes k ≡ false

abbrev pub Lower : Entry → Type 0
Lower e =
    (e.predecessor < e.serial) × (e.predecessor ≡ 0 → e.serial ≡ 1) × Below e.serial e.lists.includes × Below e.serial e.lists.excludes × Disjoint e

abbrev pub Differ : List Entry → Type 0
Differ [] = Unit {0}
Differ (e ∷ es) = AllByRecursion (λ f. same_sid e.sid f.sid ≡ false) es × Differ es

pub record Whole (es : List Entry) : Type 0 where
  pub some : 1 ≤ length es
  pub few : length es ≤ 63
  pub runs : Runs (length es) es 0
  pub lower : AllByRecursion Lower es
  pub differ : Differ es

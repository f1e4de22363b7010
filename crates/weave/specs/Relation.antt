-- The set of a version as a relation: what has to hold of a set, and not how it is found. Assumes nothing.
--
-- HasDelta ds n d      the table ds, newest first, has the delta d with the serial n
-- Reached ds v k       k is v, or is reached from v by predecessors
-- MarkedBy ds s k n b  the delta n is in the set s, is above k, and has k in its includes (b is true) or excludes
-- Stands ds v m s k b  how it is decided whether k is in the set s (b), with the marks m of the call:
--   called                    the call marks it
--   listed                    the call does not; the greatest delta in the set that marks it does
--   reached, unreached        nobody marks it: it is in exactly if it is reached from v
-- IsSetOf ds v l s     s decides so of each serial of the table, and has no other serial
-- Descends ds          each predecessor is lower than its serial
-- TheOnlySet           in a table that descends, set_of is such a set, and there is no other
use Rattle.std.specs.Prelude.{◌≡◌, ℕ, ◌+◌, ◌<◌, ◌≤◌, Bool, true, false, List, ◌∷◌, length, Some, None}
use Rattle.sets.specs.Bits.{Serials}
use Rattle.weave.specs.Versions.{Lists, Delta, Marked, marks, set_of}

pub data HasDelta : List Delta → ℕ → Delta → Type 0 where
  newest : {d : Delta} {ds : List Delta} → HasDelta (d ∷ ds) (length ds + 1) d
  older : {d e : Delta} {ds : List Delta} {n : ℕ} → HasDelta ds n d → HasDelta (e ∷ ds) n d

pub data Reached (ds : List Delta) (v : ℕ) : ℕ → Type 0 where
  itself : Reached ds v v
  onward : {n : ℕ} {d : Delta} → Reached ds v n → HasDelta ds n d → Reached ds v d.predecessor

pub record MarkedBy (ds : List Delta) (s : Serials) (k n : ℕ) (b : Bool) : Type 0 where
  pub delta : Delta
  pub there : HasDelta ds n delta
  pub is_in : s n ≡ true
  pub above : k < n
  pub lists : marks delta.lists k ≡ Some b

pub data Stands (ds : List Delta) (v : ℕ) (m : Marked) (s : Serials) (k : ℕ) : Bool → Type 0 where
  called : {b : Bool} → m k ≡ Some b → Stands ds v m s k b
  listed : {b : Bool} → m k ≡ None → (n : ℕ) → MarkedBy ds s k n b → ((j : ℕ) (c : Bool) → MarkedBy ds s k j c → j ≤ n) → Stands ds v m s k b
  reached : m k ≡ None → ((j : ℕ) (c : Bool) → MarkedBy ds s k j c → ⊥) → Reached ds v k → Stands ds v m s k true
  unreached : m k ≡ None → ((j : ℕ) (c : Bool) → MarkedBy ds s k j c → ⊥) → (Reached ds v k → ⊥) → Stands ds v m s k false

pub record IsSetOf (ds : List Delta) (v : ℕ) (m : Marked) (s : Serials) : Type 0 where
  pub stands : (k : ℕ) → 1 ≤ k → k ≤ length ds → Stands ds v m s k (s k)
  pub zero_out : s 0 ≡ false
  pub beyond_out : (k : ℕ) → length ds < k → s k ≡ false

abbrev pub Descends : List Delta → Type 0
Descends ds = (n : ℕ) (d : Delta) → HasDelta ds n d → d.predecessor < n

abbrev pub TheOnlySet : Type 0
TheOnlySet =
    (ds : List Delta) (v : ℕ) (l : Lists) → Descends ds
    → IsSetOf ds v (marks l) (set_of ds v l) × ((s : Serials) → IsSetOf ds v (marks l) s → (k : ℕ) → s k ≡ set_of ds v l k)

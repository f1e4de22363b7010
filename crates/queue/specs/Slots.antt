-- Lists of slots by their keys. Assumes nothing of their order.
--
-- keys ss         the keys of the slots, in their order
-- Rising ks       the numbers rise, so no two are equal
-- StandsAt k ss i  the slot at place i has the key k
-- FitsAt k ss i    no slot has the key k, and one would go in at place i: the keys before i are below k, the others above
-- under k ss      the element of the first slot with the key k
-- with_slot s ss  the slots with s put in before the first whose key is not below that of s
-- without k ss    the slots without the first of the key k
-- holds k ss      a slot has the key k
use Rattle.std.specs.Prelude.{◌≡◌, ℕ, ◌<◌, ◌≤◌, Bool, true, false, cond, List, [], ◌∷◌, map, length, Some, None, Option, ◌==◌, nat_lt, slice_index}
use Rattle.queue.specs.declared.slots.Slot.{Slot}

abbrev pub keys : {E : Type 0} → List (Slot E) → List ℕ
keys ss = map (λ s. s.key) ss

abbrev pub Rising : List ℕ → Type 0
Rising ks = (i j : ℕ) → i < j → j < length ks → slice_index ks i < slice_index ks j

abbrev pub StandsAt : {E : Type 0} → ℕ → List (Slot E) → ℕ → Type 0
StandsAt k ss i = (i < length ss) × (slice_index (keys ss) i ≡ k)

pub record FitsAt {E : Type 0} (k : ℕ) (ss : List (Slot E)) (i : ℕ) : Type 0 where
  pub within : i ≤ length ss
  pub before : (j : ℕ) → j < i → slice_index (keys ss) j < k
  pub after : (j : ℕ) → i ≤ j → j < length ss → k < slice_index (keys ss) j

abbrev pub under : {E : Type 0} → ℕ → List (Slot E) → Option E
under k [] = None
under k (s ∷ ss) = cond (s.key == k) (Some s.element) (under k ss)

abbrev pub with_slot : {E : Type 0} → Slot E → List (Slot E) → List (Slot E)
with_slot s [] = s ∷ []
with_slot s (t ∷ ts) = cond (nat_lt t.key s.key) (t ∷ with_slot s ts) (s ∷ (t ∷ ts))

abbrev pub without : {E : Type 0} → ℕ → List (Slot E) → List (Slot E)
without k [] = []
without k (t ∷ ts) = cond (t.key == k) ts (t ∷ without k ts)

abbrev pub holds : {E : Type 0} → ℕ → List (Slot E) → Bool
holds k [] = false
holds k (s ∷ ss) = cond (s.key == k) true (holds k ss)

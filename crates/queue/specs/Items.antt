-- What a queue holds, and what a storing answers and leaves. Assumes nothing.
--
-- items q        the slots in use, by rising key
-- room q         how many slots were lent
-- answer n k ss  what a storing under the key k answers, with ss in use of n slots: a held key is said before a want of room
-- after n s ss   the slots in use after the storing of s: as they were where it is refused
use Rattle.std.specs.Prelude.{ℕ, cond, List, length, take, Ok, Err, Result, ◌==◌}
use Rattle.queue.specs.Slots.{holds, with_slot}
use Rattle.queue.specs.declared.slots.Slot.{Slot}
use Rattle.queue.specs.declared.held.Queue.{Queue}
use Rattle.queue.specs.declared.held.Unstored.{Unstored}
use Rattle.queue.specs.declared.held.Unstored.TheVariants.{Duplicate, Full}

abbrev pub items : {E : Type 0} → Queue E → List (Slot E)
items q = take q.len q.slots.now

abbrev pub room : {E : Type 0} → Queue E → ℕ
room q = length q.slots.now

abbrev pub answer : {E : Type 0} → ℕ → ℕ → List (Slot E) → Result (Unit {0}) Unstored
answer n k ss = cond (holds k ss) (Err Duplicate) (cond (length ss == n) (Err Full) (Ok tt))

abbrev pub after : {E : Type 0} → ℕ → Slot E → List (Slot E) → List (Slot E)
after n s ss = cond (holds s.key ss) ss (cond (length ss == n) ss (with_slot s ss))

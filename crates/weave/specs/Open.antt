-- The marks that a queue holds. Assumes nothing.
--
-- number m        the serial of a mark
-- is_insertion m  the mark is an insertion
-- is_deletion m   the mark is a deletion
-- kind m n        a mark of this kind with the serial n
-- mark_of s       the mark in a slot: the slot's key is its serial, and the element says its kind
-- open_marks q    the marks in a queue, by rising serial
-- Bounded top ms  the serials are from 1 to `top`
use Rattle.std.specs.Prelude.{ℕ, ◌≤◌, Bool, true, false, List, map, All}
use Rattle.records.specs.BodyRecords as body
use Rattle.queue.specs.declared.slots.Slot.{Slot}
use Rattle.queue.specs.declared.held.Queue.{Queue}
use Rattle.queue.specs.Items.{items}
use Rattle.weave.specs.declared.mark.Mark.{Mark}
use Rattle.weave.specs.declared.mark.Mark.TheVariants.{Insert, Delete}

abbrev pub number : Mark → ℕ
number (Insert n) = n
number (Delete n) = n

abbrev pub is_insertion : Mark → Bool
is_insertion (Insert _) = true
is_insertion (Delete _) = false

abbrev pub is_deletion : Mark → Bool
is_deletion (Insert _) = false
is_deletion (Delete _) = true

abbrev pub kind : Mark → ℕ → body.Mark
kind (Insert _) n = body.insertion n
kind (Delete _) n = body.deletion n

abbrev pub mark_of : Slot Mark → body.Mark
mark_of s = kind s.element s.key

abbrev pub open_marks : Queue Mark → List body.Mark
open_marks q = map mark_of (items q)

abbrev pub Bounded : ℕ → List body.Mark → Type 0
Bounded top ms = All (λ m. (1 ≤ body.serial m) × (body.serial m ≤ top)) ms

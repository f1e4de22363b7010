use Rattle.std.proofs.Common.{◌≡◌, ℕ, ◌+◌, ◌-◌, false, List, length, length-set, sym, ap, ◌∙◌, arith}
use Rattle.std.proofs.lemmas.Bool.{cond-true, cond-false, eq-eqb, ne_eqb}
use Rattle.std.proofs.lemmas.List.{take-set, length-take-le}
use Rattle.std.proofs.lemmas.List.Edits.{length-insert}
use Rattle.queue.specs.Items.{items, room}
use Rattle.queue.specs.Slots.{FitsAt, holds, with_slot}
use Rattle.queue.specs.declared.slots.Slot.{Slot}
use Rattle.queue.proofs.Placed.{free, with_slot_at, rises_with}
use Rattle.queue.proofs.Turns.{fits_from_front, turned_in}
use Rattle.queue.proofs.held.Queue.insert.Goals as goal

absent_as : {E : Type 0} (k n : ℕ) (ss : List (Slot E)) (at : ℕ) → k ≡ n → FitsAt k ss at → holds n ss ≡ false
absent_as k n ss at same fits = ap (λ j. holds j ss) (sym same) ∙ (free k ss at fits).holds

pub returns-then-self-clause-answer : goal.returns-then-self-clause-answer
returns-then-self-clause-answer g c =
    let q = c.args.self.now in
    let n = length-take-le q.len q.slots.now q.fits in
    let absent = absent_as c.key-key.result (g.E.Keyed.number c.args.element) (items q) c.in-Err.at c.key-key.ensures c.in-Err.ensures in
    sym (cond-false _ _ _ absent ∙ cond-true _ _ _ (eq-eqb (length (items q)) (room q) (omega arith)))

pub invariant_of-self : goal.invariant_of-self
invariant_of-self g c =
    let q = c.args.self.now in
    record { fits = rw length-set q.fits; rising = rw take-set q.rising }

pub invariant_of-self-2 : goal.invariant_of-self-2
invariant_of-self-2 g c =
    let q = c.args.self.now in
    let fits : FitsAt c.key-key.result (items q) c.in-Err.at = c.in-Err.ensures in
    let n = length-take-le q.len q.slots.now q.fits in
    let s : Slot g.row.E.Denot = record { key = c.key-key.result; element = c.args.element } in
    let put = turned_in q.slots.now q.len c.in-Err.at (q.len + 1 - c.in-Err.at) s c.rotate_right.new.self (omega (arith, fits.within)) (omega arith) (omega arith) c.rotate_right.ensures.after in
    record { fits = fits_from_front _ _ (q.len + 1) put (omega (arith, length-insert (items q) c.in-Err.at s fits.within)); rising = rw put (rises_with s (items q) c.in-Err.at q.rising fits) }

pub returns-clause-answer : goal.returns-clause-answer
returns-clause-answer g c =
    let q = c.args.self.now in
    let n = length-take-le q.len q.slots.now q.fits in
    let absent = absent_as c.key-key.result (g.E.Keyed.number c.args.element) (items q) c.in-Err.at c.key-key.ensures c.in-Err.ensures in
    sym (cond-false _ _ _ absent ∙ cond-false _ _ _ (ne_eqb (length (items q)) (room q) (λ f. omega arith)))

pub returns-clause-after : goal.returns-clause-after
returns-clause-after g c =
    let q = c.args.self.now in
    let fits : FitsAt c.key-key.result (items q) c.in-Err.at = c.in-Err.ensures in
    let n = length-take-le q.len q.slots.now q.fits in
    let s : ℕ → Slot g.row.E.Denot = λ k. record { key = k; element = c.args.element } in
    let put = turned_in q.slots.now q.len c.in-Err.at (q.len + 1 - c.in-Err.at) (s c.key-key.result) c.rotate_right.new.self (omega (arith, fits.within)) (omega arith) (omega arith) c.rotate_right.ensures.after in
    let absent = absent_as c.key-key.result (g.E.Keyed.number c.args.element) (items q) c.in-Err.at c.key-key.ensures c.in-Err.ensures in
    put ∙ sym (with_slot_at (s c.key-key.result) (items q) c.in-Err.at fits) ∙ ap (λ k. with_slot (s k) (items q)) c.key-key.ensures
    ∙ sym (cond-false _ _ _ absent ∙ cond-false _ _ _ (ne_eqb (length (items q)) (room q) (λ f. omega arith)))

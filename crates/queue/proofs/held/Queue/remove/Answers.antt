use Rattle.std.proofs.Common.{◌+◌, ◌-◌, sym, ◌∙◌, arith}
use Rattle.queue.specs.Items.{items}
use Rattle.queue.proofs.Placed.{stands, gap_fits, free, read_at, without_at, rises_front, rises_without}
use Rattle.std.proofs.lemmas.List.{get_or-take, length-take-le}
use Rattle.std.proofs.lemmas.List.Edits.{length-remove}
use Rattle.queue.proofs.Turns.{fits_from_front, turned_out}
use Rattle.queue.proofs.held.Queue.remove.Goals as goal

pub returns-in_err-at-clause-answer : goal.returns-in_err-at-clause-answer
returns-in_err-at-clause-answer g c =
    let gap = gap_fits c.args.key (items c.args.self.now) _ c.search.ensures c.in_err-at.ensures.value in
    c.from_residual.ensures ∙ sym (free c.args.key (items c.args.self.now) gap.0 gap.1).under

pub returns-in_err-at-clause-after : goal.returns-in_err-at-clause-after
returns-in_err-at-clause-after g c =
    let gap = gap_fits c.args.key (items c.args.self.now) _ c.search.ensures c.in_err-at.ensures.value in
    sym (free c.args.key (items c.args.self.now) gap.0 gap.1).without

pub invariant_of-self : goal.invariant_of-self
invariant_of-self g c =
    let q = c.args.self.now in
    record { fits = omega (arith, q.fits); rising = rises_front q.slots.now (q.len - 1) q.len (omega arith) q.rising }

pub invariant_of-self-2 : goal.invariant_of-self-2
invariant_of-self-2 g c =
    let q = c.args.self.now in
    let at = stands c.args.key (items q) _ c.search.ensures c.in_ok-at.ensures.value in
    let n = length-take-le q.len q.slots.now q.fits in
    let left = turned_out q.slots.now q.len c.in_ok-at.at (q.len - 1 + 1 - c.in_ok-at.at) c.rotate_left.new.self (omega (arith, at.0)) q.fits (omega (arith, at.0)) c.rotate_left.ensures.after in
    record { fits = fits_from_front _ _ (q.len - 1) left (omega (arith, at.0, length-remove (items q) c.in_ok-at.at at.0)); rising = rw left (rises_without (items q) c.in_ok-at.at at.0 q.rising) }

pub returns-clause-answer : goal.returns-clause-answer
returns-clause-answer g c =
    let q = c.args.self.now in
    let at = stands c.args.key (items q) _ c.search.ensures c.in_ok-at.ensures.value in
    let n = length-take-le q.len q.slots.now q.fits in
    read_at c.args.key q.slots.now (items q) c.in_ok-at.at _ q.rising at (λ d. sym (get_or-take q.len q.slots.now c.in_ok-at.at d (omega (arith, at.0))))

pub returns-clause-after : goal.returns-clause-after
returns-clause-after g c =
    let q = c.args.self.now in
    let at = stands c.args.key (items q) _ c.search.ensures c.in_ok-at.ensures.value in
    let n = length-take-le q.len q.slots.now q.fits in
    turned_out q.slots.now q.len c.in_ok-at.at (q.len - 1 + 1 - c.in_ok-at.at) c.rotate_left.new.self (omega (arith, at.0)) q.fits (omega (arith, at.0)) c.rotate_left.ensures.after
    ∙ sym (without_at c.args.key (items q) c.in_ok-at.at q.rising at)

use Rattle.std.proofs.Common.{sym, ap, ◌∙◌, subst, arith}
use Rattle.queue.specs.Items.{items}
use Rattle.weave.specs.Open.{open_marks, Bounded}
use Rattle.weave.proofs.Held.{marks, without_is, bounded_closed}
use Rattle.weave.proofs.marks.OpenMarks.follow.Goals as goal

pub invariant_of-self : goal.invariant_of-self
invariant_of-self c =
    let m = c.args.self.now in
    let n = c.in-Some-End.n in
    let is = ap marks (rw c.from.ensures at c.remove.ensures.after) ∙ without_is n (items m.queue) in
    record { bounded = subst (Bounded m.top) (sym is) (bounded_closed m.top n (open_marks m.queue) m.bounded); fits = omega (arith, c.remove.ensures.room, m.fits) }

use Rattle.std.proofs.Common.{get_or, sym, ap, ◌∙◌}
use Rattle.queue.specs.Items.{items}
use Rattle.queue.proofs.Placed.{stands, gap_fits, free, read_at}
use Rattle.queue.proofs.held.Queue.get.Goals as goal

pub returns-in_err-at : goal.returns-in_err-at
returns-in_err-at g c =
    let gap = gap_fits c.args.key (items c.args.self.now) _ c.search.ensures c.in_err-at.ensures.value in
    c.from_residual.ensures ∙ sym (free c.args.key (items c.args.self.now) gap.0 gap.1).under

pub returns : goal.returns
returns g c =
    let q = c.args.self.now in
    let at = stands c.args.key (items q) _ c.search.ensures c.in_ok-at.ensures.value in
    read_at c.args.key c.items.result.now (items q) c.in_ok-at.at _ q.rising at (λ d. ap (λ ss. get_or ss c.in_ok-at.at d) c.items.ensures)

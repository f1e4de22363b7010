use Rattle.std.proofs.Common.{ltb, ◌∙◌, rules}
use borrow.Author.Tests.{tests}
use Rattle.std.proofs.lemmas.Iterator.Adapters.{YieldsList-from_rev_slice}
use Rattle.std.proofs.lemmas.Iterator.Search.{any_from_yields_List, YieldsList-from_take_while}
use Rattle.queue.specs.Items.{items}
use Rattle.queue.specs.declared.slots.Slot.{Slot}
use Rattle.queue.proofs.Orders.{rises}
use Rattle.sets.specs.Serials.{serials}
use Rattle.weave.specs.declared.mark.Mark.{Mark}
use Rattle.weave.proofs.Held.{hides, hidden_above}
use Rattle.weave.proofs.marks.OpenMarks.is_deleted_above.Goals as goal

pub returns : goal.returns
returns c =
    let q = c.args.self.now.queue in
    let has = serials c.args.set in
    let low = c.args.low in
    any_from_yields_List (hides has low) _ _ c.any.result c.any.ensures.ran
    (YieldsList-from_take_while _ (λ (s : Slot Mark). ltb low s.key) (YieldsList-from_rev_slice (items q) cc) c.take_while-above.ensures.closure c.take_while-above.ensures.done (λ x b f k. search (rules, tests)))
    (λ x b f k. search (rules, tests)) ∙ hidden_above has low (items q) (rises q)

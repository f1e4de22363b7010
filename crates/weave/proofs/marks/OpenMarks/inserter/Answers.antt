use Rattle.std.proofs.Common.{ap, ◌∙◌, rules}
use borrow.Author.Tests.{tests}
use Rattle.std.proofs.lemmas.Iterator.Adapters.{YieldsList-from_rev_slice}
use Rattle.std.proofs.lemmas.Iterator.Search.{find_from_yields_List}
use Rattle.queue.specs.Items.{items}
use Rattle.queue.specs.declared.slots.Slot.{Slot}
use Rattle.queue.proofs.Orders.{rises}
use Rattle.weave.specs.Open.{is_insertion}
use Rattle.weave.specs.declared.mark.Mark.{Mark}
use Rattle.weave.proofs.Held.{number_at, number_of_found, greatest}
use Rattle.weave.proofs.marks.OpenMarks.inserter.Goals as goal

pub returns : goal.returns
returns c =
    let q = c.args.self.now.queue in
    let found = find_from_yields_List (λ (s : Slot Mark). is_insertion s.element) _ _ c.find-newest.result c.find-newest.ensures.ran (YieldsList-from_rev_slice (items q) cc) (λ x b f k. search (rules, tests)) in
    number_of_found c.find-newest.result c.map_or.result (search rules) ∙ ap number_at found ∙ greatest (items q) (rises q)

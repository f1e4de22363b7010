use Rattle.std.proofs.Common.{rules}
use Rattle.std.proofs.lemmas.List.Sorted.{answers_always}
use Rattle.queue.specs.Items.{items}
use Rattle.queue.proofs.Placed.{searched}
use Rattle.queue.proofs.held.Queue.search.Goals as goal

-- the closure gives a slot's key, and the slice is what the queue holds
pub returns : goal.returns
returns g c =
    let found = c.binary_search_by_key.ensures in
    let q = c.args.self.now in
    searched c.args.key (items q) q.rising _ (rw c.items.ensures at found.bound) (rw c.items.ensures at (found.position (λ s. s.key) (answers_always _ _ _ (λ f a r g called. search rules))))

use Rattle.archive.proofs.Requests.{lists_are}
use Rattle.archive.proofs.request.Request.lists.Goals as goal

pub returns : goal.returns
returns c = lists_are c.args.self _ _ c.from_mask.ensures c.from_mask-2.ensures

use Rattle.checksum.proofs.ChangeLaws.{change_seen}
use Rattle.checksum.proofs.sum.holds_sum.Goals as goal

pub returns-clause-seen : goal.returns-clause-seen
returns-clause-seen g c = change_seen

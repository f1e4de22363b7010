use Rattle.weave.proofs.OnlySet.{the_only_set}
use Rattle.weave.proofs.laws.the_only_set.Goals as goal

pub returns : goal.returns
returns c = the_only_set

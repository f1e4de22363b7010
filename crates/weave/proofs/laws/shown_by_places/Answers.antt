use Rattle.weave.proofs.Places.{shown_by_places}
use Rattle.weave.proofs.laws.shown_by_places.Goals as goal

pub returns : goal.returns
returns c = shown_by_places

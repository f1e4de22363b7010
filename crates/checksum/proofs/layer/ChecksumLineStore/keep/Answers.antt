use Rattle.std.proofs.Common.{ap, ◌∙◌}
use Rattle.checksum.specs.Layer.{over}
use Rattle.checksum.proofs.LayerLaws.{over_kept}
use Rattle.checksum.proofs.layer.ChecksumLineStore.keep.Goals as goal

pub returns-clause-store : goal.returns-clause-store
returns-clause-store g c = ap over c.keep_below.ensures.store ∙ over_kept (g.S.LineStore.store c.args.self.now.below)

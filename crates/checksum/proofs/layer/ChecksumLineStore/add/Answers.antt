use Rattle.std.proofs.Common.{ap, ◌∙◌}
use Rattle.lines.specs.Lines.{keep_refusal}
use Rattle.lines.specs.Stores.{Store}
use Rattle.lines.proofs.LineLaws.{accepted_ok}
use Rattle.checksum.specs.Layer.{above, over}
use Rattle.checksum.proofs.LayerLaws.{draft_is_open, added_is, over_added}
use Rattle.checksum.proofs.layer.ChecksumLineStore.add.Goals as goal

pub returns-clause-store : goal.returns-clause-store
returns-clause-store g c =
    let s : Store = g.S.LineStore.store c.args.self.now.below in
    let yes = draft_is_open _ (accepted_ok (keep_refusal (above s.draft)) tt _ c.in_ok-need_draft.ensures) in
    ap over (c.add.ensures.store ∙ added_is s yes c.args.line.now) ∙ over_added s yes c.args.line.now

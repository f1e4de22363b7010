use Rattle.std.proofs.Common.{◌≡◌, ap, ◌∙◌}
use Rattle.lines.specs.Faults.{verdict}
use Rattle.lines.specs.Lines.{patch_refusal, keep_refusal}
use Rattle.lines.specs.Stores.{Store, patched}
use Rattle.lines.proofs.LineLaws.{accepted_ok}
use Rattle.checksum.specs.Layer.{above, over, patched_below}
use Rattle.checksum.proofs.LayerLaws.{number_is, draft_is_open, patch_below, patched_is, over_patched}
use Rattle.checksum.proofs.layer.ChecksumLineStore.patch.Goals as goal

pub returns : goal.returns
returns g c =
    let s : Store = g.S.LineStore.store c.args.self.now.below in
    let n = c.args.n in
    let l = c.args.line.now in
    let number = number_is n _ c.in_ok-number_below.ensures in
    let yes = draft_is_open _ (accepted_ok (keep_refusal (above s.draft)) tt _ c.in_ok-need_draft.ensures) in
    let below : g.S.LineStore.store c.patch.new.self ≡ patched_below n l s = c.patch.ensures.store ∙ ap (λ k. patched k l s) number.1 ∙ patched_is s yes n l number.0 in
    record {
      answer = c.patch.ensures.answer ∙ ap (λ k. verdict (patch_refusal s.draft k l) tt) number.1 ∙ ap (λ q. verdict q tt) (patch_below s.draft yes n l number.0);
      store = ap over below ∙ over_patched s yes n l number.0;
      below = below;
    }

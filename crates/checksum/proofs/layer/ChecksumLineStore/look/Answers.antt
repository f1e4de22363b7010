use Rattle.std.proofs.Common.{length, ap, ◌∙◌}
use Rattle.lines.specs.Faults.{verdict, left}
use Rattle.lines.specs.Lines.{draft_lines, line_of, fronted, look_refusal, keep_refusal}
use Rattle.lines.proofs.LineLaws.{accepted_ok}
use Rattle.checksum.specs.Layer.{above}
use Rattle.checksum.proofs.LayerLaws.{number_is, draft_is_open, look_below, look_line}
use Rattle.checksum.proofs.layer.ChecksumLineStore.look.Goals as goal

pub returns : goal.returns
returns g c =
    let D = (g.S.LineStore.store c.args.self.now.below).draft in
    let n = c.args.n in
    let buf = c.args.buf.now in
    let number = number_is n _ c.in_ok-number_below.ensures in
    let yes = draft_is_open _ (accepted_ok (keep_refusal (above D)) tt _ c.in_ok-need_draft.ensures) in
    let same = look_below D yes n (length buf) number.0 in
    let line = look_line D yes n number.0 in
    record {
      answer = c.look.ensures.answer ∙ ap (λ k. verdict (look_refusal D k (length buf)) (length (line_of (draft_lines D) k))) number.1 ∙ (λ i. verdict (same i) (length (line i)));
      bytes = c.look.ensures.bytes ∙ ap (λ k. left (look_refusal D k (length buf)) (fronted (line_of (draft_lines D) k) buf) buf) number.1 ∙ (λ i. left (same i) (fronted (line i) buf) buf);
    }

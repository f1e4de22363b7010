use Rattle.std.proofs.Common.{◌≡◌, length, Ok, Err, ℕ, arith, ap, ◌∙◌}
use Rattle.lines.specs.Faults.{verdict}
use Rattle.lines.specs.Lines.{is_line, keep_refusal}
use Rattle.lines.proofs.LineLaws.{accepted_ok}
use Rattle.checksum.specs.Layer.{above}
use Rattle.checksum.proofs.SumLaws.{marked_line}
use Rattle.checksum.proofs.LayerLaws.{draft_is_open, first_patch}
use Rattle.checksum.proofs.draft.keep_below.Goals as goal

-- a sum's line always takes the place of another
pub returns-in_err-patch : goal.returns-in_err-patch
returns-in_err-patch g c =
    let D = (g.S.LineStore.store c.args.below.now).draft in
    let yes = draft_is_open _ (accepted_ok (keep_refusal (above D)) tt _ c.in_ok-need_draft.ensures) in
    let is = c.sum_line-line.ensures.line in
    let never : Err c.in_err-patch.field-0.0 ≡ Ok tt = c.in_err-patch.ensures.answer ∙ ap (λ q. verdict q tt) (first_patch D yes c.sum_line-line.result (ap is_line is ∙ marked_line c.sum_after.result) (ap length is)) in
    let z : ◌≡◌ {A = ℕ} 0 1 = cc in
    absurd (omega arith)

use Rattle.std.proofs.Common.{◌≡◌, length, Some, None, Ok, Err, sym, ap, ◌∙◌}
use Rattle.std.proofs.lemmas.Result.{err_from_is_err_and}
use Rattle.lines.specs.Faults.{Refusal, verdict}
use Rattle.head.specs.Heads.{Outcome}
use Rattle.head.specs.Tables.{entries}
use Rattle.weave.specs.Handing.{body_refusal}
use Rattle.archive.specs.Reading.{head_of, val_answer}
use Rattle.archive.proofs.Answers.{refused, passed, read_ok}
use Rattle.archive.proofs.reading.val.Goals as goal

pub returns-in_err-check_body : goal.returns-in_err-check_body
returns-in_err-check_body g c =
    let ls = g.S.LineSource.lines c.args.source.now in
    let h = g.S.LineSource.health c.args.source.now in
    let es = entries c.in_ok-head.head.table in
    let n = c.in_ok-head.head.records in
    let p = err_from_is_err_and c.from_residual-in_err-check_body.result c.from_residual-in_err-check_body.ensures.1 in
    let o : head_of h ls ≡ Ok (es, n) = read_ok _ _ _ c.open_head.ensures.value c.in_ok-head.was in
    let few : c.len-count.result ≡ length es = c.len-count.ensures in
    let q : body_refusal c.len-count.result n ls ≡ Some c.in_err-check_body.field-0.0 = refused _ _ _ _ c.check_body.ensures c.in_err-check_body.was in
    p.1 ∙ ap Err p.2 ∙ sym (ap (λ (o : Outcome). val_answer o ls) o ∙ ap (λ (r : Refusal). verdict r (length es)) (ap (λ k. body_refusal k n ls) (sym few) ∙ q))

pub returns : goal.returns
returns g c =
    let ls = g.S.LineSource.lines c.args.source.now in
    let h = g.S.LineSource.health c.args.source.now in
    let es = entries c.in_ok-head.head.table in
    let n = c.in_ok-head.head.records in
    let o : head_of h ls ≡ Ok (es, n) = read_ok _ _ _ c.open_head.ensures.value c.in_ok-head.was in
    let few : c.len-count.result ≡ length es = c.len-count.ensures in
    let q : body_refusal c.len-count.result n ls ≡ None = (passed _ _ _ _ c.check_body.ensures c.in_ok-check_body.was).0 in
    ap Ok few ∙ sym (ap (λ (o : Outcome). val_answer o ls) o ∙ ap (λ (r : Refusal). verdict r (length es)) (ap (λ k. body_refusal k n ls) (sym few) ∙ q))

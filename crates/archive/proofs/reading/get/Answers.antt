use Rattle.std.proofs.Common.{◌≡◌, length, Ok, sym, ap, ◌∙◌}
use Rattle.lines.specs.Faults.{verdict, left}
use Rattle.lines.specs.Lines.{fronted}
use Rattle.whole.specs.Whole.{text_of}
use Rattle.head.specs.Heads.{Outcome}
use Rattle.head.specs.Tables.{entries}
use Rattle.weave.specs.Handing.{shown_of, measure_of, chosen_set, hand_refusal}
use Rattle.archive.specs.Reading.{head_of, get_refusal, get_lines}
use Rattle.archive.proofs.Answers.{read_ok, answer_is, left_is}
use Rattle.archive.proofs.reading.get.Goals as goal

pub returns : goal.returns
returns g c =
    let ls = g.S.LineSource.lines c.args.source.now in
    let h = g.S.LineSource.health c.args.source.now in
    let es = entries c.in_ok-head.head.table in
    let n = c.in_ok-head.head.records in
    let r = c.args.request in
    let out = c.args.out.now in
    let chosen = c.choose-chosen.result in
    let o : head_of h ls ≡ Ok (es, n) = read_ok _ _ _ c.open_head.ensures.value c.in_ok-head.was in
    let few : c.len.result ≡ length es = c.len.ensures in
    record {
      answer =
          c.hand_out.ensures.answer
          ∙ ap (λ k. verdict (hand_refusal k n ls chosen (length out)) (measure_of (shown_of k (chosen_set chosen) n ls))) few
          ∙ answer_is es n ls r (length out) measure_of chosen c.choose-chosen.ensures
          ∙ sym (ap (λ (o : Outcome). verdict (get_refusal o ls r (length out)) (measure_of (get_lines o ls r))) o);
      bytes =
          c.hand_out.ensures.bytes
          ∙ ap (λ k. left (hand_refusal k n ls chosen (length out)) (fronted (text_of (shown_of k (chosen_set chosen) n ls)) out) out) few
          ∙ left_is es n ls r (length out) (λ xs. fronted (text_of xs) out) out chosen c.choose-chosen.ensures
          ∙ sym (ap (λ (o : Outcome). left (get_refusal o ls r (length out)) (fronted (text_of (get_lines o ls r)) out) out) o);
    }

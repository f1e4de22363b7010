use Rattle.std.proofs.Common.{ℕ, List, length, refl, sym, ap, ◌∙◌}
use Rattle.lines.specs.Faults.{verdict, left}
use Rattle.lines.specs.Lines.{look_refusal, line_of, draft_lines, fronted}
use Rattle.blocks.proofs.TwoSheets.{lent, draft_lent}
use Rattle.blocks.proofs.store.BlockStoreLineStore.look.Goals as goal

pub returns : goal.returns
returns g c =
    let n : ℕ = c.args.n in
    let buf : List ℕ = c.args.buf.now in
    let e = draft_lent g.L.Layout.lines (lent c.in_ok-draft.ensures.0 c.other.ensures c.size.ensures.is c.range-half.ensures.from c.range-half.ensures.to) refl c.in_ok-draft.ensures.1 in
    record {
      answer = c.read_line.ensures.answer ∙ sym (ap (λ d. verdict (look_refusal d n (length buf)) (length (line_of (draft_lines d) n))) e);
      bytes = c.read_line.ensures.bytes ∙ sym (ap (λ d. left (look_refusal d n (length buf)) (fronted (line_of (draft_lines d) n) buf) buf) e);
    }

use Rattle.std.proofs.Common.{ℕ, List, length, refl, sym, ap, ◌∙◌}
use Rattle.lines.specs.Faults.{verdict, left}
use Rattle.lines.specs.Lines.{read_refusal, line_of, fronted}
use Rattle.blocks.proofs.TwoSheets.{lent, list_lent}
use Rattle.blocks.proofs.store.BlockStoreLineSource.read.Goals as goal

pub returns : goal.returns
returns g c =
    let n : ℕ = c.args.n in
    let buf : List ℕ = c.args.buf.now in
    let e = list_lent g.L.Layout.lines (lent c.in_ok-list.ensures.0 refl c.size.ensures.is c.range-half.ensures.from c.range-half.ensures.to) refl c.in_ok-list.ensures.1 in
    record {
      answer = c.read_line.ensures.answer ∙ sym (ap (λ ls. verdict (read_refusal ls n (length buf)) (length (line_of ls n))) e);
      bytes = c.read_line.ensures.bytes ∙ sym (ap (λ ls. left (read_refusal ls n (length buf)) (fronted (line_of ls n) buf) buf) e);
    }

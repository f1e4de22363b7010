use Rattle.std.proofs.Common.{length, ap, ◌∙◌}
use Rattle.lines.specs.Faults.{verdict, left}
use Rattle.lines.specs.Lines.{read_refusal, line_of, fronted}
use Rattle.checksum.proofs.SumLaws.{rest_line}
use Rattle.checksum.proofs.LayerLaws.{number_is, read_rest}
use Rattle.checksum.proofs.layer.ChecksumLineSource.read.Goals as goal

pub returns : goal.returns
returns g c =
    let ls = g.S.LineSource.lines c.args.self.now.below in
    let n = c.args.n in
    let buf = c.args.buf.now in
    let number = number_is n _ c.in_ok-number_below.ensures in
    let same = read_rest ls n (length buf) number.0 in
    let line = rest_line ls n number.0 in
    record {
      answer = c.read.ensures.answer ∙ ap (λ k. verdict (read_refusal ls k (length buf)) (length (line_of ls k))) number.1 ∙ (λ i. verdict (same i) (length (line i)));
      bytes = c.read.ensures.bytes ∙ ap (λ k. left (read_refusal ls k (length buf)) (fronted (line_of ls k) buf) buf) number.1 ∙ (λ i. left (same i) (fronted (line i) buf) buf);
    }

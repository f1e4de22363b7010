use Rattle.std.proofs.Common.{◌≡◌, ◌+◌, [], ◌∷◌, List, length, drop, Ok, sym, refl, ap, ◌∙◌, subst, arith}
use Rattle.lines.specs.Faults.{Refusal, verdict, left}
use Rattle.lines.specs.Lines.{Line}
use Rattle.whole.specs.Whole.{row_at, text_of}
use Rattle.sets.specs.Serials.{serials}
use Rattle.weave.specs.Coming.{Item, lent, coming, to_come}
use Rattle.records.specs.BodyRecords.{body}
use Rattle.weave.specs.Handing.{shown_of}
use Rattle.weave.specs.declared.shown.Shown.{Shown}
use Rattle.weave.proofs.Walks.{sound, lines_of, sound_body}
use Rattle.weave.proofs.Writes.{row_fits, Written, next_fits, written_more}
use Rattle.weave.proofs.write.write.Goals as goal

pub loop-line-init : goal.loop-line-init
loop-line-init g c =
    let ls = g.S.LineSource.lines c.args.source.now in
    let s = serials c.args.set in
    let top = c.args.top in
    let head = c.args.head in
    let out = c.args.out.now in
    let all = c.of-shown.ensures ∙ ap (λ t. coming s t [] (head + 1) (body t (drop head ls))) c.none-marks.ensures.top in
    let (clean, same) = sound_body s top head ls c.requires.valid in
    record {
      clean = ap sound all ∙ clean;
      done = subst (Written (text_of (shown_of top s head ls)) out out 0) (sym (ap lines_of all ∙ same)) (record { fits = omega (arith, c.requires.fits); front = refl; rest = refl });
    }

pub loop-line-preserved : goal.loop-line-preserved
loop-line-preserved g c =
    let items : Shown g.row.S.Denot g.S.LineSource → List Item = λ v. to_come (g.S.LineSource.lines v.source.now) v.set v.marks v.place in
    let rest = items c.next_in.new.self in
    let row : Line = c.in_ok-line.line.now in
    let was = c.args.out.now in
    let out = c.loop-line.out in
    let at = c.loop-line.at in
    let all = text_of (shown_of c.args.top (serials c.args.set) c.args.head (g.S.LineSource.lines c.args.source.now)) in
    let split : items c.loop-line.shown ≡ Ok row ∷ rest = c.in-Some.ensures ∙ ap (λ i. lent i ∷ rest) c.in_ok-line.was in
    let here = subst (λ is. Written all was out at (lines_of is)) split c.loop-line.invariant.done in
    let q = row_fits (length row) at (length out) (next_fits here) in
    let next : c.in_ok-at.at ≡ at + length row + 1 = cc (c.in_ok-at.was, c.append_row.ensures.answer, ap (λ (r : Refusal). verdict r (at + length row + 1)) q) in
    let bytes = c.append_row.ensures.bytes ∙ ap (λ (r : Refusal). left r (row_at row at out) out) q in
    record {
      clean = sym (ap sound split) ∙ c.loop-line.invariant.clean;
      done = subst (λ k. Written all was c.append_row.new.buf k (lines_of rest)) (sym next) (written_more all was out c.append_row.new.buf at row (lines_of rest) here bytes);
    }

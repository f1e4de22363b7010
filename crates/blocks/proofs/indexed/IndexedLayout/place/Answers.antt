use Rattle.std.proofs.Common.{◌≡◌, ℕ, ◌+◌, ◌-◌, ◌*◌, List, map, length, take, drop, ap, ◌∙◌, arith}
use Rattle.blocks.specs.Laid.{clean}
use Rattle.blocks.proofs.IndexedLaws.{placed, indexed_part, indexed_turned}
use Rattle.blocks.proofs.indexed.IndexedLayout.place.Goals as goal

pub returns-clause-line : goal.returns-clause-line
returns-clause-line c =
    let s : List ℕ = c.args.sheet.now in
    let a : ℕ = 4 * c.args.tally.lines + c.end_of-start.result in
    let size : a + c.span_of-len.result - a ≡ c.span_of-len.result = omega arith in
    let w = placed s c.as_chunks.result.0.now c.args.tally.lines c.args.tally.bytes c.args.row _ _ c.requires.size c.as_chunks.ensures.front (omega arith) c.end_of-start.ensures.is c.span_of-len.ensures in
    ap (λ n. map clean (take n (drop a s))) size ∙ indexed_part s c.args.tally.lines c.args.tally.count c.args.row _ _ w.0 w.1 c.requires.row

pub returns-clause-turns : goal.returns-clause-turns
returns-clause-turns c l g e =
    let w = placed c.args.sheet.now c.as_chunks.result.0.now c.args.tally.lines c.args.tally.bytes c.args.row _ _ c.requires.size c.as_chunks.ensures.front (omega arith) c.end_of-start.ensures.is c.span_of-len.ensures in
    let long : length l ≡ c.span_of-len.result = omega arith in
    indexed_turned c.args.sheet.now l c.args.tally.lines c.args.tally.count c.args.row _ w.0 (long ∙ w.1) c.args.tally.within (omega arith) c.requires.row g

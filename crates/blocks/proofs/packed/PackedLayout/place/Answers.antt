use Rattle.std.proofs.Common.{◌≡◌, ℕ, ◌+◌, ◌-◌, map, take, drop, ap, ◌∙◌, arith}
use Rattle.blocks.specs.Laid.{clean}
use Rattle.blocks.proofs.PackedLaws.{packed_part, packed_turned}
use Rattle.blocks.proofs.packed.PackedLayout.place.Goals as goal

pub returns-clause-line : goal.returns-clause-line
returns-clause-line c =
    let a : ℕ = c.min-start.result in
    let k : ℕ = c.line_len.result in
    let size : a + k - a ≡ k = omega arith in
    ap (λ n. map clean (take n (drop a c.args.sheet.now))) size
    ∙ packed_part c.args.sheet.now c.args.tally.count c.args.row c.stop_of.result a k c.stop_of.ensures.is c.min-start.ensures c.line_len.ensures.is c.requires.row

pub returns-clause-turns : goal.returns-clause-turns
returns-clause-turns c l g e =
    packed_turned c.args.sheet.now c.args.tally.count c.args.row c.stop_of.result c.min-start.result c.line_len.result c.stop_of.ensures.is c.min-start.ensures c.line_len.ensures.is c.requires.row c.args.tally.lines l (omega arith) g

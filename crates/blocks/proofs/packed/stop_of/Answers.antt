use Rattle.std.proofs.Common.{◌≡◌, ℕ, ◌+◌, List, refl, ap, ◌∙◌, add-one, arith}
use Rattle.blocks.specs.Packed.{reach, stops}
use Rattle.blocks.proofs.PackedLaws.{reach_le, reach_rest}
use Rattle.blocks.proofs.packed.stop_of.Goals as goal

step : (s : List ℕ) (i : ℕ) → stops s (i + 1) ≡ stops s i + reach s (stops s i) + 1
step s i = rw (add-one i) refl

pub loop-line-preserved : goal.loop-line-preserved
loop-line-preserved c =
    let s : List ℕ = c.args.sheet.now in
    let h = reach_le s c.loop-line.start in
    let e : c.line_len.result ≡ reach s c.loop-line.start = c.line_len.ensures.is ∙ reach_rest s c.loop-line.start c.min.result c.min.ensures in
    let f = ap (λ p. p + reach s p + 1) c.loop-line.invariant.0 in
    let g = step s c.loop-line._line in
    (omega arith, omega arith, omega arith)

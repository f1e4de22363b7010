use Rattle.std.proofs.Common.{◌+◌, [], length, drop, ap, ◌∙◌, arith}
use Rattle.records.specs.BodyRecords.{body}
use Rattle.sets.specs.Serials.{serials}
use Rattle.weave.specs.Coming.{coming}
use Rattle.weave.proofs.Walks.{tally, measured, weight, lawful_light}
use Rattle.weave.proofs.walk.walk.Goals as goal

pub loop-line-init : goal.loop-line-init
loop-line-init g c =
    let ls = g.S.LineSource.lines c.args.source.now in
    let s = serials c.args.set in
    let top = c.args.top in
    let head = c.args.head in
    let all = c.of-shown.ensures ∙ ap (λ t. coming s t [] (head + 1) (body t (drop head ls))) c.none-marks.ensures.top in
    let few = lawful_light s top head ls (g.S.LineSource.lawful c.args.source.now) in
    record { same = ap (tally 0 0) all ∙ measured s top head ls; few = omega (arith, ap length all, few.0); small = omega (arith, ap weight all, few.1) }

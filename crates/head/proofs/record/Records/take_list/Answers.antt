use Rattle.std.proofs.Common.{◌≡◌, ◌+◌, [], ◌∷◌, Ok, drop, sym, ap, ◌∙◌, subst, arith}
use Rattle.records.specs.HeadRecords.{after}
use Rattle.head.specs.Reading.{here, list_at}
use Rattle.head.proofs.Ahead.{inside, listed_on}
use Rattle.head.proofs.record.Records.take_list.Goals as goal

pub invariant_of-self : goal.invariant_of-self
invariant_of-self g c =
    let s = c.self.inside.source.now in
    omega (arith, inside (g.S.LineSource.lines s) c.self.inside.passed _ (ap here c.self.view_is ∙ sym c.in_ok-record.ensures), (g.S.LineSource.lawful s).0)

pub returns-in-Ok : goal.returns-in-Ok
returns-in-Ok g c =
    let ls = g.S.LineSource.lines c.self.inside.source.now in
    let k = c.self.inside.passed in
    let mark = 1 ∷ c.args.letter ∷ 32 ∷ [] in
    subst (λ a. Ok (c.in-Ok.set, (k + 1 + 1, drop (k + 1) ls)) ≡ list_at mark c.args.own c.args.other a) c.self.view_is
    (listed_on ls k _ (ap here c.self.view_is ∙ sym c.in_ok-record.ensures) mark c.args.own c.args.other _ (ap (after mark) (sym c.as_slice.ensures) ∙ sym c.in-Some.ensures) _ (sym c.in-Ok.ensures))

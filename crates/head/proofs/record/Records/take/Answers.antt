use Rattle.std.proofs.Common.{◌+◌, Some, Ok, drop, sym, ap, ◌∙◌, subst, rules}
use Rattle.std.specs.Fn.{FnOnceReturnsAt}
use Rattle.head.specs.Reading.{here, Takes}
use Rattle.head.proofs.Ahead.{taken_on}
use Rattle.head.proofs.record.Records.take.Goals as goal

pub returns : goal.returns
returns g c =
    let ls = g.S.LineSource.lines c.self.inside.source.now in
    let k = c.self.inside.passed in
    let read : FnOnceReturnsAt g.F.FnOnce c.args.read c.in_ok-record.record (Some c.in_ok-value.value) = search rules in
    subst (λ a. Takes (FnOnceReturnsAt g.F.FnOnce c.args.read) a (Ok c.in_ok-value.value) (k + 1 + 1, drop (k + 1) ls)) c.self.view_is
    (taken_on ls k _ (ap here c.self.view_is ∙ sym c.in_ok-record.ensures) _ _ read)

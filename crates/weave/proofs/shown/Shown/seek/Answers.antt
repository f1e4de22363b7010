use Rattle.std.proofs.Common.{take, sym, ◌∙◌}
use Rattle.std.proofs.lemmas.Bool.{cond-true, cond-false}
use Rattle.records.specs.BodyMeaning.{meaning}
use Rattle.weave.proofs.Walks.{breaks, hands_on, passes_over, at_the_end, fetched_past}
use Rattle.weave.proofs.shown.Shown.seek.Goals as goal

pub returns-then-not-allows-clause-steps : goal.returns-then-not-allows-clause-steps
returns-then-not-allows-clause-steps g c =
    let s = c.records.self in
    let ls = g.S.LineSource.lines s.source.now in
    let is = c.read_record-record.ensures in
    let broken = breaks ls s.set s.marks s.place (take c.in-Some.len c.read_into.new.room) s.from c.in-Some.ensures.line (meaning c.read_record-record.result) is c.if-not-allows.ensures in
    sym c.records.invariant ∙ broken ∙ cc (c.stop.ensures.breach, c.stop.ensures.over)

pub returns-then-is_seen-clause-steps : goal.returns-then-is_seen-clause-steps
returns-then-is_seen-clause-steps g c =
    let s = c.records.self in
    let ls = g.S.LineSource.lines s.source.now in
    let is = c.read_record-record.ensures in
    sym c.records.invariant
    ∙ hands_on ls s.set s.marks s.place (take c.in-Some.len c.read_into.new.room) s.from c.in-Some.ensures.line (meaning c.read_record-record.result) is c.follow.new.self c.if-not-allows.ensures c.follow.ensures.top c.follow.ensures.after c.if-is_seen.ensures

pub records-preserved : goal.records-preserved
records-preserved g c =
    let s = c.records.self in
    let ls = g.S.LineSource.lines s.source.now in
    let is = c.read_record-record.ensures in
    sym (passes_over ls s.set s.marks s.place (take c.in-Some.len c.read_into.new.room) s.from c.in-Some.ensures.line (meaning c.read_record-record.result) is c.follow.new.self c.if-not-allows.ensures c.follow.ensures.top c.follow.ensures.after c.if-is_seen.ensures)
    ∙ c.records.invariant

pub returns-then-is_empty-clause-steps : goal.returns-then-is_empty-clause-steps
returns-then-is_empty-clause-steps g c =
    let s = c.records.self in
    let ls = g.S.LineSource.lines s.source.now in
    let over = at_the_end ls s.set s.marks s.place (fetched_past ls s.place s.from c.in_default.ensures.line) ∙ cond-true _ _ _ (sym c.if-is_empty.ensures) in
    (sym c.records.invariant ∙ over, over)

pub returns-clause-steps : goal.returns-clause-steps
returns-clause-steps g c =
    let s = c.records.self in
    let ls = g.S.LineSource.lines s.source.now in
    let left = at_the_end ls s.set s.marks s.place (fetched_past ls s.place s.from c.in_default.ensures.line) ∙ cond-false _ _ _ (sym c.if-is_empty.ensures) in
    sym c.records.invariant ∙ left ∙ cc (c.stop-2.ensures.breach, c.stop-2.ensures.over)

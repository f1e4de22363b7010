use Rattle.std.proofs.Common.{◌≤◌, length, arith}
use Rattle.lines.proofs.LineLaws.{fetched_none}
use Rattle.weave.proofs.shown.steps.read_into.Goals as goal

pub returns-in_default-clause-line : goal.returns-in_default-clause-line
returns-in_default-clause-line g c =
    let whole : 240 ≤ length c.args.room.now = omega (arith, c.told-room) in
    fetched_none _ _ _ c.in_default.field-0 (g.S.LineSource.lawful c.args.source.now) whole c.in_default.ensures.answer

use Rattle.std.proofs.Common.{◌≤◌, length, arith}
use Rattle.lines.proofs.LineLaws.{fetched_none}
use Rattle.lines.proofs.line.fetch_in.Goals as goal

pub returns-in_default : goal.returns-in_default
returns-in_default g c =
    let whole : 240 ≤ length c.args.room.now = omega (arith, c.told-room) in
    record { line = fetched_none _ _ _ c.in_default.field-0 (g.S.LineSource.lawful c.args.source.now) whole c.in_default.ensures.answer }

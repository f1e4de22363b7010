use Rattle.std.proofs.Common.{arith}
use Rattle.blocks.proofs.PackedLaws.{total_packed}
use Rattle.blocks.proofs.packed.PackedLayout.used.Goals as goal

pub returns-clause-is : goal.returns-clause-is
returns-clause-is c = let u = total_packed c.args.sheet.now c.args.tally.count in omega arith

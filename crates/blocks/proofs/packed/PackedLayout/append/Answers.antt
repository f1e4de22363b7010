use Rattle.std.proofs.Common.{ℕ, List, arith}
use Rattle.blocks.proofs.PackedLaws.{stored, total_packed}
use Rattle.blocks.proofs.packed.PackedLayout.append.Goals as goal

pub returns : goal.returns
returns c =
    let s : List ℕ = c.args.sheet.now in
    let u = total_packed s c.args.tally.count in
    let w = stored s c.args.line.now c.copy_from_slice.new.self c.args.tally.count _ (omega arith) c.copy_from_slice.ensures.after (omega arith) c.requires.line in
    record { taken = w.taken; layout = w.keeps }

use Rattle.std.proofs.Common.{◌+◌, ◌-◌, length, set, refl, ap, ◌∙◌}
use borrow.Rule.Slice.PartMut.{put_mid}
use Rattle.whole.proofs.TextBack.{row_put}
use Rattle.whole.proofs.written.put_row.Goals as goal

pub returns : goal.returns
returns c =
    let end = c.args.at + length c.args.line.now in
    ap (λ l. set (put_mid c.args.at (end - c.args.at) c.args.buf.now l) end 10) c.copy_from_slice.ensures.after
    ∙ row_put c.args.buf.now c.args.line.now c.args.at end refl c.requires

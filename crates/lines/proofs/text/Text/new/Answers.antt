use Rattle.lines.proofs.RowLaws.{scanned_ok, rows_few}
use Rattle.lines.proofs.text.Text.new.Goals as goal

pub mark_starts-starts-requires : goal.mark_starts-starts-requires
mark_starts-starts-requires c = rows_few c.args.bytes.now (scanned_ok c.args.bytes.now c.in-Ok.count c.in-Ok.ensures).0

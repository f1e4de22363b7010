use Rattle.std.proofs.Common.{◌+◌, refl}
use Rattle.lines.proofs.LineLaws.{accepted_ok}
use Rattle.blocks.proofs.TwoSheets.{lent, store_added, laid_left}
use Rattle.blocks.proofs.store.BlockStoreLineStore.add.Goals as goal

pub returns-clause-store : goal.returns-clause-store
returns-clause-store g c =
    store_added g.L.Layout.lines (lent c.in_ok-draft.ensures.0 c.other.ensures c.size.ensures.is c.range-half.ensures.from c.range-half.ensures.to) refl c.in_ok-draft.ensures.1 c.add_line.new.sheet c.add_line.auto.sheet (c.in_ok-draft.draft.count + 1) c.in_ok-add_line.ensures.few g.L.Layout.KIND c.args.line.now (accepted_ok _ _ _ c.in_ok-add_line.ensures.answer) c.in_ok-add_line.ensures.taken

pub returns-clause-layout : goal.returns-clause-layout
returns-clause-layout g c =
    laid_left g.L.Layout.lines (lent c.in_ok-draft.ensures.0 c.other.ensures c.size.ensures.is c.range-half.ensures.from c.range-half.ensures.to) refl c.in_ok-draft.ensures.1 c.add_line.new.sheet c.add_line.auto.sheet (c.in_ok-draft.draft.count + 1) c.in_ok-add_line.ensures.few g.L.Layout.laid (c.in_ok-add_line.ensures.layout refl)

use Rattle.std.proofs.Common.{refl}
use Rattle.blocks.proofs.TwoSheets.{lent, store_patched, laid_lent}
use Rattle.blocks.proofs.store.BlockStoreLineStore.patch.Goals as goal

pub returns-clause-store : goal.returns-clause-store
returns-clause-store g c =
    store_patched g.L.Layout.lines (lent c.in_ok-draft.ensures.0 c.other.ensures c.size.ensures.is c.range-half.ensures.from c.range-half.ensures.to) refl c.in_ok-draft.ensures.1 c.change_line.new.sheet c.change_line.auto.sheet g.L.Layout.KIND c.args.n c.args.line.now c.change_line.result c.change_line.ensures.answer c.change_line.ensures.taken

pub returns-clause-layout : goal.returns-clause-layout
returns-clause-layout g c =
    laid_lent g.L.Layout.lines (lent c.in_ok-draft.ensures.0 c.other.ensures c.size.ensures.is c.range-half.ensures.from c.range-half.ensures.to) refl c.in_ok-draft.ensures.1 c.change_line.new.sheet c.change_line.auto.sheet g.L.Layout.laid c.change_line.ensures.layout

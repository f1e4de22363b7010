use Rattle.std.proofs.Common.{◌≡◌, ℕ, List, [], sym, ap, ◌∙◌}
use Rattle.std.proofs.lemmas.Bool.{ne_eqb}
use Rattle.lines.specs.Faults.{left}
use Rattle.lines.specs.Stores.{Store, drafting}
use Rattle.lines.proofs.LineLaws.{check_passes}
use Rattle.blocks.specs.Blocks.{limits_of}
use Rattle.blocks.specs.Stores.{block_store}
use Rattle.blocks.proofs.TwoSheets.{stands_limits, store_begun, laid_begun}
use Rattle.blocks.proofs.store.BlockStoreLineStore.begin.Goals as goal

pub returns-clause-store : goal.returns-clause-store
returns-clause-store g c =
    let b : List ℕ = c.args.self.now.block.now in
    let m = c.args.self.now.at in
    let S : Store = block_store g.L.Layout c.args.self.now in
    let some = λ (e : (limits_of g.L.Layout.size b m).0 ≡ 0). c.if-lines-eq0.false (ap (λ (p : ℕ × ℕ). p.0) c.limits-lines.ensures ∙ e) in
    store_begun g.L.Layout.lines g.L.Layout.size g.L.Layout.counted b m (stands_limits g.L.Layout.size b m some) g.L.Layout.KIND
    ∙ sym (ap (λ q. left q (drafting [] S) S) (check_passes _ _ _ (ne_eqb _ 0 some)))

pub returns-clause-layout : goal.returns-clause-layout
returns-clause-layout g c =
    let b : List ℕ = c.args.self.now.block.now in
    let m = c.args.self.now.at in
    let some = λ (e : (limits_of g.L.Layout.size b m).0 ≡ 0). c.if-lines-eq0.false (ap (λ (p : ℕ × ℕ). p.0) c.limits-lines.ensures ∙ e) in
    laid_begun g.L.Layout.lines g.L.Layout.size g.L.Layout.counted b m (stands_limits g.L.Layout.size b m some) g.L.Layout.laid g.L.Layout.laid_none

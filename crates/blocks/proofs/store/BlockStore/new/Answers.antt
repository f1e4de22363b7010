use Rattle.std.proofs.Common.{◌≡◌, ℕ, List, length, sym, subst}
use Rattle.blocks.specs.declared.marks.Marks.{Marks}
use Rattle.blocks.specs.Numbers.{fresh}
use Rattle.blocks.specs.Blocks.{Meaning, Size, Begins, list_of, draft_of, health_of}
use Rattle.blocks.proofs.TwoSheets.{fresh_begins, fresh_laid}
use Rattle.blocks.proofs.store.BlockStore.new.Goals as goal

-- a store over fresh marks begins with nothing, whatever its limits
begun : (lines : Meaning) (size : Size) → ((L : ℕ) (s : List ℕ) (n : ℕ) → length (lines L s n) ≡ n) → (b : List ℕ) {L B : ℕ} {m : Marks} → m ≡ fresh L B → Begins (list_of lines size b m) (draft_of lines size b m) (health_of m)
begun lines size counted b {L} {B} is = subst (λ m. Begins (list_of lines size b m) (draft_of lines size b m) (health_of m)) (sym is) (fresh_begins lines size counted b L B)

pub returns-clause-begins : goal.returns-clause-begins
returns-clause-begins g c =
    begun g.L.Layout.lines g.L.Layout.size g.L.Layout.counted c.args.block.now c.new.ensures

pub returns-clause-layout : goal.returns-clause-layout
returns-clause-layout g c =
    fresh_laid g.L.Layout.laid g.L.Layout.laid_none g.L.Layout.lines g.L.Layout.size c.args.block.now c.new.result (returns-clause-begins g c)

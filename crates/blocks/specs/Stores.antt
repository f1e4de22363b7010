-- What a store over a block means, by its layout and its fields. Assumes nothing.
--
-- d, s              what the layout means, and the store: its block, its numbers
-- store_list d s    the current list
-- store_draft d s   the draft
-- store_limits d s  the limits
-- store_health s    the health
-- block_store d s   all of it as one line store, whose bottom kind is that of the layout
-- StoreLaid d s     list and draft lie in the block as the layout has them
use Rattle.std.specs.Prelude.{ℕ, List, Option}
use Rattle.lines.specs.Lines.{Line}
use Rattle.lines.specs.Stores.{Store}
use Rattle.blocks.specs.declared.layout.Layout as layout
use Rattle.blocks.specs.declared.store.BlockStore.{BlockStore}
use Rattle.blocks.specs.Blocks.{list_of, draft_of, limits_of, health_of, store_of, LaidOut}

abbrev pub store_list : {X : Type 0} → layout.Ghosts X → BlockStore X → List Line
store_list d s = list_of d.lines d.size s.block.now s.at

abbrev pub store_draft : {X : Type 0} → layout.Ghosts X → BlockStore X → Option (List Line)
store_draft d s = draft_of d.lines d.size s.block.now s.at

abbrev pub store_limits : {X : Type 0} → layout.Ghosts X → BlockStore X → ℕ × ℕ
store_limits d s = limits_of d.size s.block.now s.at

abbrev pub store_health : {X : Type 0} → BlockStore X → ℕ
store_health s = health_of s.at

abbrev pub block_store : {X : Type 0} → layout.Ghosts X → BlockStore X → Store
block_store d s = store_of d.lines d.size d.KIND s.block.now s.at

abbrev pub StoreLaid : {X : Type 0} → layout.Ghosts X → BlockStore X → Type 0
StoreLaid d s = LaidOut d.laid d.lines d.size s.block.now s.at

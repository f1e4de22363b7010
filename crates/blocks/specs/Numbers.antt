-- The numbers of a block store. Assumes nothing.
--
-- other h     the half that is not h
-- base k h    where the sheet on the half h begins, if a sheet has k bytes
-- drafts m    how many lines the draft has; 0 where there is none
-- within m    the counts of lines are within the limit of lines
-- fresh L B   no lines and no draft, with the limits L and B
use Rattle.std.specs.Prelude.{ℕ, Bool, ◌&&◌, None, unwrap_or, nat_le}
use Rattle.blocks.specs.declared.marks.Half.{Half}
use Rattle.blocks.specs.declared.marks.Half.TheVariants.{First, Second}
use Rattle.blocks.specs.declared.marks.Marks.{Marks}

abbrev pub other : Half → Half
other First = Second
other Second = First

abbrev pub base : ℕ → Half → ℕ
base k First = 0
base k Second = k

abbrev pub drafts : Marks → ℕ
drafts m = unwrap_or m.draft 0

abbrev pub within : Marks → Bool
within m = nat_le m.count m.lines && nat_le (drafts m) m.lines

abbrev pub fresh : ℕ → ℕ → Marks
fresh L B = record { lines = L; bytes = B; list = First; count = 0; draft = None }

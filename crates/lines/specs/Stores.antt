-- What a line store means, as one value, and what each storing call makes of it. Assumes nothing.
--
-- Store            a list of lines and a health; a draft, absent or a list; the limits; the bottom kind
-- drafting ls s    the store s with the draft ls
-- rewritten ls s   the store s once ls was made its list: it is whole, and has no draft
-- begun s          the store s after `begin`: with a draft of no lines
-- added l s        the store s after `add`: with the line l behind those of its draft
-- patched n l s    the store s after `patch`: with l in place of line n of its draft
-- kept s           the store s after `keep`: rewritten by its draft
-- A call that is refused leaves the store as it was.
use Rattle.std.specs.Prelude.{ℕ, ◌-◌, List, [], ◌∷◌, ◌++◌, None, Some, Option, slice_set}
use Rattle.lines.specs.Faults.{left}
use Rattle.lines.specs.Lines.{Line, draft_lines, begin_refusal, add_refusal, patch_refusal, keep_refusal}

pub record Store : Type 0 where
  pub lines : List Line
  pub health : ℕ
  pub draft : Option (List Line)
  pub limits : ℕ × ℕ
  pub bottom : ℕ

abbrev pub rewritten : List Line → Store → Store
rewritten ls s = record { lines = ls; health = 0; draft = None; limits = s.limits; bottom = s.bottom }

abbrev pub drafting : List Line → Store → Store
drafting ls s =
    record { lines = s.lines; health = s.health; draft = Some ls; limits = s.limits; bottom = s.bottom }

abbrev pub begun : Store → Store
begun s = left (begin_refusal s.limits) (drafting [] s) s

abbrev pub added : Line → Store → Store
added l s = left (add_refusal s.draft s.limits l) (drafting (draft_lines s.draft ++ (l ∷ [])) s) s

abbrev pub patched : ℕ → Line → Store → Store
patched n l s = left (patch_refusal s.draft n l) (drafting (slice_set (draft_lines s.draft) (n - 1) l) s) s

abbrev pub kept : Store → Store
kept s = left (keep_refusal s.draft) (rewritten (draft_lines s.draft) s) s

-- What the checksum layer makes of the source or store below. Assumes nothing.
--
-- rest ls             the lines below without the first
-- summed ls           the first line holds the sum of the others
-- layer_health h ls   the health: that below or, where that is 0, 4 unless the first line holds the sum
-- above d             the draft: absent unless the draft below has a first line of 7 bytes, else that without it
-- number_below n      the number of line n below: n + 1; none where n is 0, or 4,000 or more
-- limits_above lim    the limits: one line and 7 bytes less, both 0 where that is impossible
-- over s              what the layer over a store means, where that one means s
-- begun_below s       the store s below after `begin` of the layer: with a draft that holds the place of the sum
-- added_below l s     the same after `add`: with the line l behind those of its draft
-- patched_below n l s the same after `patch`: with l in place of line n + 1 of its draft
-- kept_below s        the same after `keep`: rewritten by the layer's draft behind its sum
-- rest_lawful         the lines are a line source's where those below are
-- above_lawful        the draft is a line store's where that below is
-- draft_lawful        the lines of a draft are a line source's where the draft is a line store's
-- limits_lawful       the limits are a line store's where those below are
use Rattle.std.specs.Prelude.{ℕ, ◌+◌, ◌-◌, Bool, true, false, cond, ◌&&◌, ◌||◌, List, [], ◌∷◌, ◌++◌, length, drop, Some, None, Option, Result, ◌==◌, nat_le, slice_set}
use Rattle.std.proofs.Common.{arith}
use Rattle.std.specs.Str.{bytes_eq}
use Rattle.lines.specs.declared.fault.Fault.{Fault}
use Rattle.lines.specs.declared.fault.Cause.TheVariants.{NoSuchLine}
use Rattle.lines.specs.Faults.{accepted, plain, when, verdict, left}
use Rattle.lines.specs.Lines.{Line, draft_lines, Lawful, LawfulDraft, LawfulLimits, begin_refusal, add_refusal, patch_refusal, keep_refusal}
use Rattle.lines.specs.Stores.{Store, drafting, rewritten}
use Rattle.checksum.specs.Sum.{sum_of, marked}

abbrev pub rest : List Line → List Line
rest ls = drop 1 ls

abbrev pub summed : List Line → Bool
summed [] = false
summed (l ∷ ls) = bytes_eq l (marked (sum_of ls))

abbrev pub layer_health : ℕ → List Line → ℕ
layer_health below ls = cond (below == 0) (cond (summed ls) 0 4) below

abbrev pub above : Option (List Line) → Option (List Line)
above None = None
above (Some []) = None
above (Some (l ∷ ls)) = cond (length l == 7) (Some ls) None

abbrev pub number_below : ℕ → Result ℕ Fault
number_below n = verdict (when (n == 0 || nat_le 4000 n) (plain NoSuchLine) accepted) (n + 1)

abbrev pub limits_above : ℕ × ℕ → ℕ × ℕ
limits_above lim = cond (nat_le 1 lim.0 && nat_le 7 lim.1) (lim.0 - 1, lim.1 - 7) (0, 0)

abbrev pub over : Store → Store
over s =
    record { lines = rest s.lines; health = layer_health s.health s.lines; draft = above s.draft; limits = limits_above s.limits; bottom = s.bottom }

abbrev pub begun_below : Store → Store
begun_below s = left (begin_refusal (limits_above s.limits)) (drafting (marked 0 ∷ []) s) s

abbrev pub added_below : Line → Store → Store
added_below l s = left (add_refusal (above s.draft) (limits_above s.limits) l) (drafting (draft_lines s.draft ++ (l ∷ [])) s) s

abbrev pub patched_below : ℕ → Line → Store → Store
patched_below n l s = left (patch_refusal (above s.draft) n l) (drafting (slice_set (draft_lines s.draft) n l) s) s

abbrev pub kept_below : Store → Store
kept_below s =
    left (keep_refusal (above s.draft)) (rewritten (marked (sum_of (draft_lines (above s.draft))) ∷ draft_lines (above s.draft)) s) s

-- these are a line source's and a line store's, where those below are
pub rest_lawful : (ls : List Line) → Lawful ls → Lawful (rest ls)
rest_lawful [] h = h
rest_lawful (l ∷ ls) h = (omega (arith, h.0), h.1.1)

pub above_lawful : (d : Option (List Line)) → LawfulDraft d → LawfulDraft (above d)
above_lawful None h = tt
above_lawful (Some []) h = tt
above_lawful (Some (l ∷ ls)) h =
    elim (length l == 7) as (λ b. LawfulDraft (cond b (Some ls) None)) [ true ↦ (omega (arith, h.0), h.1.1) | false ↦ tt ]

pub limits_lawful : (lim : ℕ × ℕ) → LawfulLimits lim → LawfulLimits (limits_above lim)
limits_lawful lim h =
    elim (nat_le 1 lim.0 && nat_le 7 lim.1) as (λ b. LawfulLimits (cond b (lim.0 - 1, lim.1 - 7) (0, 0))) [ true ↦ (omega (arith, h.0), omega (arith, h.1)) | false ↦ (omega arith, omega arith) ]

pub draft_lawful : (d : Option (List Line)) → LawfulDraft d → Lawful (draft_lines d)
draft_lawful None h = (omega arith, tt)
draft_lawful (Some d) h = h

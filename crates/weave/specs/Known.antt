-- Known bodies and tables, and what must come of them. The lines are one letter each. Assumes nothing.
--
-- I n, D n, E n  the records ^I n, ^D n and ^E n
-- among ns       the set of these serials
-- recorded       the body of four deltas: a b c; b changed to B; d put after c; then, without the change to B, a taken out
-- inside         text inside an older deletion: it is hidden only where it is deleted itself or not inserted
-- crossing       deletions that cross: marks are not closed as a stack
-- table          the table of the four deltas, newest first: serial 4 stands on 2 and excludes it
-- Known          what the sets show of these bodies, and the sets of the versions
use Rattle.std.specs.Prelude.{◌≡◌, ℕ, Bool, true, false, ◌||◌, List, [], ◌∷◌, map, Some, ◌==◌}
use Rattle.lines.specs.Lines.{Line}
use Rattle.sets.specs.Bits.{Serials, no_serials}
use Rattle.records.specs.BodyRecords.{insertion, deletion, Record, opens, ends, text}
use Rattle.weave.specs.Marks.{shown}
use Rattle.weave.specs.Rules.{breach, Valid}
use Rattle.weave.specs.Versions.{Lists, no_lists, Delta, set_of}

abbrev pub I : ℕ → Record
I n = opens (insertion n)

abbrev pub D : ℕ → Record
D n = opens (deletion n)

abbrev pub E : ℕ → Record
E n = ends n

abbrev pub a : Line
a = 97 ∷ []

abbrev pub b : Line
b = 98 ∷ []

abbrev pub c : Line
c = 99 ∷ []

abbrev pub d : Line
d = 100 ∷ []

abbrev pub B : Line
B = 66 ∷ []

abbrev pub among : List ℕ → Serials
among [] k = false
among (n ∷ ns) k = n == k || among ns k

abbrev pub excluding : List ℕ → Lists
excluding ns = record { includes = no_serials; excludes = among ns }

abbrev pub recorded : List Record
recorded =
    I 1 ∷ D 4 ∷ text a ∷ E 4 ∷ D 2 ∷ text b ∷ E 2 ∷ I 2 ∷ text B ∷ E 2 ∷ text c ∷ I 3 ∷ text d ∷ E 3 ∷ E 1 ∷ []

abbrev pub inside : List Record
inside = I 1 ∷ text a ∷ D 2 ∷ text b ∷ I 3 ∷ text d ∷ E 3 ∷ E 2 ∷ E 1 ∷ []

abbrev pub crossing : List Record
crossing = I 1 ∷ text a ∷ D 2 ∷ text b ∷ D 3 ∷ text c ∷ E 2 ∷ text d ∷ E 3 ∷ E 1 ∷ []

abbrev pub on : ℕ → Lists → Delta
on base l = record { predecessor = base; lists = l }

abbrev pub table : List Delta
table = on 2 (excluding (2 ∷ [])) ∷ on 1 no_lists ∷ on 1 no_lists ∷ on 0 no_lists ∷ []

-- the serials 1 to 4 of a set, in or out
abbrev pub four : Serials → List Bool
four s = map s (1 ∷ 2 ∷ 3 ∷ 4 ∷ [])

pub record Known : Type 0 where
  pub recorded_valid : Valid 4 recorded
  pub first : shown (among (1 ∷ [])) [] recorded ≡ a ∷ b ∷ c ∷ []
  pub second : shown (among (1 ∷ 2 ∷ [])) [] recorded ≡ a ∷ B ∷ c ∷ []
  pub all : shown (among (1 ∷ 2 ∷ 3 ∷ [])) [] recorded ≡ a ∷ B ∷ c ∷ d ∷ []
  pub fourth : shown (set_of table 4 no_lists) [] recorded ≡ b ∷ c ∷ []
  pub fourth_set : four (set_of table 4 no_lists) ≡ true ∷ false ∷ false ∷ true ∷ []
  pub base_set : four (set_of table 2 (excluding (2 ∷ []))) ≡ true ∷ false ∷ false ∷ false ∷ []
  pub fourth_left_out : four (set_of table 4 (excluding (4 ∷ []))) ≡ true ∷ true ∷ false ∷ false ∷ []
  pub inside_shown : shown (among (1 ∷ 2 ∷ 3 ∷ [])) [] inside ≡ a ∷ d ∷ []
  pub crossing_shown : shown (among (1 ∷ 2 ∷ [])) [] crossing ≡ a ∷ d ∷ []
  pub both_valid : Valid 3 inside × Valid 3 crossing
  pub outer_ended : breach 2 [] 1 (I 1 ∷ I 2 ∷ E 1 ∷ E 2 ∷ []) ≡ Some 3
  pub never_opened : breach 1 [] 1 (E 1 ∷ []) ≡ Some 1
  pub opened_twice : breach 2 [] 1 (I 1 ∷ D 2 ∷ I 2 ∷ []) ≡ Some 3
  pub too_low : breach 2 [] 1 (I 2 ∷ D 1 ∷ []) ≡ Some 2
  pub text_outside : breach 1 [] 1 (text a ∷ []) ≡ Some 1
  pub left_open : breach 1 [] 1 (I 1 ∷ text a ∷ []) ≡ Some 3

-- SIDs: release and level, or these and branch and sequence, joined by dots. Assumes nothing.
--
-- part w          the part that the word w writes: 1 to 9,999
-- sid_of r l b s  the SID of these four parts; an absent part is 0
-- sid_from ws     the SID whose parts are the words ws: two, or four
-- sid w           the SID that the word w writes
use Rattle.std.specs.Prelude.{ℕ, cond, List, [], ◌∷◌, Some, None, Option, nat_lt}
use Rattle.records.specs.declared.sid.Sid.{Sid}
use Rattle.records.specs.Numerals.{and_then, numeral}
use Rattle.records.specs.Pieces.{cut}

abbrev pub part : List ℕ → Option ℕ
part w = and_then (numeral 4 w) (λ n. cond (nat_lt 0 n) (Some n) None)

abbrev pub sid_of : ℕ → ℕ → ℕ → ℕ → Sid
sid_of r l b s = record { release = r; level = l; branch = b; sequence = s }

abbrev pub sid_from : List (List ℕ) → Option Sid
sid_from [] = None
sid_from (r ∷ []) = None
sid_from (r ∷ l ∷ []) = and_then (part r) (λ r. and_then (part l) (λ l. Some (sid_of r l 0 0)))
sid_from (r ∷ l ∷ b ∷ []) = None
sid_from (r ∷ l ∷ b ∷ s ∷ []) =
    and_then (part r) (λ r. and_then (part l) (λ l. and_then (part b) (λ b. and_then (part s) (λ s. Some (sid_of r l b s)))))
sid_from (r ∷ l ∷ b ∷ s ∷ x ∷ xs) = None

abbrev pub sid : List ℕ → Option Sid
sid w = sid_from (cut 46 w)

-- The serial of the last entry. Assumes nothing.
use Rattle.std.proofs.Common.{◌≡◌, List, [], ◌∷◌, ◌++◌, Some, refl, ◌∙◌}
use native.Mathlib.Numerals.{unary_clauses}
use Rattle.head.specs.declared.table.Entry.{Entry}
use Rattle.head.specs.Heads.{last_serial}

pub last_more : (e f : Entry) (es : List Entry) → last_serial (e ∷ f ∷ es) ≡ last_serial (f ∷ es)
last_more e f es = simp unary_clauses

pub last_push : (es : List Entry) (e : Entry) → last_serial (es ++ e ∷ []) ≡ Some e.serial
last_push [] e = refl
last_push (a ∷ []) e = refl
last_push (a ∷ b ∷ es) e = last_more a b (es ++ e ∷ []) ∙ last_push (b ∷ es) e

-- A SID with a word that is no part. Assumes nothing.
use Rattle.std.proofs.Common.{◌≡◌, ℕ, List, [], ◌∷◌, ◌++◌, Some, None, Option, refl}
use Rattle.records.specs.Numerals.{and_then}
use Rattle.records.specs.Sids.{part, sid_from}

none_after : {A B : Type 0} (o : Option A) → and_then {B = B} o (λ _. None) ≡ None
none_after None = refl
none_after (Some x) = refl

pub bad : (front : List (List ℕ)) (w : List ℕ) (ps : List (List ℕ)) → part w ≡ None → sid_from (front ++ w ∷ ps) ≡ None
bad [] w [] e = refl
bad [] w (l ∷ []) e = rw e
bad [] w (l ∷ b ∷ []) e = refl
bad [] w (l ∷ b ∷ s ∷ []) e = rw e
bad [] w (l ∷ b ∷ s ∷ x ∷ xs) e = refl
bad (r ∷ []) w [] e = rw e (none_after (part r))
bad (r ∷ []) w (b ∷ []) e = refl
bad (r ∷ []) w (b ∷ s ∷ []) e = rw e (none_after (part r))
bad (r ∷ []) w (b ∷ s ∷ x ∷ xs) e = refl
bad (r ∷ l ∷ []) w [] e = refl
bad (r ∷ l ∷ []) w (s ∷ []) e = simp (e, none_after)
bad (r ∷ l ∷ []) w (s ∷ x ∷ xs) e = refl
bad (r ∷ l ∷ b ∷ []) w [] e = simp (e, none_after)
bad (r ∷ l ∷ b ∷ []) w (x ∷ xs) e = refl
bad (r ∷ l ∷ b ∷ s ∷ []) w ps e = refl
bad (r ∷ l ∷ b ∷ s ∷ x ∷ xs) w ps e = refl

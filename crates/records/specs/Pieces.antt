-- Bytes cut at each separator. Assumes nothing.
--
-- cut s bs  the pieces of the bytes bs between the separators s: one more than there are separators
use Rattle.std.specs.Prelude.{ℕ, List, ◌==◌}
use Rattle.std.specs.List.{slice_split}

abbrev pub cut : ℕ → List ℕ → List (List ℕ)
cut s bs = slice_split (λ b. b == s) bs

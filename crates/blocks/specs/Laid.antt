-- Lines laid out in bytes. Assumes nothing.
--
-- Front f s           the bytes s begin with the bytes f
-- joined e ls         the bytes of the lines ls, with the bytes e behind each
-- clean b             a byte of a line: a stray LF is read as 0
-- written s p l       the bytes s with those of the line l written at p
-- Turned .. i p l     with the line l written at p, line i of the n lines of a sheet is l and the others stay, and where
--                     the lines were laid out they still are
use Rattle.std.specs.Prelude.{◌≡◌, ℕ, cond, List, [], ◌∷◌, ◌++◌, length, take, drop, ◌==◌, slice_set}
use Rattle.lines.specs.Lines.{Line}

abbrev pub Front : List ℕ → List ℕ → Type 0
Front f s = take (length f) s ≡ f

abbrev pub joined : List ℕ → List Line → List ℕ
joined e [] = []
joined e (l ∷ ls) = l ++ (e ++ joined e ls)

abbrev pub clean : ℕ → ℕ
clean b = cond (b == 10) 0 b

abbrev pub written : List ℕ → ℕ → Line → List ℕ
written s p l = take p s ++ (l ++ drop (length l) (drop p s))

pub record Turned (lines : ℕ → List ℕ → ℕ → List Line) (laid : ℕ → List ℕ → List Line → Type 0) (L : ℕ) (s : List ℕ) (n i p : ℕ) (l : Line) : Type 0 where
  pub taken : lines L (written s p l) n ≡ slice_set (lines L s n) i l
  pub keeps : laid L s (lines L s n) → laid L (written s p l) (lines L (written s p l) n)

-- What an indexed sheet means, whatever its bytes are. Assumes nothing.
--
-- A sheet for line limit L has its index at its front, 4 bytes to a line (start and length of the line in the text,
-- low byte first), and its text from 4 × L on: the lines, packed without line ends, so that a line starts where the one
-- before it ends.
--
-- word x p             the 16-bit number at p of the index x
-- length_at x i p      the length that index entry i (from 0) gives to a line that starts at p; 0 if it has another start
-- span x room i p      the length of line i, which starts at p, in a text of `room` bytes: that of the index, at most 240
--                      and at most what is left
-- ends x room n        where line n, counted from 0, starts: where the one before it ends
-- ends_in es room      where the line behind those of the index entries es starts: each is an index of one line
-- line_at x t n        line n of the text t
-- walk x t n           the first n lines
-- indexed_lines L s n  the first n lines of a sheet
-- indexed_size L B     the bytes of a sheet
-- word_of v            the two bytes of v, the low one first
-- index_from p ls      the index of the lines ls, of which the first starts at p
-- IndexedLaid L s ls   the sheet s begins with the index of the lines ls, and its text with their bytes
use Rattle.std.specs.Prelude.{ℕ, zero, suc, ◌+◌, ◌-◌, ◌*◌, ◌/◌, ◌%◌, min, cond, List, [], ◌∷◌, ◌++◌, map, length, take, drop, ◌==◌, slice_index}
use Rattle.std.specs.List.{fold}
use Rattle.lines.specs.Lines.{Line}
use Rattle.blocks.specs.Blocks.{firsts}
use Rattle.blocks.specs.Laid.{Front, joined, clean}

abbrev pub word : List ℕ → ℕ → ℕ
word x p = slice_index x p + 256 * slice_index x (p + 1)

abbrev pub length_at : List ℕ → ℕ → ℕ → ℕ
length_at x i p = cond (word x (4 * i) == p) (word x (4 * i + 2)) 0

abbrev pub span : List ℕ → ℕ → ℕ → ℕ → ℕ
span x room i p = min (min (length_at x i p) 240) (room - p)

abbrev pub ends : List ℕ → ℕ → ℕ → ℕ
ends x room zero = 0
ends x room (suc n) = ends x room n + span x room n (ends x room n)

abbrev pub ends_in : List (List ℕ) → ℕ → ℕ
ends_in es room = fold (λ p e. p + span e room 0 p) 0 es

abbrev pub line_at : List ℕ → List ℕ → ℕ → Line
line_at x t n = map clean (take (span x (length t) n (ends x (length t) n)) (drop (ends x (length t) n) t))

abbrev pub walk : List ℕ → List ℕ → ℕ → List Line
walk x t n = firsts (λ i. line_at x t i) n

abbrev pub indexed_lines : ℕ → List ℕ → ℕ → List Line
indexed_lines L s n = walk s (drop (4 * L) s) n

abbrev pub indexed_size : ℕ → ℕ → ℕ
indexed_size L B = 4 * L + B

abbrev pub word_of : ℕ → List ℕ
word_of v = v % 256 ∷ v / 256 ∷ []

abbrev pub index_from : ℕ → List Line → List ℕ
index_from p [] = []
index_from p (l ∷ ls) = word_of p ++ (word_of (length l) ++ index_from (p + length l) ls)

abbrev pub IndexedLaid : ℕ → List ℕ → List Line → Type 0
IndexedLaid L s ls = Front (index_from 0 ls) s × Front (joined [] ls) (drop (4 * L) s)

-- What a packed sheet means, whatever its bytes are. Assumes nothing.
--
-- A sheet for the limits L and B has L + B bytes: the lines, packed, each ended by LF.
--
-- upto xs           how many bytes stand before the first LF
-- reach s p         the length of the line that starts at p: up to the next LF, at most 240, at most what is left
-- stops s n         where line n (from 0) starts: behind the LF of the one before
-- packed_line s n   line n
-- packed_lines s n  the first n lines
-- packed_size L B   the bytes of a sheet
-- PackedLaid s ls   the sheet s begins with the lines ls, each ended by LF
use Rattle.std.specs.Prelude.{ℕ, zero, suc, ◌+◌, not, List, [], ◌∷◌, take, drop, ◌==◌}
use Rattle.std.specs.List.{prefix_len}
use Rattle.lines.specs.Lines.{Line}
use Rattle.blocks.specs.Blocks.{firsts}
use Rattle.blocks.specs.Laid.{Front, joined}

abbrev pub upto : List ℕ → ℕ
upto xs = prefix_len (λ b. not (b == 10)) xs

abbrev pub reach : List ℕ → ℕ → ℕ
reach s p = upto (take 240 (drop p s))

abbrev pub stops : List ℕ → ℕ → ℕ
stops s zero = 0
stops s (suc n) = stops s n + reach s (stops s n) + 1

abbrev pub packed_line : List ℕ → ℕ → Line
packed_line s n = take (reach s (stops s n)) (drop (stops s n) s)

abbrev pub packed_lines : List ℕ → ℕ → List Line
packed_lines s n = firsts (λ i. packed_line s i) n

abbrev pub packed_size : ℕ → ℕ → ℕ
packed_size L B = L + B

abbrev pub PackedLaid : List ℕ → List Line → Type 0
PackedLaid s ls = Front (joined (10 ∷ []) ls) s

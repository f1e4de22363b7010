-- Bytes as rows, each ended by LF (the byte 10), and the first row that no line source can have. Assumes nothing.
--
-- Row               a row's bytes, and whether an LF stands after them; `row` makes one
-- before b rs       the rows rs with one byte more before the first
-- rows bs           the rows of the bytes bs
-- wrong n r         the row r cannot be line n
-- is_whole bs       a row's bytes with its LF: an LF ends them, and at most 240 bytes stand before it
-- first_wrong n rs  the number of the first wrong row, counted from n; 0 for none
-- wrong_row bs      the number of the first row that is over 240 bytes, is row 4,001 or lacks its LF; 0 for none
-- row_len bs        how many bytes stand before the first LF
-- lines_in bs       the rows' bytes: the lines where no row is wrong
-- held bs           the bytes that a text source over bs holds: all, or none where a row is wrong
-- checked bs        what the check before the making answers
-- scanned bs        the same with the number of rows
-- start_of, end_of  where line n stands in the bytes
-- part bs n         line n as the part of the bytes from its start to its end
-- spot p bs n       where that part lies in memory, for bytes that lie at a block and an offset p
-- line_in bs n      line n
-- Marked bs xs      xs has the places of rows 1, 65, 129 and so on
use Rattle.std.specs.Prelude.{◌≡◌, ℕ, ◌+◌, ◌-◌, ◌*◌, ◌<◌, Bool, true, false, cond, not, ◌&&◌, ◌||◌, List, [], ◌∷◌, map, length, take, Some, None, Ok, Err, sum_by, Option, Result, ◌==◌, nat_le, nat_lt, slice_index}
use Rattle.std.specs.List.{prefix_len, between}
use Rattle.lines.specs.declared.fault.Fault.{Fault}
use Rattle.lines.specs.declared.fault.Cause.TheVariants.{TextForm}
use Rattle.lines.specs.Faults.{placed}
use Rattle.lines.specs.Lines.{lacks, line_of, fetched}

-- a row's bytes, and whether an LF stands after them: only the last row can lack it
pub record Row : Type 0 where
  pub bytes : List ℕ
  pub ended : Bool

abbrev pub row : List ℕ → Bool → Row
row bs e = record { bytes = bs; ended = e }

-- one byte more before the first row
abbrev pub before : ℕ → List Row → List Row
before b [] = row (b ∷ []) false ∷ []
before b (r ∷ rs) = row (b ∷ r.bytes) r.ended ∷ rs

abbrev pub rows : List ℕ → List Row
rows [] = []
rows (b ∷ bs) = cond (b == 10) (row [] true ∷ rows bs) (before b (rows bs))

-- row n is over 240 bytes, is row 4,001, or lacks its LF
abbrev pub wrong : ℕ → Row → Bool
wrong n r = nat_lt 240 (length r.bytes) || (n == 4001 || not r.ended)

-- the bytes of a row, with its LF if it has one, are a line of at most 240 bytes and LF
abbrev pub is_whole : List ℕ → Bool
is_whole bs = nat_lt 0 (length bs) && (slice_index bs (length bs - 1) == 10 && nat_le (length bs - 1) 240)

-- the number of the first wrong row, counted from n; 0 where there is none
abbrev pub first_wrong : ℕ → List Row → ℕ
first_wrong n [] = 0
first_wrong n (r ∷ rs) = cond (wrong n r) n (first_wrong (n + 1) rs)

abbrev pub wrong_row : List ℕ → ℕ
wrong_row bs = first_wrong 1 (rows bs)

-- the lines that some bytes mean, where no row is wrong
abbrev pub lines_in : List ℕ → List (List ℕ)
lines_in bs = map (λ r. r.bytes) (rows bs)

-- the bytes that a text source made of bs holds: none where a row is wrong
abbrev pub held : List ℕ → List ℕ
held bs = cond (wrong_row bs == 0) bs []

-- what the check before the making answers
abbrev pub checked : List ℕ → Result Unit Fault
checked bs = cond (wrong_row bs == 0) (Ok tt) (Err (placed TextForm (wrong_row bs)))

-- the same with the number of rows
abbrev pub scanned : List ℕ → Result ℕ Fault
scanned bs = cond (wrong_row bs == 0) (Ok (length (rows bs))) (Err (placed TextForm (wrong_row bs)))

-- how many bytes stand before the first LF
abbrev pub row_len : List ℕ → ℕ
row_len bs = prefix_len (λ b. not (b == 10)) bs

-- the place in the bytes where line n begins (each line before it has an LF of its own), and where it ends
abbrev pub start_of : List (List ℕ) → ℕ → ℕ
start_of ls n = sum_by (λ l. length l + 1) (take (n - 1) ls)

abbrev pub end_of : List (List ℕ) → ℕ → ℕ
end_of ls n = start_of ls n + length (line_of ls n)

-- line n as the part of the bytes from its start to its end
abbrev pub part : List ℕ → ℕ → Option (List ℕ)
part bs n = cond (lacks (lines_in bs) n) None (Some (between (start_of (lines_in bs) n) (end_of (lines_in bs) n) bs))

-- where line n lies in memory, for bytes that lie at a block and an offset p
abbrev pub spot : ℕ × ℕ → List ℕ → ℕ → Option (ℕ × ℕ)
spot p bs n = cond (lacks (lines_in bs) n) None (Some (p.0, start_of (lines_in bs) n + p.1))

-- line n
abbrev pub line_in : List ℕ → ℕ → Option (List ℕ)
line_in bs n = fetched (lines_in bs) n

-- entry k of the marks is where row 64 × k + 1 begins
abbrev pub Marked : List ℕ → List ℕ → Type 0
Marked bs starts = (k : ℕ) → 64 * k < length (rows bs) → slice_index starts k ≡ start_of (lines_in bs) (64 * k + 1)

-- One changed byte is always seen. Assumes nothing.
--
-- byte_at ls n j    byte j of line n; lines are counted from 1, bytes from 0
-- changed ls n j b  the lines with that byte replaced by b
-- ChangeSeen        where the first line holds the sum of the others, and one byte of any line, the first too, is
--                   replaced by another byte, the first line no longer holds the sum, so that the health of the layer
--                   over a healthy source is 4
use Rattle.std.specs.Prelude.{◌≡◌, ℕ, ◌-◌, ◌<◌, true, false, List, length, ◌≢◌, slice_index, slice_set}
use Rattle.lines.specs.Lines.{Line, line_of}
use Rattle.checksum.specs.Layer.{summed, layer_health}

abbrev pub byte_at : List Line → ℕ → ℕ → ℕ
byte_at ls n j = slice_index (line_of ls n) j

abbrev pub changed : List Line → ℕ → ℕ → ℕ → List Line
changed ls n j b = slice_set ls (n - 1) (slice_set (line_of ls n) j b)

abbrev pub ChangeSeen : Type 0
ChangeSeen =
    (ls : List Line) (n j b : ℕ) → summed ls ≡ true → j < length (line_of ls n) → byte_at ls n j < 256 → b < 256 → (b ≢ byte_at ls n j) → (summed (changed ls n j b) ≡ false) × (layer_health 0 (changed ls n j b) ≡ 4)

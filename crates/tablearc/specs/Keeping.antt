-- What is found of a table that was stored. Assumes nothing.
--
-- kept_as ls lim  what reading back finds of the lines ls in a store with the limits lim: all lines and bytes, their sum,
--                 health 0, no difference, and the room that they leave
use Rattle.std.specs.Prelude.{ℕ, ◌-◌, List, length, None}
use Rattle.lines.specs.Lines.{Line, total}
use Rattle.checksum.specs.Sum.{sum_of}
use Rattle.tablearc.specs.declared.report.Kept.{Kept}

abbrev pub kept_as : List Line → ℕ × ℕ → Kept
kept_as ls lim =
    record { lines = length ls; bytes = total ls; sum = sum_of ls; health = 0; difference = None; room = (lim.0 - length ls, lim.1 - total ls) }

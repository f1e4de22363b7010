-- The sets that the code holds. Assumes nothing.
--
-- serials s        the serials of a set
-- unlisted         the set without serials
-- with_serial s n  the set s with the serial n; s itself where n is past the serials that a set can hold
-- gathered s ns    the set s with all the serials ns
use Rattle.std.specs.Prelude.{ℕ, List, [], ◌∷◌}
use Rattle.sets.specs.Bits.{Serials, bits, raised}
use Rattle.sets.specs.declared.set.SerialSet.{SerialSet}

abbrev pub serials : SerialSet → Serials
serials s = bits s.words

abbrev pub unlisted : SerialSet
unlisted = record { words = 0 ∷ [] }

abbrev pub with_serial : SerialSet → ℕ → SerialSet
with_serial s n = record { words = raised s.words n }

abbrev pub gathered : SerialSet → List ℕ → SerialSet
gathered s [] = s
gathered s (n ∷ ns) = gathered (with_serial s n) ns

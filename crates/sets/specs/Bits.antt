-- Sets of serials, and the words of 64 bits that hold one. Assumes nothing.
--
-- Serials      a set of serials, by which serials it has
-- no_serials   the set that has none
-- bit word n   bit n of a word is 1
-- bits ws      the set that the words hold: serial n is bit n % 64 of word n / 64
-- raised ws n  the words with the bit of serial n set; as they are where n lies past the last word
use Rattle.std.specs.Prelude.{ℕ, ◌/◌, ◌%◌, ◌^◌, Bool, false, List, ◌==◌, bit_or, slice_index, slice_set}

abbrev pub Serials : Type 0
Serials = ℕ → Bool

abbrev pub no_serials : Serials
no_serials n = false

abbrev pub bit : ℕ → Serials
bit word n = word / 2 ^ n % 2 == 1

unfoldable pub bits : List ℕ → Serials
bits ws n = bit (slice_index ws (n / 64)) (n % 64)

abbrev pub raised : List ℕ → ℕ → List ℕ
raised ws n = slice_set ws (n / 64) (bit_or (slice_index ws (n / 64)) (2 ^ (n % 64)))

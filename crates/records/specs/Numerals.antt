-- Numerals as records write them, in base ten. Assumes nothing.
--
-- and_then o f        f of the value in o; nothing where o is nothing
-- digit b             the byte b is one of 0 to 9
-- reads n bs          the number that the digits bs go on to after those that wrote n; nothing where a byte is no digit
-- numeral most w      the number that the word w writes with 1 to `most` digits, the first 0 only where it is the only one
-- serial_number w     the serial that the word w writes: 1 to 5 digits, no leading zero
-- up_to top o         the number in o if it is 1 to `top`
-- serial_up_to top w  the serial from 1 to `top` that the word w writes
use Rattle.std.specs.Prelude.{ℕ, ◌+◌, ◌-◌, ◌*◌, Bool, cond, not, ◌&&◌, ◌||◌, List, [], ◌∷◌, length, Some, None, Option, ◌==◌, nat_le, slice_index}

abbrev pub and_then : {A B : Type 0} → Option A → (A → Option B) → Option B
and_then None f = None
and_then (Some x) f = f x

abbrev pub digit : ℕ → Bool
digit b = nat_le 48 b && nat_le b 57

abbrev pub reads : ℕ → List ℕ → Option ℕ
reads n [] = Some n
reads n (b ∷ bs) = cond (digit b) (reads (n * 10 + (b - 48)) bs) None

abbrev pub numeral : ℕ → List ℕ → Option ℕ
numeral most w =
    cond (nat_le 1 (length w) && (nat_le (length w) most && (length w == 1 || not (slice_index w 0 == 48)))) (reads 0 w) None

unfoldable pub serial_number : List ℕ → Option ℕ
serial_number w = numeral 5 w

abbrev pub up_to : ℕ → Option ℕ → Option ℕ
up_to top None = None
up_to top (Some n) = cond (nat_le 1 n && nat_le n top) (Some n) None

abbrev pub serial_up_to : ℕ → List ℕ → Option ℕ
serial_up_to top w = up_to top (serial_number w)

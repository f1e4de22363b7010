-- The sum of lines, and the line that holds it. Assumes nothing.
--
-- weight ls      every byte of the lines, and 10 for each line, added up
-- sum_of ls      the sum of the lines: their weight modulo 65,536
-- five_digits n  a number below 100,000 as five digits
-- marked n       the line ^h and the five digits: the byte 1, h (104) and the digits
-- KnownSums      the line a alone has the sum 00107, and no lines have 00000
use Rattle.std.specs.Prelude.{◌≡◌, ℕ, ◌+◌, ◌/◌, ◌%◌, List, [], ◌∷◌, codes, sum_by, sum}
use Rattle.lines.specs.Lines.{Line}

abbrev pub weight : List Line → ℕ
weight ls = sum_by (λ l. sum l + 10) ls

abbrev pub sum_of : List Line → ℕ
sum_of ls = weight ls % 65536

abbrev pub five_digits : ℕ → List ℕ
five_digits n = (48 + n / 10000 % 10) ∷ (48 + n / 1000 % 10) ∷ (48 + n / 100 % 10) ∷ (48 + n / 10 % 10) ∷ (48 + n % 10) ∷ []

abbrev pub marked : ℕ → Line
marked n = 1 ∷ 104 ∷ five_digits n

abbrev pub KnownSums : Type 0
KnownSums = (five_digits (sum_of (codes "a" ∷ [])) ≡ codes "00107") × (five_digits (sum_of []) ≡ codes "00000")

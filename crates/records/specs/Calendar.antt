-- Dates yy/mm/dd and times hh:mm:ss, by form and by content. Assumes nothing.
--
-- pair a b            the number that two digits write
-- triple s w          the three numbers of two digits each that the word w writes, joined by the byte s
-- year_of yy          69 to 99 is 1969 to 1999, 00 to 68 is 2000 to 2068
-- leap year           every fourth year of 1969 to 2068, for 2000 is one too
-- days_in year month  how many days the month has
-- real_day y m d      the day d of the month m of the year year_of y is one of the calendar
-- real_time h m s     a time to 23:59:59
use Rattle.std.specs.Prelude.{ℕ, ◌+◌, ◌-◌, ◌*◌, ◌%◌, Bool, cond, ◌&&◌, ◌||◌, List, length, Some, None, Option, ◌==◌, nat_le, slice_index}
use Rattle.records.specs.Numerals.{and_then, digit}

abbrev pub pair : ℕ → ℕ → Option ℕ
pair a b = cond (digit a && digit b) (Some ((a - 48) * 10 + (b - 48))) None

abbrev pub triple : ℕ → List ℕ → Option (ℕ × ℕ × ℕ)
triple s w =
    cond (length w == 8 && (slice_index w 2 == s && slice_index w 5 == s))
    (and_then (pair (slice_index w 0) (slice_index w 1)) (λ x. and_then (pair (slice_index w 3) (slice_index w 4)) (λ y. and_then (pair (slice_index w 6) (slice_index w 7)) (λ z. Some (x, y, z)))))
    None

abbrev pub year_of : ℕ → ℕ
year_of yy = cond (nat_le 69 yy) (1900 + yy) (2000 + yy)

abbrev pub leap : ℕ → Bool
leap year = year % 4 == 0

abbrev pub days_in : ℕ → ℕ → ℕ
days_in year month =
    cond (month == 2) (cond (leap year) 29 28) (cond (month == 4 || (month == 6 || (month == 9 || month == 11))) 30 31)

abbrev pub real_day : ℕ → ℕ → ℕ → Bool
real_day yy month day = nat_le 1 month && (nat_le month 12 && (nat_le 1 day && nat_le day (days_in (year_of yy) month)))

abbrev pub real_time : ℕ → ℕ → ℕ → Bool
real_time h m s = nat_le h 23 && (nat_le m 59 && nat_le s 59)

-- Records of a head that begin with a mark, and of which only the form is judged. Assumes nothing.
--
-- stands_at i m l   the bytes of the mark m stand in the record l from place i on
-- after m l         what stands after the mark m at the front of the record l
-- passes p o        the test p holds of what is in o
-- counts w          three numbers of five digits each, joined by "/" (47)
-- counts_record l   ^s, a blank and the counts
-- comment_record l  ^c, a blank and the comment
use Rattle.std.specs.Prelude.{ℕ, ◌+◌, Bool, true, false, cond, ◌&&◌, List, [], ◌∷◌, length, drop, Some, None, Option, ◌==◌, nat_le, slice_index}
use Rattle.std.specs.List.{between, list_all}
use Rattle.records.specs.Names.{comment}
use Rattle.records.specs.Numerals.{digit}

abbrev pub stands_at : ℕ → List ℕ → List ℕ → Bool
stands_at i [] l = true
stands_at i (m ∷ ms) l = slice_index l i == m && stands_at (i + 1) ms l

abbrev pub after : List ℕ → List ℕ → Option (List ℕ)
after m l = cond (nat_le (length m) (length l) && stands_at 0 m l) (Some (drop (length m) l)) None

abbrev pub passes : (List ℕ → Bool) → Option (List ℕ) → Bool
passes p None = false
passes p (Some rest) = p rest

abbrev pub counts : List ℕ → Bool
counts w =
    (length w == 17) && (slice_index w 5 == 47 && (slice_index w 11 == 47 && (list_all digit (between 0 5 w) && (list_all digit (between 6 11 w) && list_all digit (between 12 17 w)))))

abbrev pub counts_record : List ℕ → Bool
counts_record l = passes counts (after (1 ∷ 115 ∷ 32 ∷ []) l)

abbrev pub comment_record : List ℕ → Bool
comment_record l = passes comment (after (1 ∷ 99 ∷ 32 ∷ []) l)

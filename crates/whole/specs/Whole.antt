-- Whole sources: how many bytes they have, where two differ, and a source stored as a whole. Assumes nothing.
--
-- row_at l at buf       the buffer with the line l and LF from the place `at` on
-- row_refusal ..        the refusal of putting a line of length `len` and LF there, into a buffer of `space` bytes
-- text_of ls            the lines as a text: each line's bytes, and LF
-- text_refusal ..       the refusal of writing that text into a buffer of `space` bytes
-- differ_from n ls ms   the number of the first line, counted from n, that the two lists do not both have alike
-- first_difference      the same counted from 1; none exactly where the lists are equal
-- fits lim ls           these lines pass neither limit of a store that can begin a draft
-- whole_refusal h ls s  the refusal of making ls, the lines of a source with health h, the list of the store s
-- stored h ls s         the store s after that: rewritten by ls, or as it was where that is refused
use Rattle.std.specs.Prelude.{ℕ, ◌+◌, Bool, cond, not, ◌&&◌, List, [], ◌∷◌, ◌++◌, length, take, drop, Some, None, Option, ◌==◌, nat_le, nat_lt}
use Rattle.std.specs.Str.{bytes_eq}
use Rattle.lines.specs.declared.fault.Cause.TheVariants.{NotWhole, BufferTooSmall, NoRoom}
use Rattle.lines.specs.Faults.{Refusal, accepted, plain, layered, when, left}
use Rattle.lines.specs.Lines.{Line, total}
use Rattle.lines.specs.Stores.{Store, rewritten}

abbrev pub row_at : Line → ℕ → List ℕ → List ℕ
row_at l at buf = take at buf ++ (l ++ (10 ∷ drop (at + length l + 1) buf))

abbrev pub row_refusal : ℕ → ℕ → ℕ → Refusal
row_refusal len at space = when (nat_le space (at + len)) (plain BufferTooSmall) accepted

abbrev pub text_of : List Line → List ℕ
text_of [] = []
text_of (l ∷ ls) = l ++ (10 ∷ text_of ls)

abbrev pub text_refusal : List Line → ℕ → Refusal
text_refusal ls space = when (nat_lt space (length (text_of ls))) (plain BufferTooSmall) accepted

abbrev pub differ_from : ℕ → List Line → List Line → Option ℕ
differ_from n [] [] = None
differ_from n [] (b ∷ ms) = Some n
differ_from n (a ∷ ls) [] = Some n
differ_from n (a ∷ ls) (b ∷ ms) = cond (bytes_eq a b) (differ_from (n + 1) ls ms) (Some n)

abbrev pub first_difference : List Line → List Line → Option ℕ
first_difference ls ms = differ_from 1 ls ms

abbrev pub fits : ℕ × ℕ → List Line → Bool
fits lim ls = not (lim.0 == 0) && (nat_le (length ls) lim.0 && nat_le (total ls) lim.1)

abbrev pub whole_refusal : ℕ → List Line → Store → Refusal
whole_refusal h ls s =
    when (not (h == 0)) (layered NotWhole h) (when (not (fits s.limits ls)) (layered NoRoom s.bottom) accepted)

abbrev pub stored : ℕ → List Line → Store → Store
stored h ls s = left (whole_refusal h ls s) (rewritten ls s) s

-- Laws of the sum of lines. Assumes nothing.
use Rattle.std.proofs.Common.{◌≡◌, ℕ, suc, ◌+◌, ◌-◌, ◌/◌, ◌%◌, ◌≤◌, true, not, eqb, List, [], ◌∷◌, length, get_or, sum_by, refl, ap, ◌∙◌, arith}
use native.Mathlib.Nat.{mod-add-mod}
use Rattle.std.specs.List.{fold}
use Rattle.std.proofs.lemmas.List.Sums.{sum_by-cons}
use Rattle.std.proofs.lemmas.Bool.{and_from, not_from_false, eq-eqb, ne_eqb}
use Rattle.lines.specs.Lines.{Line, is_line, line_of}
use Rattle.checksum.specs.Layer.{rest, summed}
use Rattle.checksum.specs.Sum.{sum_of, marked}
use Rattle.std.specs.Str.{bytes_eq}

-- numbers added one by one, modulo 65,536 each time
pub wrapped : {A : Type 0} (f : A → ℕ) (a k : ℕ) (xs : List A) → (fold (λ t x. (t + f x) % 65536) a xs + k) % 65536 ≡ (a + (sum_by f xs + k)) % 65536
wrapped f a k [] = ap (λ n. n % 65536) (omega arith)
wrapped f a k (x ∷ xs) =
    let more : sum_by f (x ∷ xs) ≡ f x + sum_by f xs = sum_by-cons f x xs in
    wrapped f ((a + f x) % 65536) k xs ∙ mod-add-mod (a + f x) 65536 (sum_by f xs + k) ∙ ap (λ n. n % 65536) (omega arith)

-- line n + 1 below is line n of the rest
pub rest_line : (ls : List Line) (n : ℕ) → 1 ≤ n → line_of ls (n + 1) ≡ line_of (rest ls) n
rest_line [] n one = refl
rest_line (l ∷ ls) n one = let e : n + 1 - 1 ≡ suc (n - 1) = omega arith in ap (λ i. get_or (l ∷ ls) i []) e

pub length_rest : (ls : List Line) → length (rest ls) ≡ length ls - 1
length_rest [] = refl
length_rest (l ∷ ls) = omega arith

-- the line that holds a sum is a line of 7 bytes
digit_apart : (k : ℕ) → not (eqb (48 + k) 10) ≡ true
digit_apart k = not_from_false (eqb (48 + k) 10) (ne_eqb (48 + k) 10 (λ e. omega arith))

pub marked_line : (n : ℕ) → is_line (marked n) ≡ true
marked_line n =
    and_from _ _ (digit_apart (n / 10000 % 10)) (and_from _ _ (digit_apart (n / 1000 % 10)) (and_from _ _ (digit_apart (n / 100 % 10)) (and_from _ _ (digit_apart (n / 10 % 10)) (and_from _ _ (digit_apart (n % 10)) refl))))

same_bytes : (xs : List ℕ) → bytes_eq xs xs ≡ true
same_bytes [] = refl
same_bytes (x ∷ xs) = and_from (eqb x x) (bytes_eq xs xs) (eq-eqb x x refl) (same_bytes xs)

-- and is whole
pub summed_marked : (d : List Line) → summed (marked (sum_of d) ∷ d) ≡ true
summed_marked d = same_bytes (marked (sum_of d))

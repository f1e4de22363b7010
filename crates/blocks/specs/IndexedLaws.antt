-- The lines of an indexed sheet are lines, whatever its bytes are. Assumes nothing.
--
-- indexed_grows, indexed_counted, indexed_lawful, indexed_laid, indexed_kind  what a layout has to show, of this one
use Rattle.std.specs.Prelude.{◌≡◌, ℕ, ◌*◌, ◌≤◌, true, false, not, List, [], ◌∷◌, map, length, take, drop, ◌==◌, nat_eq, nat_le, refl}
use Rattle.std.proofs.Common.{ap, ◌∙◌, ⊎_elim, arith}
use Rattle.std.specs.List.{AllByRecursion}
use Rattle.std.proofs.lemmas.List.{length-map, length-take}
use Rattle.std.proofs.lemmas.Bool.{cases_Bool, cond-true, cond-false, and_from, not_from_false, le-leb}
use Rattle.lines.specs.Lines.{no_lf, is_line, LawfulKind}
use Rattle.blocks.specs.Indexed.{span, ends, line_at, walk, indexed_lines, indexed_size, IndexedLaid}
use Rattle.blocks.specs.Laid.{clean}
use Rattle.blocks.specs.BlockLaws.{length-firsts, all_firsts}

clean_apart : (b : ℕ) → (clean b == 10) ≡ false
clean_apart b =
    ⊎_elim (λ e. ap (λ v. nat_eq v 10) (cond-true (b == 10) 0 b e)) (λ e. ap (λ v. nat_eq v 10) (cond-false (b == 10) 0 b e) ∙ e) (cases_Bool (b == 10))

pub no_lf-clean : (l : List ℕ) → no_lf (map clean l) ≡ true
no_lf-clean [] = refl
no_lf-clean (b ∷ bs) = and_from (not (clean b == 10)) (no_lf (map clean bs)) (not_from_false _ (clean_apart b)) (no_lf-clean bs)

pub line_at_is_line : (x t : List ℕ) (n : ℕ) → is_line (line_at x t n) ≡ true
line_at_is_line x t n =
    let part : List ℕ = take (span x (length t) n (ends x (length t) n)) (drop (ends x (length t) n) t) in
    let long = length-take (span x (length t) n (ends x (length t) n)) (drop (ends x (length t) n) t) in
    let same : length (map clean part) ≡ length part = length-map part clean in
    and_from (nat_le (length (map clean part)) 240) (no_lf (map clean part)) (le-leb _ _ (omega arith)) (no_lf-clean part)

pub length-walk : (x t : List ℕ) (n : ℕ) → length (walk x t n) ≡ n
length-walk x t n = length-firsts (λ i. line_at x t i) n

walk_lines : (x t : List ℕ) (n : ℕ) → AllByRecursion (λ l. is_line l ≡ true) (walk x t n)
walk_lines x t n = all_firsts (λ l. is_line l ≡ true) (λ i. line_at x t i) (λ i. line_at_is_line x t i) n

pub indexed_counted : (L : ℕ) (s : List ℕ) (n : ℕ) → length (indexed_lines L s n) ≡ n
indexed_counted L s n = length-walk s (drop (4 * L) s) n

pub indexed_lawful : (L : ℕ) (s : List ℕ) (n : ℕ) → AllByRecursion (λ l. is_line l ≡ true) (indexed_lines L s n)
indexed_lawful L s n = walk_lines s (drop (4 * L) s) n

pub indexed_grows : (L B : ℕ) → indexed_size L 0 ≤ indexed_size L B
indexed_grows L B = omega arith

pub indexed_kind : LawfulKind 3
indexed_kind = (omega arith, omega arith)

pub indexed_laid : (L : ℕ) (s : List ℕ) → IndexedLaid L s []
indexed_laid L s = (refl, refl)

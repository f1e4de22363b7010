-- The lines of a packed sheet are lines, whatever its bytes are. Assumes nothing.
--
-- packed_grows, packed_counted, packed_lawful, packed_laid, packed_kind  what a layout has to show, of this one
use Rattle.std.specs.Prelude.{◌≡◌, ℕ, zero, suc, ◌+◌, ◌≤◌, true, false, not, List, [], ◌∷◌, length, take, drop, ◌==◌, nat_le, refl}
use Rattle.std.proofs.Common.{ap, ◌∙◌, ⊎_elim, arith}
use Rattle.std.specs.List.{AllByRecursion}
use Rattle.std.proofs.lemmas.List.{length-take}
use Rattle.std.proofs.lemmas.List.Sums.{prefix_len-le-length}
use Rattle.std.proofs.lemmas.Bool.{cases_Bool, cond-true, cond-false, and_from, not_from_false, le-leb}
use Rattle.lines.specs.Lines.{no_lf, is_line, LawfulKind}
use Rattle.blocks.specs.Packed.{upto, stops, packed_line, packed_lines, packed_size, PackedLaid}
use Rattle.blocks.specs.BlockLaws.{length-firsts, all_firsts}

pub upto_le : (xs : List ℕ) → upto xs ≤ length xs
upto_le xs = prefix_len-le-length (λ b. not (b == 10)) xs

pub upto_stop : (b : ℕ) (bs : List ℕ) → (b == 10) ≡ true → upto (b ∷ bs) ≡ 0
upto_stop b bs e = cond-false (not (b == 10)) (1 + upto bs) 0 (ap not e)

pub upto_go : (b : ℕ) (bs : List ℕ) → (b == 10) ≡ false → upto (b ∷ bs) ≡ suc (upto bs)
upto_go b bs e = cond-true (not (b == 10)) (1 + upto bs) 0 (not_from_false _ e) ∙ omega arith

-- no LF stands before the first LF
pub no_lf-upto : (m : ℕ) (xs : List ℕ) → no_lf (take (upto (take m xs)) xs) ≡ true
no_lf-upto zero xs = refl
no_lf-upto (suc m) [] = refl
no_lf-upto (suc m) (b ∷ bs) =
    ⊎_elim
    (λ e. ap (λ k. no_lf (take k (b ∷ bs))) (upto_stop b (take m bs) e))
    (λ e. ap (λ k. no_lf (take k (b ∷ bs))) (upto_go b (take m bs) e) ∙ and_from (not (b == 10)) (no_lf (take (upto (take m bs)) bs)) (not_from_false _ e) (no_lf-upto m bs))
    (cases_Bool (b == 10))

pub packed_line_is_line : (s : List ℕ) (n : ℕ) → is_line (packed_line s n) ≡ true
packed_line_is_line s n =
    let t : List ℕ = drop (stops s n) s in
    let k = upto_le (take 240 t) in
    let short = length-take 240 t in
    let long = length-take (upto (take 240 t)) t in
    and_from (nat_le (length (packed_line s n)) 240) (no_lf (packed_line s n)) (le-leb _ _ (omega arith)) (no_lf-upto 240 t)

pub packed_lawful : (s : List ℕ) (n : ℕ) → AllByRecursion (λ l. is_line l ≡ true) (packed_lines s n)
packed_lawful s n = all_firsts (λ l. is_line l ≡ true) (λ i. packed_line s i) (λ i. packed_line_is_line s i) n

pub packed_counted : (s : List ℕ) (n : ℕ) → length (packed_lines s n) ≡ n
packed_counted s n = length-firsts (λ i. packed_line s i) n

pub packed_grows : (L B : ℕ) → packed_size L 0 ≤ packed_size L B
packed_grows L B = omega arith

pub packed_kind : LawfulKind 2
packed_kind = (omega arith, omega arith)

pub packed_laid : (s : List ℕ) → PackedLaid s []
packed_laid s = refl

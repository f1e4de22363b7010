-- Laws of the lines of a whole source: their bytes, and their room in a store. Assumes nothing.
use Rattle.std.proofs.Common.{◌≡◌, ℕ, suc, ◌+◌, ◌<◌, ◌≤◌, true, false, not, ◌&&◌, eqb, leb, List, [], ◌∷◌, ◌++◌, length, length-append, get_or-append-add, get_or, take, Some, None, sum_by, sym, refl, ap, ◌∙◌, ⊎_elim, arith}
use Rattle.std.specs.Str.{bytes_eq}
use Rattle.std.proofs.lemmas.List.{length-take}
use Rattle.std.proofs.lemmas.Slice.Eq.{bytes_eq-Decides}
use Rattle.std.proofs.lemmas.Bool.{cases_Bool, cond-true, cond-false, and_parts, and_from, leb-true, lt-ltb, le-leb, not_from_true}
use Rattle.std.proofs.lemmas.List.Sums.{sum_by-cons}
use Rattle.std.proofs.ByRecursion.{sum_by_le, All-get_or, All-weaker}
use Rattle.lines.specs.Faults.{accepted}
use Rattle.lines.specs.Lines.{Line, is_line, Lawful, total, add_refusal}
use Rattle.whole.specs.Whole.{differ_from, fits}
use Rattle.lines.proofs.LineLaws.{line_short, check_passes}

pub total-is : (ls : List Line) → total ls ≡ sum_by length ls
total-is [] = refl
total-is (l ∷ ls) = ap (λ k. length l + k) (total-is ls) ∙ sym (sum_by-cons length l ls)

pub total-most : (ls : List Line) → Lawful ls → total ls ≤ 960000
total-most ls ok =
    let short = All-weaker (λ l. is_line l ≡ true) (λ l. length l ≤ 240) line_short ls ok.1 in
    let a = total-is ls in
    omega (arith, sum_by_le length 240 ls short, ok.0)

-- the length of a line that was read into a buffer with room for any
pub read_length : (r : ℕ) (buf l : List ℕ) → take r buf ≡ l → r ≤ length buf → r ≡ length l
read_length r buf l is within = let long = length-take r buf in omega (arith, ap length is)

-- where there is none the lists are equal
pub equal_from : (n : ℕ) (ls ms : List Line) → differ_from n ls ms ≡ None → ls ≡ ms
equal_from n [] [] e = refl
equal_from n [] (m ∷ ms) e = let z : ◌≡◌ {A = ℕ} 0 1 = cc in absurd (omega arith)
equal_from n (l ∷ ls) [] e = let z : ◌≡◌ {A = ℕ} 0 1 = cc in absurd (omega arith)
equal_from n (l ∷ ls) (m ∷ ms) e =
    ⊎_elim
    (λ (h : bytes_eq l m ≡ true).
    let rest : ls ≡ ms = equal_from (n + 1) ls ms (sym (cond-true _ _ _ h) ∙ e) in
    let first : l ≡ m = (bytes_eq-Decides l m).0 h in
    λ t. first t ∷ rest t)
    (λ (h : bytes_eq l m ≡ false). let never : Some n ≡ None = sym (cond-false _ _ _ h) ∙ e in let z : ◌≡◌ {A = ℕ} 0 1 = cc in absurd (omega arith))
    (cases_Bool (bytes_eq l m))

-- a list does not differ from itself
pub no_difference : (n : ℕ) (ls : List Line) → differ_from n ls ls ≡ None
no_difference n [] = refl
no_difference n (l ∷ ls) = cond-true _ _ _ ((bytes_eq-Decides l l).1 refl) ∙ no_difference (n + 1) ls

pub never_differ : (ls ms : List Line) → ls ≡ ms → differ_from 1 ls ms ≡ None
never_differ ls ms same = ap (differ_from 1 ls) (sym same) ∙ no_difference 1 ls

pub total-append : (ls ms : List Line) → total (ls ++ ms) ≡ total ls + total ms
total-append [] ms = omega arith
total-append (l ∷ ls) ms = omega (arith, total-append ls ms)

-- a line that follows the draft d in lines that fit is taken
pub next_taken : (lim : ℕ × ℕ) (ls d rest : List Line) (l : Line) → Lawful ls → fits lim ls ≡ true → d ++ (l ∷ rest) ≡ ls → add_refusal (Some d) lim l ≡ accepted
next_taken lim ls d rest l ok room' split =
    let parts = (and_parts (not (eqb lim.0 0)) (leb (length ls) lim.0 && leb (total ls) lim.1) room').1 in
    let both = and_parts (leb (length ls) lim.0) (leb (total ls) lim.1) parts in
    let few : length ls ≤ lim.0 = leb-true _ _ both.0 in
    let small : total ls ≤ lim.1 = leb-true _ _ both.1 in
    let count : length d + suc (length rest) ≡ length ls = sym (length-append d (l ∷ rest)) ∙ ap length split in
    let bytes : total d + (length l + total rest) ≡ total ls = sym (total-append d (l ∷ rest)) ∙ ap total split in
    let here : get_or ls (length d + 0) [] ≡ l = ap (λ x. get_or x (length d + 0) []) (sym split) ∙ get_or-append-add d (l ∷ rest) 0 [] in
    let is : is_line l ≡ true = ap is_line (sym here) ∙ All-get_or (λ l. is_line l ≡ true) ls (length d + 0) [] (omega arith) ok.1 in
    let front : length d < lim.0 = omega arith in
    let more : total d + length l ≤ lim.1 = omega arith in
    check_passes _ _ _ (not_from_true _ is) ∙ check_passes _ _ _ (not_from_true _ (and_from _ _ (lt-ltb _ _ front) (le-leb _ _ more)))

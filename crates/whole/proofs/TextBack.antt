-- A list of lines written as a text reads back as that list. Assumes nothing.
use Rattle.std.proofs.Common.{◌≡◌, ℕ, ◌+◌, ◌-◌, ◌<◌, ◌≤◌, true, false, not, eqb, leb, List, [], ◌∷◌, ◌++◌, map, length, get_or, take, drop, set, sym, refl, ap, ◌∙◌, append_assoc, arith, length-append}
use Rattle.std.specs.List.{AllByRecursion}
use borrow.Rule.Slice.PartMut.{put_mid}
use Rattle.std.proofs.lemmas.List.{drop_more, drop-drop, length-take, set_at}
use Rattle.std.proofs.lemmas.Bool.{and_parts, not-true, leb-true, le-ltb, ne_eqb, eq-eqb, or_from, cond-true, cond-false}
use Rattle.lines.specs.Lines.{Line, no_lf, is_line, Lawful, total}
use Rattle.lines.specs.Rows.{row, rows, before, wrong, first_wrong, wrong_row, lines_in, held}
use Rattle.whole.specs.Whole.{text_of}

-- a line and its LF are the first row
row_of : (l rest : List ℕ) → no_lf l ≡ true → rows (l ++ (10 ∷ rest)) ≡ row l true ∷ rows rest
row_of [] rest h = refl
row_of (b ∷ bs) rest h =
    let parts = and_parts (not (eqb b 10)) (no_lf bs) h in
    cond-false _ _ _ (not-true (eqb b 10) parts.0) ∙ ap (before b) (row_of bs rest parts.1)

rows_of_text : (ls : List Line) → AllByRecursion (λ l. is_line l ≡ true) ls → rows (text_of ls) ≡ map (λ l. row l true) ls
rows_of_text [] h = refl
rows_of_text (l ∷ ls) h =
    row_of l (text_of ls) (and_parts (leb (length l) 240) (no_lf l) h.0).1 ∙ ap (λ rs. row l true ∷ rs) (rows_of_text ls h.1)

none_wrong : (n : ℕ) (ls : List Line) → n + length ls ≤ 4001 → AllByRecursion (λ l. is_line l ≡ true) ls → first_wrong n (map (λ l. row l true) ls) ≡ 0
none_wrong n [] few h = refl
none_wrong n (l ∷ ls) few h =
    let short : length l ≤ 240 = leb-true _ _ (and_parts (leb (length l) 240) (no_lf l) h.0).0 in
    let good : wrong n (row l true) ≡ false = or_from _ _ (le-ltb 240 (length l) short) (or_from _ _ (ne_eqb n 4001 (λ e. omega arith)) refl) in
    cond-false _ _ _ good ∙ none_wrong (n + 1) ls (omega arith) h.1

bytes_of_rows : (ls : List Line) → map (λ r. r.bytes) (map (λ l. row l true) ls) ≡ ls
bytes_of_rows [] = refl
bytes_of_rows (l ∷ ls) = ap (λ rest. l ∷ rest) (bytes_of_rows ls)

pub text_back : (ls : List Line) → Lawful ls → lines_in (held (text_of ls)) ≡ ls
text_back ls ok =
    let whole : wrong_row (text_of ls) ≡ 0 = ap (first_wrong 1) (rows_of_text ls ok.1) ∙ none_wrong 1 ls (omega (arith, ok.0)) ok.1 in
    ap lines_in (cond-true _ _ _ (eq-eqb (wrong_row (text_of ls)) 0 whole)) ∙ ap (map (λ r. r.bytes)) (rows_of_text ls ok.1) ∙ bytes_of_rows ls

-- the size of a text
pub text_size : (ls : List Line) → length (text_of ls) ≡ total ls + length ls
text_size [] = refl
text_size (l ∷ ls) = omega (arith, length-append l (10 ∷ text_of ls), text_size ls)

-- a line and its LF, put into a buffer as the code puts them
pub row_put : (buf line : List ℕ) (at end : ℕ) → end ≡ at + length line → end < length buf → set (put_mid at (end - at) buf line) end 10 ≡ take at buf ++ (line ++ (10 ∷ drop (end + 1) buf))
row_put buf line at end is room =
    let wide : end - at ≡ length line = omega arith in
    let rest : List ℕ = drop (length line) (drop at buf) in
    let far : rest ≡ drop end buf = drop-drop (length line) at buf ∙ ap (λ n. drop n buf) (sym is) in
    let split : rest ≡ get_or buf end 0 ∷ drop (end + 1) buf = far ∙ drop_more buf end 0 room in
    let front : length (take at buf ++ line) ≡ end = omega (arith, length-append (take at buf) line, length-take at buf) in
    ap (λ k. set (put_mid at k buf line) end 10) wide
    ∙ ap (λ r. set (take at buf ++ (line ++ r)) end 10) split
    ∙ ap (λ x. set x end 10) (sym (append_assoc (take at buf) line (get_or buf end 0 ∷ drop (end + 1) buf)))
    ∙ set_at (take at buf ++ line) (get_or buf end 0) (drop (end + 1) buf) 10 end front
    ∙ append_assoc (take at buf) line (10 ∷ drop (end + 1) buf)

-- The laws of rows that the text source rests on. Assumes nothing.
use Rattle.std.proofs.Common.{rules, append-nil, ◌≡◌, ℕ, zero, Bool, min, ◌&&◌, ◌++◌, suc, ◌+◌, ◌-◌, ◌<◌, ◌≤◌, true, false, not, ◌||◌, eqb, ltb, leb, List, [], ◌∷◌, length, get_or, take, drop, Some, Ok, Err, sum_by, sym, refl, ap, ◌∙◌, subst, ◌⊎◌, ⊎_elim, add-zero, suc-add, add-one, one-add, arith}
use lib.Dec.{leb-suc-suc}
use Rattle.std.specs.List.{between, position_or_len, IsFirstMatchOrLen}
use Rattle.std.proofs.lemmas.List.Recursion.{is_position_or_len}
use Rattle.std.proofs.lemmas.List.{get_or_past, get_or_append_left, drop_at, nil_from_length, length-append, length-take-le, length-drop, length-map, drop-drop, drop_all, get_or-map, get_or-drop}
use Rattle.std.proofs.lemmas.List.Edits.{length-between}
use Rattle.std.proofs.lemmas.List.Sums.{position_or_len_is, prefix_len-le-length, sum_by_more}
use Rattle.std.proofs.lemmas.Bool.{cases_Bool, cases_lt, lt-ltb, le-ltb, lt-leb, le-leb, eqb-true, eq-eqb, ne_eqb, cond-true, cond-false, or_left, or_right}
use Rattle.lines.specs.Rows.{row, rows, row_len, is_whole, wrong, first_wrong, wrong_row, scanned, lines_in, start_of, end_of, part, spot, line_in}
use Rattle.lines.specs.declared.fault.Cause.TheVariants.{TextForm}
use Rattle.lines.specs.Faults.{placed}
use Rattle.lines.specs.Lines.{line_of, lacks}
use Rattle.lines.specs.TextLaws.{lawful}
use Rattle.lines.proofs.LineLaws.{lacks_past, lacks_not}

abbrev FirstRow : ℕ → List ℕ → Type 0
FirstRow b bs = rows (b ∷ bs) ≡ row (take (row_len (b ∷ bs)) (b ∷ bs)) (ltb (row_len (b ∷ bs)) (length (b ∷ bs))) ∷ rows (drop (row_len (b ∷ bs) + 1) (b ∷ bs))

at_end : (b : ℕ) (bs : List ℕ) → eqb b 10 ≡ true → FirstRow b bs
at_end b bs e = rw e (ap (λ v. row [] v ∷ rows bs) (sym (lt-ltb 0 (length (b ∷ bs)) (omega arith))))

further : (b c : ℕ) (bs : List ℕ) → eqb b 10 ≡ false → FirstRow c bs → FirstRow b (c ∷ bs)
further b c bs e h = rw (e, h) (simp (one-add, leb-suc-suc, suc-add, add-one) refl)

-- the first row of some bytes, and the rest after its LF
pub rows_first : (b : ℕ) (bs : List ℕ) → FirstRow b bs
rows_first b [] = ⊎_elim (at_end b []) (λ e. rw e) (cases_Bool (eqb b 10))
rows_first b (c ∷ bs) = ⊎_elim (at_end b (c ∷ bs)) (λ e. further b c bs e (rows_first c bs)) (cases_Bool (eqb b 10))

rows_of : (xs : List ℕ) → 0 < length xs → rows xs ≡ row (take (row_len xs) xs) (ltb (row_len xs) (length xs)) ∷ rows (drop (row_len xs + 1) xs)
rows_of [] h = absurd (omega arith)
rows_of (b ∷ bs) h = rows_first b bs

-- `not` of an order is the order the other way
pub not_ltb : (a b : ℕ) → not (ltb a b) ≡ leb b a
not_ltb a b = ⊎_elim (λ h. rw (lt-ltb a b h, lt-leb b a h)) (λ h. rw (le-ltb a b h, le-leb b a h)) (cases_lt a b)

ltb_shift : (a b k : ℕ) → k ≤ b → ltb a (b - k) ≡ ltb (k + a) b
ltb_shift a b k h = ⊎_elim (λ l. lt-ltb a (b - k) l ∙ sym (lt-ltb (k + a) b (omega arith))) (λ l. le-ltb a (b - k) l ∙ sym (le-ltb (k + a) b (omega arith))) (cases_lt a (b - k))

-- a row that begins at `at` and ends at `end`
module _ (bs : List ℕ) (at end : ℕ) (inside : at < length bs) (is : end ≡ at + row_len (drop at bs)) where
  pub end_within : end ≤ length bs
  end_within = let l = prefix_len-le-length (λ b. not (eqb b 10)) (drop at bs) in omega (arith, length-drop at bs)

  pub rows_at : rows (drop at bs) ≡ row (between at end bs) (ltb end (length bs)) ∷ rows (drop (end + 1) bs)
  rows_at =
      let some : 0 < length (drop at bs) = simp length-drop (omega arith) in
      let wide : row_len (drop at bs) ≡ end - at = omega arith in
      let test : ltb (row_len (drop at bs)) (length (drop at bs)) ≡ ltb end (length bs) = ap (λ k. ltb (row_len (drop at bs)) k) (length-drop at bs) ∙ ltb_shift (row_len (drop at bs)) (length bs) at (omega arith) ∙ ap (λ k. ltb k (length bs)) (sym is) in
      let rest : drop (row_len (drop at bs) + 1) (drop at bs) ≡ drop (end + 1) bs = drop-drop (row_len (drop at bs) + 1) at bs ∙ ap (λ k. drop k bs) (omega arith) in
      rows_of (drop at bs) some ∙ ap (λ k. row (take k (drop at bs)) (ltb (row_len (drop at bs)) (length (drop at bs))) ∷ rows (drop (row_len (drop at bs) + 1) (drop at bs))) wide ∙ ap (λ t. row (between at end bs) t ∷ rows (drop (row_len (drop at bs) + 1) (drop at bs))) test ∙ ap (λ r. row (between at end bs) (ltb end (length bs)) ∷ rows r) rest

  pub row_length : length (between at end bs) ≡ end - at
  row_length = length-between bs at end end_within

-- the place of the first LF, in the library's words
pub place_is : (bs : List ℕ) → row_len bs ≡ position_or_len (λ b. eqb b 10) bs
place_is bs = is_position_or_len row_len (λ b. eqb b 10) refl (λ b bs. ⊎_elim (λ e. rw e refl) (λ e. rw e (omega arith)) (cases_Bool (eqb b 10))) bs

-- `not` of an order is the order the other way, and `or` with true is true
not_leb : (i : ℕ) → (ltb 240 i || (false || false)) ≡ not (true && (true && leb i 240))
not_leb i = ⊎_elim (λ h. rw (lt-ltb 240 i h, lt-leb i 240 h) refl) (λ h. rw (le-ltb 240 i h, le-leb i 240 h) refl) (cases_lt 240 i)

or_true : (b : Bool) → (b || (false || true)) ≡ true
or_true b = elim b as (λ v. (v || (false || true)) ≡ true) [ true ↦ refl | false ↦ refl ]

-- a step of the library's `split_inclusive` at LF: from s it gives x, and leaves t
module _ (s x t : List ℕ) (i : ℕ) (is : s ≡ x ++ t) (long : length x ≡ min (i + 1) (length s)) (first : IsFirstMatchOrLen (λ b. eqb b 10) s i) (some : 0 < length s) where
  inside_s : i ≤ length s
  inside_s =
      ⊎_elim
      (λ past. let z : ◌≡◌ {A = Bool} true false = sym (ap (λ b. eqb b 10) (get_or_past s (length s) 10 (omega arith))) ∙ first.0 (length s) 10 (omega arith) past in absurd (search rules))
      (λ h. h)
      (cases_lt (length s) i)

  len_is : row_len s ≡ i
  len_is = place_is s ∙ position_or_len_is (λ b. eqb b 10) s i 0 inside_s (λ k h. first.0 k 0 (omega arith) h) (λ h. first.1 h 0)

  rest_is : drop (row_len s + 1) s ≡ t
  rest_is =
      ap (λ k. drop k s) (omega (arith, len_is)) ∙
      ⊎_elim
      (λ h. ap (drop (i + 1)) is ∙ ap (λ k. drop k (x ++ t)) (omega arith) ∙ drop_at x t (length x) refl)
      (λ h. let none : length t ≡ 0 = (let both = ap length is ∙ length-append x t in omega arith) in
      drop_all (i + 1) s (omega arith) ∙ sym (nil_from_length t none))
      (cases_lt i (length s))

  pub rows_step : rows s ≡ row (take i s) (ltb i (length s)) ∷ rows t
  rows_step =
      rows_of s some
      ∙ ap (λ r. row (take (row_len s) s) (ltb (row_len s) (length s)) ∷ rows r) rest_is
      ∙ ap (λ k. row (take k s) (ltb k (length s)) ∷ rows t) len_is

  pub wrong_step : (n : ℕ) → n ≤ 4000 → wrong n (row (take i s) (ltb i (length s))) ≡ not (is_whole x)
  wrong_step n few =
      let line : length (take i s) ≡ i = length-take-le i s inside_s in
      let most : eqb n 4001 ≡ false = ne_eqb n 4001 (λ h. absurd (omega arith)) in
      let some_x : ltb 0 (length x) ≡ true = lt-ltb 0 (length x) (omega arith) in
      ⊎_elim
      (λ h.
      let last : length x - 1 ≡ i = omega arith in
      let here : eqb (get_or x (length x - 1) 0) 10 ≡ true = ap (λ k. eqb (get_or x k 0) 10) last ∙ ap (λ v. eqb v 10) (sym (get_or_append_left x t 0 i (omega arith)) ∙ ap (λ l. get_or l i 0) (sym is)) ∙ first.1 h 0 in
      rw (line, most, some_x, here, lt-ltb i (length s) h, last) (not_leb i))
      (λ h.
      let same : x ≡ s = sym (is ∙ ap (λ l. x ++ l) (nil_from_length t (let both = ap length is ∙ length-append x t in omega arith)) ∙ append-nil x) in
      let here : eqb (get_or x (length x - 1) 0) 10 ≡ false = ap (λ l. eqb (get_or l (length l - 1) 0) 10) same ∙ first.0 (length s - 1) 0 (omega arith) (omega arith) in
      rw (line, most, some_x, here, le-ltb i (length s) h) (or_true (ltb 240 i)))
      (cases_lt i (length s))

  -- n rows are passed, and none of them was wrong
  module _ (bs : List ℕ) (n : ℕ) (few : n ≤ 4000) (sofar : first_wrong (n + 1) (rows s) ≡ wrong_row bs) where
    wrong_here : (4000 < n + 1) ⊎ (is_whole x ≡ false) → wrong (n + 1) (row (take i s) (ltb i (length s))) ≡ true
    wrong_here h =
        ⊎_elim
        (λ most. let last : eqb (n + 1) 4001 ≡ true = eq-eqb (n + 1) 4001 (omega arith) in or_right (ltb 240 (length (take i s))) (eqb (n + 1) 4001 || not (ltb i (length s))) (or_left (eqb (n + 1) 4001) (not (ltb i (length s))) last))
        (λ less. wrong_step (n + 1) less ∙ ap not (⊎_elim (λ most. absurd (omega (arith, most, less))) (λ no. no) h))
        (cases_lt 4000 (n + 1))

    pub found : (4000 < n + 1) ⊎ (is_whole x ≡ false) → scanned bs ≡ Err (placed TextForm (n + 1))
    found h =
        let place : wrong_row bs ≡ n + 1 = sym sofar ∙ ap (first_wrong (n + 1)) rows_step ∙ cond-true _ _ _ (wrong_here h) in
        let no : eqb (wrong_row bs) 0 ≡ false = ne_eqb (wrong_row bs) 0 (λ z. absurd (omega arith)) in
        cond-false _ _ _ no ∙ ap (λ p. Err (placed TextForm p)) place

    pub passed : n + 1 ≤ 4000 → is_whole x ≡ true → first_wrong (n + 1 + 1) (rows t) ≡ wrong_row bs
    passed less is_so = sym (cond-false _ _ _ (wrong_step (n + 1) less ∙ ap not is_so)) ∙ sym (ap (first_wrong (n + 1)) rows_step) ∙ sofar

  pub counted_step : length (rows s) ≡ suc (length (rows t))
  counted_step = ap length rows_step

-- every row is passed
pub done : (bs s : List ℕ) (n : ℕ) → length s ≡ 0 → first_wrong (n + 1) (rows s) ≡ wrong_row bs → n + length (rows s) ≡ length (rows bs) → scanned bs ≡ Ok n
done bs s n end sofar counted =
    let none : rows s ≡ [] = ap rows (nil_from_length s end) in
    let yes : eqb (wrong_row bs) 0 ≡ true = eq-eqb (wrong_row bs) 0 (sym sofar ∙ ap (first_wrong (n + 1)) none) in
    let long : length (rows s) ≡ 0 = ap length none in
    cond-true _ _ _ yes ∙ ap Ok (omega arith)

-- row n begins at `at`: that is the place of line n, and the rows from there on are those after the n - 1 first
abbrev pub Starts : List ℕ → ℕ → ℕ → Type 0
Starts bs n at = (at ≡ start_of (lines_in bs) n) × (rows (drop at bs) ≡ drop (n - 1) (rows bs))

-- where a row is left, a byte is left
pub byte_left : (bs : List ℕ) (at n : ℕ) → Starts bs n at → 1 ≤ n → n ≤ length (rows bs) → at < length bs
byte_left bs at n starts one more =
    ⊎_elim (λ h. h)
    (λ past.
    let none : length (rows (drop at bs)) ≡ 0 = ap (λ l. length (rows l)) (drop_all at bs past) in
    let some : length (rows (drop at bs)) ≡ length (rows bs) - (n - 1) = ap length starts.1 ∙ length-drop (n - 1) (rows bs) in
    absurd (omega arith))
    (cases_lt at (length bs))

pub starts_first : (bs : List ℕ) → Starts bs 1 0
starts_first bs = (refl, refl)

module _ (bs : List ℕ) (at end n : ℕ) (is : end ≡ at + row_len (drop at bs)) (one : 1 ≤ n) (more : n ≤ length (rows bs)) (starts : Starts bs n at) where
  inside : at < length bs
  inside = byte_left bs at n starts one more

  -- row n is the part from `at` to `end`
  pub line_is : line_of (lines_in bs) n ≡ between at end bs
  line_is =
      get_or-map (λ r. r.bytes) (rows bs) (n - 1) (row [] false) [] (omega arith)
      ∙ ap (λ i. (get_or (rows bs) i (row [] false)).bytes) (sym (add-zero (n - 1)))
      ∙ ap (λ r. r.bytes) (sym (get_or-drop (n - 1) (rows bs) 0 (row [] false)))
      ∙ ap (λ rs. (get_or rs 0 (row [] false)).bytes) (sym starts.1)
      ∙ ap (λ rs. (get_or rs 0 (row [] false)).bytes) (rows_at bs at end inside is)

  pub line_length : length (line_of (lines_in bs) n) ≡ end - at
  line_length = ap length line_is ∙ row_length bs at end inside is

  pub starts_more : Starts bs (n + 1) (end + 1)
  starts_more =
      let back : n + 1 - 1 ≡ n - 1 + 1 = omega arith in
      let long : length (lines_in bs) ≡ length (rows bs) = length-map (rows bs) (λ r. r.bytes) in
      let sums : start_of (lines_in bs) (n + 1) ≡ start_of (lines_in bs) n + (length (line_of (lines_in bs) n) + 1) = ap (λ i. sum_by (λ l. length l + 1) (take i (lines_in bs))) back ∙ sum_by_more (λ l. length l + 1) (lines_in bs) (n - 1) [] (omega arith) in (
        omega (arith, starts.0, line_length),
        ap (drop 1) (sym (rows_at bs at end inside is)) ∙ ap (drop 1) starts.1 ∙ drop-drop 1 (n - 1) (rows bs) ∙ ap (λ i. drop i (rows bs)) (sym back),
      )

-- the place of row n is where it begins
starts_next : (bs : List ℕ) (m : ℕ) → m ≤ length (rows bs) → Starts bs (m + 1) (start_of (lines_in bs) (m + 1))
starts_next bs zero h = starts_first bs
starts_next bs (suc m) h =
    let at : ℕ = start_of (lines_in bs) (m + 1) in
    let more : Starts bs (m + 1 + 1) (at + row_len (drop at bs) + 1) = starts_more bs at (at + row_len (drop at bs)) (m + 1) refl (omega arith) (omega arith) (starts_next bs m (omega arith)) in
    let same : m + 1 + 1 ≡ suc m + 1 = omega arith in
    subst (λ k. Starts bs k (start_of (lines_in bs) k)) same (refl, ap (λ a. rows (drop a bs)) (sym more.0) ∙ more.1)

pub starts_at : (bs : List ℕ) (at n : ℕ) → at ≡ start_of (lines_in bs) n → 1 ≤ n → n ≤ length (rows bs) → Starts bs n at
starts_at bs at n is one more =
    let same : n - 1 + 1 ≡ n = omega arith in
    let s : Starts bs n (start_of (lines_in bs) n) = subst (λ k. Starts bs k (start_of (lines_in bs) k)) same (starts_next bs (n - 1) (omega arith)) in
    (is, ap (λ a. rows (drop a bs)) is ∙ s.1)

-- one row further: the next begins behind its LF
module _ (bs : List ℕ) (at end n : ℕ) (here : at ≡ start_of (lines_in bs) n) (is : end ≡ at + row_len (drop at bs)) (one : 1 ≤ n) (more : n ≤ length (rows bs)) where
  pub next_start : end + 1 ≡ start_of (lines_in bs) (n + 1)
  next_start = (starts_more bs at end n is one more (starts_at bs at n here one more)).0

-- a line begins before the end of the bytes
pub start_within : (bs : List ℕ) (at n : ℕ) → at ≡ start_of (lines_in bs) n → 1 ≤ n → n ≤ length (rows bs) → at < length bs
start_within bs at n here one more = byte_left bs at n (starts_at bs at n here one more) one more

pub has_row : (bs : List ℕ) (n : ℕ) → 1 ≤ n → n ≤ length (rows bs) → lacks (lines_in bs) n ≡ false
has_row bs n one more = let long : length (lines_in bs) ≡ length (rows bs) = length-map (rows bs) (λ r. r.bytes) in lacks_not (lines_in bs) n one (omega arith)

pub no_row : (bs : List ℕ) (n : ℕ) → length (rows bs) < n → lacks (lines_in bs) n ≡ true
no_row bs n past = let long : length (lines_in bs) ≡ length (rows bs) = length-map (rows bs) (λ r. r.bytes) in lacks_past (lines_in bs) n (omega arith)

-- the part from `at` to `end` is line n
module _ (bs : List ℕ) (at end n : ℕ) (is : end ≡ at + row_len (drop at bs)) (one : 1 ≤ n) (more : n ≤ length (rows bs)) (starts : Starts bs n at) where
  pub part_is : Some (between at end bs) ≡ part bs n
  part_is =
      let far : end ≡ end_of (lines_in bs) n = omega (arith, starts.0, line_length bs at end n is one more starts) in
      ap (λ a. Some (between a end bs)) starts.0 ∙ ap (λ e. Some (between (start_of (lines_in bs) n) e bs)) far ∙ sym (cond-false _ _ _ (has_row bs n one more))

  pub spot_is : (p : ℕ × ℕ) → Some (p.0, at + p.1) ≡ spot p bs n
  spot_is p = ap (λ a. Some (p.0, a + p.1)) starts.0 ∙ sym (cond-false _ _ _ (has_row bs n one more))

  pub line_in_is : Some (between at end bs) ≡ line_in bs n
  line_in_is = ap Some (sym (line_is bs at end n is one more starts)) ∙ sym (cond-false _ _ _ (has_row bs n one more))

-- what an accepted scan says
pub scanned_ok : (bs : List ℕ) (n : ℕ) → Ok n ≡ scanned bs → (wrong_row bs ≡ 0) × (n ≡ length (rows bs))
scanned_ok bs n is =
    ⊎_elim
    (λ (e : eqb (wrong_row bs) 0 ≡ true). let same : Ok n ≡ Ok (length (rows bs)) = is ∙ cond-true _ _ _ e in (eqb-true (wrong_row bs) 0 e, cc))
    (λ (e : eqb (wrong_row bs) 0 ≡ false). let never : Ok n ≡ Err (placed TextForm (wrong_row bs)) = is ∙ cond-false _ _ _ e in let z : ◌≡◌ {A = ℕ} 0 1 = cc in absurd (omega arith))
    (cases_Bool (eqb (wrong_row bs) 0))

pub rows_few : (bs : List ℕ) → wrong_row bs ≡ 0 → length (rows bs) ≤ 4000
rows_few bs none = let long : length (lines_in bs) ≡ length (rows bs) = length-map (rows bs) (λ r. r.bytes) in omega (arith, (lawful bs none).0)

-- the same of a step of `split_inclusive`: its row begins at `at`, and the next one behind it
module _ (bs s x t : List ℕ) (at i n : ℕ) (there : s ≡ drop at bs) (is : s ≡ x ++ t) (long : length x ≡ min (i + 1) (length s)) (first : IsFirstMatchOrLen (λ b. eqb b 10) s i) (some : 0 < length s) where
  pub behind : t ≡ drop (at + length x) bs
  behind = sym (ap (λ k. drop k bs) (omega arith) ∙ sym (drop-drop (length x) at bs) ∙ ap (drop (length x)) (sym there ∙ is) ∙ drop_at x t (length x) refl)

  pub behind_start : at ≡ start_of (lines_in bs) (n + 1) → n + length (rows s) ≡ length (rows bs) → 0 < length t → at + length x ≡ start_of (lines_in bs) (n + 1 + 1)
  behind_start here left more =
      let both : length s ≡ length x + length t = ap length is ∙ length-append x t in
      let end : at + i ≡ at + row_len (drop at bs) = ap (λ k. at + k) (sym (len_is s x t i is long first some) ∙ ap row_len there) in
      let one : length (rows s) ≡ suc (length (rows t)) = counted_step s x t i is long first some in
      omega (arith, next_start bs at (at + i) (n + 1) here end (omega arith) (omega arith))

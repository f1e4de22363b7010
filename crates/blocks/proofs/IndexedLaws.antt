-- Laws of what an indexed sheet means. Assumes nothing.
use Rattle.std.proofs.Common.{◌≡◌, ℕ, zero, suc, ◌+◌, ◌-◌, ◌*◌, ◌/◌, ◌<◌, ◌≤◌, min, true, eqb, leb, List, [], ◌∷◌, ◌++◌, map, length, get_or, take, drop, set, sym, refl, ap, ◌∙◌, subst, ⊎_elim, add-one, arith}
use borrow.Rule.Slice.PartMut.{put_mid}
use Rattle.std.proofs.lemmas.Slice.{drop-put_mid, take-put_mid, take-put_mid_below, between-put_mid}
use Rattle.std.proofs.lemmas.List.{drop-drop, get_or-take, get_or-drop, take_at, drop_at, take_more, append-nil, length-append, length-map, length-take, length-drop, take-take, drop-take}
use Rattle.std.proofs.lemmas.List.Sums.{fold_push}
use Rattle.std.proofs.lemmas.Bool.{cond-true, eq-eqb, cases_lt, cases_eq, leb-true, and_parts}
use Rattle.std.specs.List.{fold}
use Rattle.std.specs.Simd.{first_chunks}
use Rattle.lines.specs.Lines.{Line, no_lf, is_line, total}
use Rattle.blocks.specs.Indexed.{word, length_at, span, ends, ends_in, line_at, walk, indexed_lines, word_of, index_from, IndexedLaid}
use Rattle.blocks.specs.IndexedLaws.{length-walk, indexed_counted}
use Rattle.blocks.specs.Laid.{Front, joined, clean, written, Turned}
use Rattle.blocks.proofs.LaidLaws.{front_more, front_kept, front_set, length-plain, joined_push, drop_put, overwritten, Grown, grown, turned, clean_same}
use Rattle.blocks.proofs.PartLaws.{get_or-firsts, take-firsts, firsts_set, total_push, part_same, length-mid}

pub ends_le : (x : List ℕ) (room n : ℕ) → ends x room n ≤ room
ends_le x room zero = omega arith
ends_le x room (suc n) = let h = ends_le x room n in omega arith

pub ends_same : (x x' : List ℕ) (room n : ℕ) → ((i : ℕ) → i < n → (p : ℕ) → length_at x' i p ≡ length_at x i p) → ends x' room n ≡ ends x room n
ends_same x x' room zero w = refl
ends_same x x' room (suc n) w =
    let h = ends_same x x' room n (λ i l. w i (omega arith)) in
    let k = w n (omega arith) (ends x room n) in
    rw (h, k) refl

pub length-line_at : (x t : List ℕ) (n : ℕ) → length (line_at x t n) ≡ span x (length t) n (ends x (length t) n)
length-line_at x t n = let h = ends_le x (length t) n in simp (length-map, length-take, length-drop) (omega arith)

pub total-walk : (x t : List ℕ) (n : ℕ) → total (walk x t n) ≡ ends x (length t) n
total-walk x t zero = refl
total-walk x t (suc n) =
    let h = total-walk x t n in
    let l = length-line_at x t n in
    total_push (walk x t n) (line_at x t n) ∙ rw (h, l) refl

pub walk_same : (x x' t t' : List ℕ) (n : ℕ) → ((i : ℕ) → i < n → (p : ℕ) → length_at x' i p ≡ length_at x i p) → length t' ≡ length t → take (ends x (length t) n) t' ≡ take (ends x (length t) n) t → walk x' t' n ≡ walk x t n
walk_same x x' t t' zero w l q = refl
walk_same x x' t t' (suc n) w l q =
    let p : ℕ = ends x (length t) n in
    let k : ℕ = span x (length t) n p in
    let q' = sym (take-take p (p + k) t' (omega arith)) ∙ (ap (λ s. take p s) q ∙ take-take p (p + k) t (omega arith)) in
    let h = walk_same x x' t t' n (λ i m. w i (omega arith)) l q' in
    let e = ends_same x x' (length t) n (λ i m. w i (omega arith)) in
    let v = w n (omega arith) p in
    let m : line_at x' t' n ≡ line_at x t n = rw (l, e, v) (ap (λ s. map clean s) (part_same t t' p k (p + k) (omega arith) q)) in
    ap (λ a. a ++ (line_at x' t' n ∷ [])) h ∙ ap (λ b. walk x t n ++ (b ∷ [])) m

-- one line more
pub walk_push : (x x' t t' l : List ℕ) (n : ℕ) → ((i : ℕ) → i < n → (p : ℕ) → length_at x' i p ≡ length_at x i p) → length_at x' n (ends x (length t) n) ≡ length l → length t' ≡ length t → take (ends x (length t) n) t' ≡ take (ends x (length t) n) t → take (length l) (drop (ends x (length t) n) t') ≡ l → length l ≤ 240 → no_lf l ≡ true → ends x (length t) n + length l ≤ length t → walk x' t' (n + 1) ≡ walk x t n ++ (l ∷ [])
walk_push x x' t t' l n w v lt q r s c f =
    let h = walk_same x x' t t' n w lt q in
    let e = ends_same x x' (length t) n w in
    let k : span x' (length t) n (ends x (length t) n) ≡ length l = rw v (omega arith) in
    let m : line_at x' t' n ≡ l = rw (lt, e, k, r) (clean_same l c) in
    rw add-one (ap (λ a. a ++ (line_at x' t' n ∷ [])) h ∙ ap (λ b. walk x t n ++ (b ∷ [])) m)

-- indexes whose first m bytes are the same, with entry i among them
entry_same : (x x' : List ℕ) (m i : ℕ) → 4 * i + 4 ≤ m → take m x' ≡ take m x → (p : ℕ) → length_at x' i p ≡ length_at x i p
entry_same x x' m i h q p =
    let at : (j : ℕ) → j < m → get_or x' j 0 ≡ get_or x j 0 = λ j l. sym (get_or-take m x' j 0 l) ∙ (ap (λ z. get_or z j 0) q ∙ get_or-take m x j 0 l) in
    let a = at (4 * i) (omega arith) in
    let b = at (4 * i + 1) (omega arith) in
    let c = at (4 * i + 2) (omega arith) in
    let d = at (4 * i + 2 + 1) (omega arith) in
    rw (a, b, c, d) refl

-- entry i of an index is an index of one line
entry_alone : (x : List ℕ) (i p : ℕ) → length_at (take 4 (drop (4 * i) x)) 0 p ≡ length_at x i p
entry_alone x i p =
    let at : (j : ℕ) → j < 4 → get_or (take 4 (drop (4 * i) x)) j 0 ≡ get_or x (4 * i + j) 0 = λ j l. get_or-take 4 (drop (4 * i) x) j 0 l ∙ get_or-drop (4 * i) x j 0 in
    let o : 4 * i + 2 + 1 ≡ 4 * i + 3 = omega arith in
    let z : 4 * i + 0 ≡ 4 * i = omega arith in
    let a = at 0 (omega arith) ∙ ap (λ j. get_or x j 0) z in
    let b = at 1 (omega arith) in
    let c = at 2 (omega arith) in
    let d = at 3 (omega arith) ∙ ap (λ j. get_or x j 0) (sym o) in
    rw (a, b, c, d) refl

-- the entries as they are cut off an index
get_or-entries : (k : ℕ) (x d : List ℕ) (i : ℕ) → i < k → get_or (first_chunks 4 k x) i d ≡ take 4 (drop (4 * i) x)
get_or-entries zero x d i h = absurd (omega arith)
get_or-entries (suc k) x d zero h = refl
get_or-entries (suc k) x d (suc i) h =
    let z : 4 * i + 4 ≡ 4 * suc i = omega arith in
    let o : 4 + 4 * i ≡ 4 * suc i = omega arith in
    get_or-entries k (drop 4 x) d i (omega arith) ∙ ap (take 4) (drop-drop (4 * i) 4 x ∙ ap (λ n. drop n x) o)

length-entries : (k : ℕ) (x : List ℕ) → length (first_chunks 4 k x) ≡ k
length-entries zero x = refl
length-entries (suc k) x = ap suc (length-entries k (drop 4 x))

pub span_entry : (k : ℕ) (x d : List ℕ) (room i p : ℕ) → i < k → span (get_or (first_chunks 4 k x) i d) room 0 p ≡ span x room i p
span_entry k x d room i p h = ap (λ e. span e room 0 p) (get_or-entries k x d i h) ∙ ap (λ n. min (min n 240) (room - p)) (entry_alone x i p)

pub ends_entries : (k : ℕ) (x : List ℕ) (room n : ℕ) → n ≤ k → ends_in (take n (first_chunks 4 k x)) room ≡ ends x room n
ends_entries k x room zero h = refl
ends_entries k x room (suc n) h =
    let l = length-entries k x in
    let e = ends_entries k x room n (omega arith) in
    let f : ℕ → List ℕ → ℕ = λ p e. p + span e room 0 p in
    ap (λ z. fold f 0 z) (ap (λ j. take j (first_chunks 4 k x)) (sym (add-one n)) ∙ take_more (first_chunks 4 k x) n [] (omega arith))
    ∙ fold_push f 0 (take n (first_chunks 4 k x)) (get_or (first_chunks 4 k x) n [])
    ∙ ap (λ p. p + span (get_or (first_chunks 4 k x) n []) room 0 p) e
    ∙ ap (λ j. ends x room n + j) (span_entry k x [] room n (ends x room n) (omega arith))

-- what the entry of a line gives back
entry_new : (p k : ℕ) → length_at (word_of p ++ word_of k) 0 p ≡ k
entry_new p k =
    let w : List ℕ = word_of p ++ word_of k in
    let start : word w 0 ≡ p = omega arith in
    let long : word w 2 ≡ k = omega arith in
    cond-true (eqb (word w 0) p) (word w 2) 0 (eq-eqb (word w 0) p start) ∙ long

-- the index of some lines: 4 bytes for each; with one line more, and with one changed
length-index : (p : ℕ) (ls : List Line) → length (index_from p ls) ≡ 4 * length ls
length-index p [] = refl
length-index p (l ∷ ls) = let h = length-index (p + length l) ls in omega arith

index_push : (p : ℕ) (ls : List Line) (l : Line) → index_from p (ls ++ (l ∷ [])) ≡ index_from p ls ++ (word_of (p + total ls) ++ word_of (length l))
index_push p [] l = let z : p ≡ p + 0 = omega arith in ap (λ q. word_of q ++ word_of (length l)) z
index_push p (x ∷ ls) l =
    let z : p + length x + total ls ≡ p + (length x + total ls) = omega arith in
    ap (λ r. word_of p ++ (word_of (length x) ++ r)) (index_push (p + length x) ls l ∙ ap (λ q. index_from (p + length x) ls ++ (word_of q ++ word_of (length l))) z)

index_set : (p : ℕ) (ls : List Line) (i : ℕ) (l : Line) → i < length ls → length l ≡ length (get_or ls i []) → index_from p (set ls i l) ≡ index_from p ls
index_set p [] i l h q = absurd (omega arith)
index_set p (x ∷ xs) zero l h q = ap (λ k. word_of p ++ (word_of k ++ index_from (p + k) xs)) q
index_set p (x ∷ xs) (suc i) l h q = ap (λ r. word_of p ++ (word_of (length x) ++ r)) (index_set (p + length x) xs i l (omega arith) q)

index_more : (s s' : List ℕ) (ls : List Line) (l : Line) (n p : ℕ) → length ls ≡ n → total ls ≡ p → take (4 * n + 4) s' ≡ take (4 * n) s ++ (word_of p ++ word_of (length l)) → Front (index_from 0 ls) s → Front (index_from 0 (ls ++ (l ∷ []))) s'
index_more s s' ls l n p c used front w =
    let f : List ℕ = index_from 0 ls in
    let four : List ℕ = word_of p ++ word_of (length l) in
    let start : 0 + total ls ≡ p = omega arith in
    let lf : length f ≡ 4 * n = length-index 0 ls ∙ ap (λ k. 4 * k) c in
    let lw : length (f ++ four) ≡ 4 * n + 4 = omega (arith, length-append f four) in
    subst (λ z. Front z s') (sym (index_push 0 ls l ∙ ap (λ q. f ++ (word_of q ++ word_of (length l))) start))
    (ap (λ k. take k s') lw ∙ front ∙ ap (λ z. z ++ four) (ap (λ k. take k s) (sym lf) ∙ w))

text_more : (t t' : List ℕ) (ls : List Line) (l : Line) (p : ℕ) → total ls ≡ p → take p t' ≡ take p t → take (length l) (drop p t') ≡ l → Front (joined [] ls) t → Front (joined [] (ls ++ (l ∷ []))) t'
text_more t t' ls l p used q r w =
    let j : List ℕ = joined [] ls in
    let lj : length j ≡ p = length-plain ls ∙ used in
    let high : Front l (drop (length j) t') = ap (λ k. take (length l) (drop k t')) lj ∙ r in
    subst (λ z. Front z t') (sym (joined_push [] ls l ∙ ap (λ z. j ++ z) (append-nil l))) (front_more j l t' (front_kept j t t' p q (omega arith) w) high)

-- one line more in a sheet: its index entry, and its bytes behind the text so far
pub stored : (s s' l : List ℕ) (limit n p : ℕ) → p ≡ ends s (length (drop (4 * limit) s)) n → length s' ≡ length s → take (4 * n + 4) s' ≡ take (4 * n) s ++ (word_of p ++ word_of (length l)) → take p (drop (4 * limit) s') ≡ take p (drop (4 * limit) s) → take (length l) (drop p (drop (4 * limit) s')) ≡ l → 4 * limit + p + length l ≤ length s → n < limit → is_line l ≡ true → Grown (indexed_lines limit) (IndexedLaid limit) s s' n l
stored s s' l limit n p e ls front q r f h g =
    let parts = and_parts (leb (length l) 240) (no_lf l) g in
    let le : length l ≤ 240 = leb-true (length l) 240 parts.0 in
    let m : ℕ = 4 * limit in
    let lt : length (drop m s') ≡ length (drop m s) = simp length-drop (omega arith) in
    let lf : length (take (4 * n) s) ≡ 4 * n = omega (arith, length-take (4 * n) s) in
    let low : take (4 * n) s' ≡ take (4 * n) s =
    sym (take-take (4 * n) (4 * n + 4) s' (omega arith)) ∙ ap (λ z. take (4 * n) z) front ∙ take_at (take (4 * n) s) (word_of p ++ word_of (length l)) (4 * n) lf in
    let new : take 4 (drop (4 * n) s') ≡ word_of p ++ word_of (length l) =
    sym (drop-take (4 * n) 4 s') ∙ ap (λ z. drop (4 * n) z) front ∙ drop_at (take (4 * n) s) (word_of p ++ word_of (length l)) (4 * n) lf in
    let fit : ends s (length (drop m s)) n + length l ≤ length (drop m s) = omega (arith, length-drop m s) in
    grown (indexed_lines limit) (IndexedLaid limit) s s' n l
    (walk_push s s' (drop m s) (drop m s') l n
    (λ i li z. entry_same s s' (4 * n) i (omega arith) low z)
    (ap (length_at s' n) (sym e) ∙ sym (entry_alone s' n p) ∙ ap (λ x. length_at x 0 p) new ∙ entry_new p (length l))
    lt (rw (← e) q) (rw (← e) r) le parts.1 fit)
    (λ w.
    let used : total (indexed_lines limit s n) ≡ p = total-walk s (drop m s) n ∙ sym e in (
      index_more s s' (indexed_lines limit s n) l n p (indexed_counted limit s n) used front w.0,
      text_more (drop m s) (drop m s') (indexed_lines limit s n) l p used q r w.1,
    ))

-- the bytes of a sheet after both writes
pub stored_in : (s y l l' four : List ℕ) (limit n p e : ℕ) → p ≡ ends s (length (drop (4 * limit) s)) n → four ≡ word_of p ++ word_of (length l) → y ≡ written s (4 * n) four → l' ≡ l → 4 * limit + p + length l ≡ e → e ≤ length s → n < limit → is_line l ≡ true → Grown (indexed_lines limit) (IndexedLaid limit) s (put_mid (4 * limit + p) (e - (4 * limit + p)) y l') n l
stored_in s y l l' four limit n p e at w wy el ends-at f h g =
    let m : ℕ = 4 * limit in
    let lw : length four ≡ 4 = ap length w in
    let s' : List ℕ = written y (m + p) l in
    let ly : length y ≡ length s = ap length wy ∙ length-mid (4 * n) (length four) s four refl (omega arith) in
    let ls : length s' ≡ length s = length-mid (m + p) (length l) y l refl (omega arith) ∙ ly in
    let low : take (m + p) s' ≡ take (m + p) y = take-put_mid_below (m + p) (length l) y l (m + p) (omega arith) (omega arith) in
    let dy : drop m y ≡ drop m s = ap (λ z. drop m z) wy ∙ drop-put_mid (4 * n) (length four) s four m (omega arith) (omega arith) refl in
    let q : take p (drop m s') ≡ take p (drop m s) = sym (drop-take m p s') ∙ (ap (λ z. drop m z) low ∙ (drop-take m p y ∙ ap (λ z. take p z) dy)) in
    let k : m + p + length l - (m + p) ≡ length l = omega arith in
    let r : take (length l) (drop p (drop m s')) ≡ l =
    ap (λ z. take (length l) z) (drop-drop p m s') ∙ (rw k at (between-put_mid (m + p) (length l) y l (m + p + length l) (omega arith) (omega arith))) in
    let front : take (4 * n + 4) s' ≡ take (4 * n) s ++ (word_of p ++ word_of (length l)) =
    sym (take-take (4 * n + 4) (m + p) s' (omega arith)) ∙ ap (λ z. take (4 * n + 4) z) low ∙ take-take (4 * n + 4) (m + p) y (omega arith)
    ∙ ap (λ z. take (4 * n + 4) z) wy ∙ take-put_mid (4 * n) (length four) s four (4 * n + 4) (omega arith) (omega arith) ∙ ap (λ z. take (4 * n) s ++ z) w in
    subst (λ z. Grown (indexed_lines limit) (IndexedLaid limit) s z n l) (sym (overwritten y l l' (m + p) e el ends-at)) (stored s s' l limit n p at ls front q r (omega arith) h g)

pub ends_mono : (x : List ℕ) (room i j : ℕ) → i ≤ j → ends x room i ≤ ends x room j
ends_mono x room i zero h = let e : i ≡ 0 = omega arith in rw e (omega arith)
ends_mono x room i (suc j) h =
    ⊎_elim
    (λ e. rw e (omega arith))
    (λ ne. let m = ends_mono x room i j (omega arith) in omega arith)
    (cases_eq i (suc j))

-- line i's bytes are overwritten, and its index entry stays
module _ (x x' t t' l : List ℕ) (n i : ℕ) (w : (k : ℕ) → k < n → (p : ℕ) → length_at x' k p ≡ length_at x k p) (lt : length t' ≡ length t) (h : i < n) (low : take (ends x (length t) i) t' ≡ take (ends x (length t) i) t) (mid : take (length l) (drop (ends x (length t) i) t') ≡ l) (high : drop (ends x (length t) i + length l) t' ≡ drop (ends x (length t) i + length l) t) (size : length l ≡ span x (length t) i (ends x (length t) i)) (c : no_lf l ≡ true) where
  kept_ends : (k : ℕ) → k ≤ n → ends x' (length t') k ≡ ends x (length t) k
  kept_ends k m = rw lt (ends_same x x' (length t) k (λ j o. w j (omega arith)))

  kept_span : (k : ℕ) → k < n → span x' (length t') k (ends x' (length t') k) ≡ span x (length t) k (ends x (length t) k)
  kept_span k m = rw (kept_ends k (omega arith), lt, w k m (ends x (length t) k)) refl

  line_new : line_at x' t' i ≡ l
  line_new = rw (kept_span i h, kept_ends i (omega arith), sym size, mid) (clean_same l c)

  line_old : (j : ℕ) → j < n → (j ≡ i → ⊥) → line_at x' t' j ≡ line_at x t j
  line_old j m ne =
      rw (kept_span j m, kept_ends j (omega arith))
      (ap (λ z. map clean z)
      (⊎_elim
      (λ (o : j < i). let e = ends_mono x (length t) (suc j) i (omega arith) in part_same t t' (ends x (length t) j) (span x (length t) j (ends x (length t) j)) (ends x (length t) i) (omega arith) low)
      (λ (o : i ≤ j).
      let e = ends_mono x (length t) (suc i) j (omega arith) in
      let g : ℕ = ends x (length t) i + length l in
      let f : g + (ends x (length t) j - g) ≡ ends x (length t) j = omega arith in
      ap (λ z. take (span x (length t) j (ends x (length t) j)) z)
      (ap (λ k. drop k t') (sym f) ∙ (sym (drop-drop (ends x (length t) j - g) g t') ∙ (ap (λ z. drop (ends x (length t) j - g) z) high ∙ (drop-drop (ends x (length t) j - g) g t ∙ ap (λ k. drop k t) f)))))
      (cases_lt j i)))

  pub walk_set : walk x' t' n ≡ set (walk x t n) i l
  walk_set = firsts_set (λ j. line_at x t j) (λ j. line_at x' t' j) n i l h line_new line_old

-- line i is overwritten by one of its length
pub indexed_turned : (s l : List ℕ) (limit n i p : ℕ) → p ≡ ends s (length (drop (4 * limit) s)) i → length l ≡ span s (length (drop (4 * limit) s)) i p → n ≤ limit → 4 * limit ≤ length s → i < n → is_line l ≡ true → Turned indexed_lines IndexedLaid limit s n i (4 * limit + p) l
indexed_turned s l limit n i p e lk nl big h g =
    let parts = and_parts (leb (length l) 240) (no_lf l) g in
    let m : ℕ = 4 * limit in
    let k : ℕ = length l in
    let t : List ℕ = drop m s in
    let lt : length t ≡ length s - m = length-drop m s in
    let pr = ends_le s (length t) i in
    let s' : List ℕ = written s (m + p) l in
    let fit : m + p + k ≤ length s = omega arith in
    let low : take (m + p) s' ≡ take (m + p) s = take-put_mid_below (m + p) k s l (m + p) (omega arith) (omega arith) in
    let ls : length s' ≡ length s = length-mid (m + p) k s l refl fit in
    let lt' : length (drop m s') ≡ length (drop m s) = simp length-drop (omega arith) in
    let q : take p (drop m s') ≡ take p (drop m s) = sym (drop-take m p s') ∙ (ap (λ z. drop m z) low ∙ drop-take m p s) in
    let b : take (m + p + k - (m + p)) (drop (m + p) s') ≡ l = between-put_mid (m + p) k s l (m + p + k) (omega arith) (omega arith) in
    let jl : m + p + k - (m + p) ≡ length l = omega arith in
    let r : take (length l) (drop p (drop m s')) ≡ l = ap (λ z. take (length l) z) (drop-drop p m s') ∙ (ap (λ z. take z (drop (m + p) s')) (sym jl) ∙ b) in
    let o : m + (p + length l) ≡ m + p + k = omega arith in
    let u : drop (p + length l) (drop m s') ≡ drop (p + length l) (drop m s) =
    drop-drop (p + length l) m s' ∙ (ap (λ z. drop z s') o ∙ (drop-put_mid (m + p) k s l (m + p + k) (omega arith) (omega arith) refl ∙ (ap (λ z. drop z s) (sym o) ∙ sym (drop-drop (p + length l) m s)))) in
    let wy : (v : ℕ) → v < n → (p : ℕ) → length_at s' v p ≡ length_at s v p = λ v lv. entry_same s s' (m + p) v (omega arith) low in
    let size : length l ≡ span s (length t) i (ends s (length t) i) = lk ∙ ap (λ z. span s (length t) i z) e in
    turned indexed_lines IndexedLaid limit s n i (m + p) l
    (walk_set s s' t (drop m s') l n i wy lt' h (rw (← e) q) (rw (← e) r) (rw (← e) u) size parts.1)
    (λ w.
    let c : length (walk s t n) ≡ n = length-walk s t n in
    let old : length l ≡ length (get_or (walk s t n) i []) = size ∙ sym (ap length (get_or-firsts (λ v. line_at s t v) n i h) ∙ length-line_at s t i) in
    let front : length (joined [] (take i (walk s t n))) ≡ p =
    ap (λ ls. length (joined [] ls)) (take-firsts (λ v. line_at s t v) n i (omega arith)) ∙ length-plain (walk s t i) ∙ total-walk s t i ∙ sym e in
    let li = length-index 0 (walk s t n) in
    let text : drop m s' ≡ put_mid p (length l) t l = drop_put m p k s l big in (
      subst (λ z. Front z s') (sym (index_set 0 (walk s t n) i l (omega arith) old)) (front_kept (index_from 0 (walk s t n)) s s' (m + p) low (omega arith) w.0),
      subst (λ z. Front (joined [] (set (walk s t n) i l)) z) (sym text) (front_set [] t l (walk s t n) i p w.1 (omega arith) old (sym front)),
    ))

-- line i as the part where it lies
pub indexed_part : (s : List ℕ) (limit n i p k : ℕ) → p ≡ ends s (length (drop (4 * limit) s)) i → k ≡ span s (length (drop (4 * limit) s)) i p → i < n → map clean (take k (drop (4 * limit + p) s)) ≡ get_or (indexed_lines limit s n) i []
indexed_part s limit n i p k e f h =
    let t : List ℕ = drop (4 * limit) s in
    sym (get_or-firsts (λ v. line_at s t v) n i h
    ∙ ap (map clean) (ap (λ q. take (span s (length t) i q) (drop q t)) (sym e) ∙ ap (λ j. take j (drop p t)) (sym f) ∙ ap (take k) (drop-drop p (4 * limit) s)))

-- where line i lies, as the code finds it by the entries that it cuts off the sheet
pub placed : (s : List ℕ) (es : List (List ℕ)) (limit room i p k : ℕ) → length s ≡ 4 * limit + room → es ≡ first_chunks 4 (length s / 4) s → i < limit → p ≡ ends_in (take i es) room → k ≡ span (get_or es i []) room 0 p → (p ≡ ends s (length (drop (4 * limit) s)) i) × (k ≡ span s (length (drop (4 * limit) s)) i p)
placed s es limit room i p k size cut h e f =
    let n : ℕ = length s / 4 in
    let long : length (drop (4 * limit) s) ≡ room = length-drop (4 * limit) s ∙ omega arith in (
      e ∙ ap (λ x. ends_in (take i x) room) cut ∙ ends_entries n s room i (omega arith) ∙ ap (λ r. ends s r i) (sym long),
      f ∙ ap (λ x. span (get_or x i []) room 0 p) cut ∙ span_entry n s [] room i p (omega arith) ∙ ap (λ r. span s r i p) (sym long),
    )

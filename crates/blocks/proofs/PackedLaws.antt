-- Laws of what a packed sheet means. Assumes nothing.
use Rattle.std.proofs.Common.{◌≡◌, ℕ, zero, suc, ◌+◌, ◌-◌, ◌<◌, ◌≤◌, min, true, false, not, eqb, leb, ◌⊎◌, List, [], ◌∷◌, ◌++◌, map, length, get_or, take, drop, set, sym, refl, ap, ◌∙◌, subst, ⊎_elim, suc-add, zero-add, add-one, arith}
use borrow.Rule.Slice.PartMut.{put_mid}
use Rattle.std.proofs.lemmas.List.{append_assoc, length-take, length-drop, length-set, take-take, take_all, drop_more, drop-set-add, set_at, take-set-le, drop_at, take_at, take-append-drop, drop-drop, drop_min, take_rest, nil_from_length, set-get_or}
use Rattle.std.proofs.Math.Seq.{drop-append-add}
use Rattle.std.proofs.lemmas.Slice.{take-put_mid_below}
use Rattle.std.proofs.lemmas.Bool.{and_parts, not-true, leb-true, cases_lt, cases_eq, cases_order, cases_Bool}
use Rattle.lines.specs.Lines.{no_lf, is_line, total}
use Rattle.blocks.specs.Packed.{upto, reach, stops, packed_line, packed_lines, PackedLaid}
use Rattle.blocks.specs.PackedLaws.{upto_le, upto_stop, upto_go, no_lf-upto, packed_counted}
use Rattle.blocks.specs.Laid.{Front, joined, clean, written, Turned}
use Rattle.blocks.proofs.LaidLaws.{front_of, front_more, front_kept, front_set, length-ended, joined_push, Grown, grown, turned, clean_same}
use Rattle.blocks.proofs.PartLaws.{get_or-firsts, take-firsts, firsts_set, part_same, total_push, length-mid}

pub reach_le : (s : List ℕ) (p : ℕ) → reach s p ≤ length s - p
reach_le s p = let h = upto_le (take 240 (drop p s)) in omega (arith, length-take 240 (drop p s), length-drop p s)

pub reach_rest : (s : List ℕ) (p a : ℕ) → a ≡ min p (length s) → upto (take 240 (take (length s - a) (drop a s))) ≡ reach s p
reach_rest s p a e = ap (λ z. upto (take 240 z)) (take_rest s a ∙ ap (λ q. drop q s) e ∙ drop_min p s)

pub length-packed_line : (s : List ℕ) (n : ℕ) → length (packed_line s n) ≡ reach s (stops s n)
length-packed_line s n = let h = reach_le s (stops s n) in omega (arith, length-take (reach s (stops s n)) (drop (stops s n) s), length-drop (stops s n) s)

pub total_packed : (s : List ℕ) (n : ℕ) → total (packed_lines s n) + n ≡ stops s n
total_packed s zero = refl
total_packed s (suc n) = let h = total_packed s n in let l = length-packed_line s n in omega (arith, total_push (packed_lines s n) (packed_line s n))

-- the bytes before the first LF are settled by those and one more
pub upto_same : (xs ys : List ℕ) → length xs ≡ length ys → take (suc (upto xs)) xs ≡ take (suc (upto xs)) ys → upto ys ≡ upto xs
upto_same [] [] l h = refl
upto_same [] (y ∷ ys) l h = absurd (omega arith)
upto_same (x ∷ xs) [] l h = absurd (omega arith)
upto_same (x ∷ xs) (y ∷ ys) l h =
    let f : x ∷ take (upto (x ∷ xs)) xs ≡ y ∷ take (upto (x ∷ xs)) ys = h in
    let e : x ≡ y = cc in
    let t : take (upto (x ∷ xs)) xs ≡ take (upto (x ∷ xs)) ys = cc in
    ⊎_elim
    (λ (v : eqb x 10 ≡ true). upto_stop y ys (rw (← e) v) ∙ sym (upto_stop x xs v))
    (λ (v : eqb x 10 ≡ false).
    let u = upto_go x xs v in
    let m : length xs ≡ length ys = omega arith in
    upto_go y ys (rw (← e) v) ∙ (ap suc (upto_same xs ys m (rw u at t)) ∙ sym u))
    (cases_Bool (eqb x 10))

front_same : (a b : List ℕ) (k m : ℕ) → take k a ≡ take k b → take k (take m a) ≡ take k (take m b)
front_same a b k m h =
    ⊎_elim
    (λ (o : k < m). take-take k m a (omega arith) ∙ (h ∙ sym (take-take k m b (omega arith))))
    (λ (o : m ≤ k).
    let la : length (take m a) ≤ k = omega (arith, length-take m a) in
    let lb : length (take m b) ≤ k = omega (arith, length-take m b) in
    take_all k (take m a) la ∙ (sym (take-take m k a o) ∙ (ap (λ z. take m z) h ∙ (take-take m k b o ∙ sym (take_all k (take m b) lb)))))
    (cases_lt k m)

pub reach_same : (s s' : List ℕ) (p : ℕ) → length s' ≡ length s → take (p + reach s p + 1) s' ≡ take (p + reach s p + 1) s → reach s' p ≡ reach s p
reach_same s s' p l h =
    let k : ℕ = reach s p in
    let q : take (suc k) (drop p s') ≡ take (suc k) (drop p s) = part_same s s' p (suc k) (p + k + 1) (omega arith) h in
    let m : length (take 240 (drop p s)) ≡ length (take 240 (drop p s')) = omega (arith, length-take 240 (drop p s), length-take 240 (drop p s'), length-drop p s, length-drop p s') in
    upto_same (take 240 (drop p s)) (take 240 (drop p s')) m (sym (front_same (drop p s') (drop p s) (suc k) 240 q))

take_less : (s s' : List ℕ) (a b : ℕ) → a ≤ b → take b s' ≡ take b s → take a s' ≡ take a s
take_less s s' a b h q = sym (take-take a b s' h) ∙ (ap (λ z. take a z) q ∙ take-take a b s h)

pub stops_same : (s s' : List ℕ) (n : ℕ) → length s' ≡ length s → take (stops s n) s' ≡ take (stops s n) s → stops s' n ≡ stops s n
stops_same s s' zero l h = refl
stops_same s s' (suc n) l h =
    let e = stops_same s s' n l (take_less s s' (stops s n) (stops s (suc n)) (omega arith) h) in
    let r = reach_same s s' (stops s n) l h in
    rw (e, r) refl

pub packed_same : (s s' : List ℕ) (n : ℕ) → length s' ≡ length s → take (stops s n) s' ≡ take (stops s n) s → packed_lines s' n ≡ packed_lines s n
packed_same s s' zero l h = refl
packed_same s s' (suc n) l h =
    let q = take_less s s' (stops s n) (stops s (suc n)) (omega arith) h in
    let e = stops_same s s' n l q in
    let r = reach_same s s' (stops s n) l h in
    let m : packed_line s' n ≡ packed_line s n = rw (e, r) (part_same s s' (stops s n) (reach s (stops s n)) (stops s n + reach s (stops s n) + 1) (omega arith) h) in
    ap (λ a. a ++ (packed_line s' n ∷ [])) (packed_same s s' n l q) ∙ ap (λ b. packed_lines s n ++ (b ∷ [])) m

-- a front without LF counts whole
pub upto_front : (l r : List ℕ) (m : ℕ) → no_lf l ≡ true → length l ≤ m → upto (take m (l ++ r)) ≡ length l + upto (take (m - length l) r)
upto_front [] r m c h = let z : m - 0 ≡ m = omega arith in let y : ℕ = upto (take m r) in sym (ap (λ k. 0 + upto (take k r)) z ∙ zero-add y)
upto_front (b ∷ bs) r zero c h = absurd (omega arith)
upto_front (b ∷ bs) r (suc m) c h =
    let p = and_parts (not (eqb b 10)) (no_lf bs) c in
    let e = not-true (eqb b 10) p.0 in
    let ih = upto_front bs r m p.1 (omega arith) in
    let z : suc m - suc (length bs) ≡ m - length bs = omega arith in
    upto_go b (take m (bs ++ r)) e ∙ ap suc ih ∙ sym (ap (λ k. suc (length bs) + upto (take k r)) z ∙ suc-add (length bs) (upto (take (m - length bs) r)))

lf_first : (m : ℕ) (r : List ℕ) → upto (take m (10 ∷ r)) ≡ 0
lf_first zero r = refl
lf_first (suc m) r = refl

upto_line : (l r : List ℕ) (m : ℕ) → no_lf l ≡ true → length l ≤ m → upto (take m (l ++ (10 ∷ r))) ≡ length l
upto_line l r m c h = upto_front l (10 ∷ r) m c h ∙ ap (λ k. length l + k) (lf_first (m - length l) r) ∙ omega arith

-- one line more
pub packed_push : (s s' l r : List ℕ) (n : ℕ) → length s' ≡ length s → take (stops s n) s' ≡ take (stops s n) s → drop (stops s n) s' ≡ l ++ (10 ∷ r) → is_line l ≡ true → packed_lines s' (n + 1) ≡ packed_lines s n ++ (l ∷ [])
packed_push s s' l r n ls q d g =
    let parts = and_parts (leb (length l) 240) (no_lf l) g in
    let le : length l ≤ 240 = leb-true (length l) 240 parts.0 in
    let e = stops_same s s' n ls q in
    let k : reach s' (stops s n) ≡ length l = rw d (upto_line l r 240 parts.1 le) in
    let m : packed_line s' n ≡ l = rw (e, k, d) (take_at l (10 ∷ r) (length l) refl) in
    rw add-one (ap (λ a. a ++ (packed_line s' n ∷ [])) (packed_same s s' n ls q) ∙ ap (λ b. packed_lines s n ++ (b ∷ [])) m)

laid_push : (s s' l r : List ℕ) (n : ℕ) → take (stops s n) s' ≡ take (stops s n) s → drop (stops s n) s' ≡ l ++ (10 ∷ r) → PackedLaid s (packed_lines s n) → PackedLaid s' (packed_lines s n ++ (l ∷ []))
laid_push s s' l r n q d h =
    let j : List ℕ = joined (10 ∷ []) (packed_lines s n) in
    let lj : length j ≡ stops s n = omega (arith, length-ended (packed_lines s n), packed_counted s n, total_packed s n) in
    let low : Front j s' = front_kept j s s' (stops s n) q (omega arith) h in
    let high : Front (l ++ (10 ∷ [])) (drop (length j) s') = front_of (l ++ (10 ∷ [])) r (drop (length j) s') (ap (λ k. drop k s') lj ∙ d ∙ sym (append_assoc l (10 ∷ []) r)) in
    subst (λ z. Front z s') (sym (joined_push (10 ∷ []) (packed_lines s n) l)) (front_more j (l ++ (10 ∷ [])) s' low high)

pub stored : (s l l' : List ℕ) (n p : ℕ) → p ≡ stops s n → l' ≡ l → p + length l < length s → is_line l ≡ true → Grown packed_lines PackedLaid s (set (put_mid p (p + length l - p) s l') (p + length l) 10) n l
stored s l l' n p e el f g =
    let k : p + length l - p ≡ length l = omega arith in
    let y : List ℕ = put_mid p (length l) s l in
    let ly : length y ≡ length s = length-mid p (length l) s l refl (omega arith) in
    let s' : List ℕ = set y (p + length l) 10 in
    let ls : length s' ≡ length s = length-set y (p + length l) 10 ∙ ly in
    let q : take p s' ≡ take p s = take-set-le p y (p + length l) 10 (omega arith) ∙ take-put_mid_below p (length l) s l p (omega arith) (omega arith) in
    let lp : length (take p s) ≡ p = omega (arith, length-take p s) in
    let rest : List ℕ = drop (length l) (drop p s) in
    let dy : drop p y ≡ l ++ rest = drop_at (take p s) (l ++ rest) p lp in
    let lr : 0 < length rest = omega (arith, length-drop (length l) (drop p s), length-drop p s) in
    let er : rest ≡ get_or rest 0 0 ∷ drop 1 rest = drop_more rest 0 0 lr in
    let d : drop p s' ≡ l ++ (10 ∷ drop 1 rest) = drop-set-add p y (length l) 10 ∙ (ap (λ z. set z (length l) 10) (dy ∙ ap (λ z. l ++ z) er) ∙ set_at l (get_or rest 0 0) (drop 1 rest) 10 (length l) refl) in
    let qn : take (stops s n) s' ≡ take (stops s n) s = rw (← e) q in
    let dn : drop (stops s n) s' ≡ l ++ (10 ∷ drop 1 rest) = rw (← e) d in
    rw (el, k) (grown packed_lines PackedLaid s s' n l (packed_push s s' l (drop 1 rest) n ls qn dn g) (laid_push s s' l (drop 1 rest) n qn dn))

stops_mono : (s : List ℕ) (i j : ℕ) → i ≤ j → stops s i ≤ stops s j
stops_mono s i zero h = let e : i ≡ 0 = omega arith in rw e (omega arith)
stops_mono s i (suc j) h =
    ⊎_elim
    (λ e. rw e (omega arith))
    (λ ne. let m = stops_mono s i j (omega arith) in omega arith)
    (cases_eq i (suc j))

drop_past : (l r : List ℕ) (k : ℕ) → length l ≤ k → drop k (l ++ r) ≡ drop (k - length l) r
drop_past l r k h = let e : length l + (k - length l) ≡ k = omega arith in ap (λ z. drop z (l ++ r)) (sym e) ∙ drop-append-add l r (k - length l)

-- line i's bytes are changed to those of l, which are as many
module _ (s s' l : List ℕ) (i : ℕ) (ls : length s' ≡ length s) (size : length l ≡ reach s (stops s i)) (inside : stops s i ≤ length s) (low : take (stops s i) s' ≡ take (stops s i) s) (at : drop (stops s i) s' ≡ l ++ drop (stops s i + length l) s) (g : is_line l ≡ true) where
  parts : (leb (length l) 240 ≡ true) × (no_lf l ≡ true)
  parts = and_parts (leb (length l) 240) (no_lf l) g

  high : (q : ℕ) → stops s i + length l ≤ q → drop q s' ≡ drop q s
  high q h =
      let p : ℕ = stops s i in
      let k : ℕ = q - p in
      let e : p + k ≡ q = omega arith in
      let f : p + length l + (k - length l) ≡ q = omega arith in
      ap (λ z. drop z s') (sym e) ∙ sym (drop-drop k p s') ∙ ap (drop k) at
      ∙ drop_past l (drop (p + length l) s) k (omega arith)
      ∙ drop-drop (k - length l) (p + length l) s ∙ ap (λ z. drop z s) f

  -- the old line and what stands behind it
  split : drop (stops s i) s ≡ packed_line s i ++ drop (stops s i + length l) s
  split =
      let t : List ℕ = drop (stops s i) s in
      sym (take-append-drop (reach s (stops s i)) t) ∙ ap (λ z. packed_line s i ++ z) (drop-drop (reach s (stops s i)) (stops s i) s ∙ ap (λ k. drop (stops s i + k) s) (sym size))

  here : reach s' (stops s i) ≡ reach s (stops s i)
  here =
      let r : List ℕ = drop (stops s i + length l) s in
      let le : length l ≤ 240 = leb-true (length l) 240 parts.0 in
      let lo : length (packed_line s i) ≡ length l = length-packed_line s i ∙ sym size in
      let co : no_lf (packed_line s i) ≡ true = no_lf-upto 240 (drop (stops s i) s) in
      let old : reach s (stops s i) ≡ length (packed_line s i) + upto (take (240 - length (packed_line s i)) r) = ap (λ z. upto (take 240 z)) split ∙ upto_front (packed_line s i) r 240 co (omega arith) in
      let new : reach s' (stops s i) ≡ length l + upto (take (240 - length l) r) = ap (λ z. upto (take 240 z)) at ∙ upto_front l r 240 parts.1 le in
      new ∙ ap (λ k. k + upto (take (240 - k) r)) (sym lo) ∙ sym old

  reach_kept : (j : ℕ) → reach s' (stops s j) ≡ reach s (stops s j)
  reach_kept j =
      ⊎_elim
      (λ (e : j ≡ i). rw e here)
      (λ (o : (j < i) ⊎ (i < j)). ⊎_elim
      (λ (o : j < i). let m = stops_mono s (suc j) i (omega arith) in reach_same s s' (stops s j) ls (take_less s s' (stops s (suc j)) (stops s i) m low))
      (λ (o : i < j). let m = stops_mono s (suc i) j (omega arith) in ap (λ z. upto (take 240 z)) (high (stops s j) (omega arith)))
      o)
      (cases_order j i)

  stops_kept : (j : ℕ) → stops s' j ≡ stops s j
  stops_kept zero = refl
  stops_kept (suc j) = let e = stops_kept j in ap (λ p. p + reach s' p + 1) e ∙ ap (λ k. stops s j + k + 1) (reach_kept j)

  line_kept : (j : ℕ) → packed_line s' j ≡ take (reach s (stops s j)) (drop (stops s j) s')
  line_kept j = ap (λ p. take (reach s' p) (drop p s')) (stops_kept j) ∙ ap (λ k. take k (drop (stops s j) s')) (reach_kept j)

  line_new : packed_line s' i ≡ l
  line_new = line_kept i ∙ ap (λ z. take (reach s (stops s i)) z) at ∙ take_at l (drop (stops s i + length l) s) (reach s (stops s i)) size

  line_old : (j : ℕ) → (j ≡ i → ⊥) → packed_line s' j ≡ packed_line s j
  line_old j ne =
      line_kept j ∙
      ⊎_elim
      (λ (o : j < i). let m = stops_mono s (suc j) i (omega arith) in part_same s s' (stops s j) (reach s (stops s j)) (stops s i) (omega arith) low)
      (λ (o : i ≤ j). let m = stops_mono s (suc i) j (omega (arith, ne)) in ap (λ z. take (reach s (stops s j)) z) (high (stops s j) (omega arith)))
      (cases_lt j i)

  pub packed_set : (n : ℕ) → i < n → packed_lines s' n ≡ set (packed_lines s n) i l
  packed_set n h = firsts_set (λ j. packed_line s j) (λ j. packed_line s' j) n i l h line_new (λ j o ne. line_old j ne)

laid_set : (s l : List ℕ) (n i p : ℕ) → p ≡ stops s i → i < n → length l ≡ reach s (stops s i) → PackedLaid s (packed_lines s n) → PackedLaid (put_mid p (length l) s l) (set (packed_lines s n) i l)
laid_set s l n i p e h size w =
    let c = packed_counted s n in
    let old : length (get_or (packed_lines s n) i []) ≡ reach s (stops s i) = ap length (get_or-firsts (λ j. packed_line s j) n i h) ∙ length-packed_line s i in
    let front : length (joined (10 ∷ []) (take i (packed_lines s n))) ≡ stops s i =
    ap (λ ls. length (joined (10 ∷ []) ls)) (take-firsts (λ j. packed_line s j) n i (omega arith)) ∙ omega (arith, length-ended (packed_lines s i), packed_counted s i, total_packed s i) in
    front_set (10 ∷ []) s l (packed_lines s n) i p w (omega arith) (size ∙ sym old) (e ∙ sym front)

-- a line without bytes in the place of one
unchanged : (s l : List ℕ) (n i : ℕ) → i < n → length l ≡ 0 → reach s (stops s i) ≡ 0 → packed_lines s n ≡ set (packed_lines s n) i l
unchanged s l n i h z e =
    let a : l ≡ [] = nil_from_length l z in
    let b : packed_line s i ≡ [] = ap (λ k. take k (drop (stops s i) s)) e in
    sym (ap (λ x. set (packed_lines s n) i x) (a ∙ sym b ∙ sym (get_or-firsts (λ j. packed_line s j) n i h)) ∙ set-get_or (packed_lines s n) i [])

-- line i is overwritten by one of its length; it lies behind the sheet where the sheet has no such line
packed_turned_at : (L : ℕ) (s l : List ℕ) (n i : ℕ) → length l ≡ reach s (stops s i) → i < n → is_line l ≡ true → Turned (λ _ s n. packed_lines s n) (λ _ s ls. PackedLaid s ls) L s n i (min (stops s i) (length s)) l
packed_turned_at L s l n i size h g =
    let p : ℕ = stops s i in
    let r = reach_le s p in
    ⊎_elim
    (λ (o : length s < p).
    let z : length l ≡ 0 = omega arith in
    let a : min p (length s) ≡ length s = omega arith in
    let same : written s (length s) l ≡ s = let x : l ≡ [] = nil_from_length l z in rw x (take-append-drop (length s) s) in
    let e = unchanged s l n i h z (omega arith) in
    rw a (turned (λ _ s n. packed_lines s n) (λ _ s ls. PackedLaid s ls) L s n i (length s) l (ap (λ x. packed_lines x n) same ∙ e) (λ w. subst (λ x. PackedLaid x (set (packed_lines s n) i l)) (sym same) (subst (PackedLaid s) e w))))
    (λ (o : p ≤ length s).
    let a : min p (length s) ≡ p = omega arith in
    let s' : List ℕ = written s p l in
    let fit : p + length l ≤ length s = omega arith in
    let lp : length (take p s) ≡ p = omega (arith, length-take p s) in
    let low : take p s' ≡ take p s = take-put_mid_below p (length l) s l p (omega arith) (omega arith) in
    let ls : length s' ≡ length s = length-mid p (length l) s l refl fit in
    let at : drop p s' ≡ l ++ drop (p + length l) s = drop_at (take p s) (l ++ drop (length l) (drop p s)) p lp ∙ ap (λ z. l ++ z) (drop-drop (length l) p s) in
    rw a (turned (λ _ s n. packed_lines s n) (λ _ s ls. PackedLaid s ls) L s n i p l (packed_set s s' l i ls size o low at g n h) (λ w. laid_set s l n i p refl h size w)))
    (cases_lt (length s) p)

-- line i, which lies at a with k bytes
module _ (s : List ℕ) (n i p a k : ℕ) (is : p ≡ stops s i) (at : a ≡ min p (length s)) (size : k ≡ upto (take 240 (take (length s - a) (drop a s)))) (h : i < n) where
  length_is : k ≡ reach s (stops s i)
  length_is = size ∙ reach_rest s p a at ∙ ap (reach s) is

  place_is : a ≡ min (stops s i) (length s)
  place_is = at ∙ ap (λ q. min q (length s)) is

  pub packed_part : map clean (take k (drop a s)) ≡ get_or (packed_lines s n) i []
  packed_part =
      ap (λ q. map clean (take q (drop a s))) length_is ∙ ap (λ q. map clean (take (reach s (stops s i)) (drop q s))) place_is
      ∙ ap (λ z. map clean (take (reach s (stops s i)) z)) (drop_min (stops s i) s) ∙ clean_same (packed_line s i) (no_lf-upto 240 (drop (stops s i) s))
      ∙ sym (get_or-firsts (λ j. packed_line s j) n i h)

  pub packed_turned : (L : ℕ) (l : List ℕ) → length l ≡ k → is_line l ≡ true → Turned (λ _ s n. packed_lines s n) (λ _ s ls. PackedLaid s ls) L s n i a l
  packed_turned L l e g = rw place_is (packed_turned_at L s l n i (e ∙ length_is) h g)

-- Laws of lines laid out in bytes. Assumes nothing.
use Rattle.std.proofs.Common.{◌≡◌, ℕ, zero, suc, ◌+◌, ◌-◌, ◌<◌, ◌≤◌, true, not, eqb, List, [], ◌∷◌, ◌++◌, map, length, get_or, take, drop, set, sym, refl, ap, ◌∙◌, subst, suc-add, zero-add, arith}
use borrow.Rule.Slice.PartMut.{put_mid}
use Rattle.std.proofs.lemmas.List.{append_assoc, append-nil, length-append, length-take, take-append-drop, take-take, take_at, drop_at}
use Rattle.std.proofs.lemmas.Bool.{and_parts, not-true}
use Rattle.lines.specs.Lines.{Line, no_lf, total}
use Rattle.blocks.specs.Blocks.{Meaning, Laid}
use Rattle.blocks.specs.Laid.{Front, joined, clean, written, Turned}

-- bytes that begin with f, and what stands behind it
pub front_split : (f s : List ℕ) → Front f s → s ≡ f ++ drop (length f) s
front_split f s h = sym (take-append-drop (length f) s) ∙ ap (λ z. z ++ drop (length f) s) h

pub front_of : (f r s : List ℕ) → s ≡ f ++ r → Front f s
front_of f r s e = ap (λ z. take (length f) z) e ∙ take_at f r (length f) refl

pub front_more : (f g s : List ℕ) → Front f s → Front g (drop (length f) s) → Front (f ++ g) s
front_more f g s a b =
    let t : List ℕ = drop (length f) s in
    front_of (f ++ g) (drop (length g) t) s (front_split f s a ∙ ap (λ z. f ++ z) (front_split g t b) ∙ sym (append_assoc f g (drop (length g) t)))

pub front_kept : (f s s' : List ℕ) (n : ℕ) → take n s' ≡ take n s → length f ≤ n → Front f s → Front f s'
front_kept f s s' n q h a = sym (take-take (length f) n s' h) ∙ ap (λ z. take (length f) z) q ∙ take-take (length f) n s h ∙ a

-- the lines with an LF behind each, and with nothing
pub length-ended : (ls : List Line) → length (joined (10 ∷ []) ls) ≡ total ls + length ls
length-ended [] = omega arith
length-ended (l ∷ ls) = let h = length-ended ls in omega (arith, length-append l (10 ∷ joined (10 ∷ []) ls))

pub length-plain : (ls : List Line) → length (joined [] ls) ≡ total ls
length-plain [] = refl
length-plain (l ∷ ls) = let h = length-plain ls in omega (arith, length-append l (joined [] ls))

pub joined_push : (e : List ℕ) (ls : List Line) (l : Line) → joined e (ls ++ (l ∷ [])) ≡ joined e ls ++ (l ++ e)
joined_push e [] l = ap (λ z. l ++ z) (append-nil e)
joined_push e (x ∷ ls) l =
    ap (λ z. x ++ (e ++ z)) (joined_push e ls l) ∙ sym (append_assoc x (e ++ joined e ls) (l ++ e) ∙ ap (λ z. x ++ z) (append_assoc e (joined e ls) (l ++ e)))

-- a write behind the bytes a
put_past : (a : List ℕ) (p k : ℕ) (z l : List ℕ) → put_mid (length a + p) k (a ++ z) l ≡ a ++ put_mid p k z l
put_past [] p k z l = ap (λ n. put_mid n k z l) (zero-add p)
put_past (x ∷ a) p k z l = ap (λ n. put_mid n k (x ∷ (a ++ z)) l) (suc-add (length a) p) ∙ ap (λ w. x ∷ w) (put_past a p k z l)

-- line i is overwritten by one of equal length
joined_set : (e r l : List ℕ) (ls : List Line) (i : ℕ) → i < length ls → length l ≡ length (get_or ls i []) → put_mid (length (joined e (take i ls))) (length l) (joined e ls ++ r) l ≡ joined e (set ls i l) ++ r
joined_set e r l [] i h q = absurd (omega arith)
joined_set e r l (x ∷ xs) zero h q =
    let j : List ℕ = e ++ joined e xs in
    ap (λ z. l ++ z) (ap (λ z. drop (length l) z) (append_assoc x j r) ∙ drop_at x (j ++ r) (length l) (sym q)) ∙ sym (append_assoc l j r)
joined_set e r l (x ∷ xs) (suc i) h q =
    let a : List ℕ = x ++ e in
    let p : List ℕ = joined e (take i xs) in
    let n : length (x ++ (e ++ p)) ≡ length a + length p = ap length (sym (append_assoc x e p)) ∙ length-append a p in
    let whole : (j : List ℕ) → (x ++ (e ++ j)) ++ r ≡ a ++ (j ++ r) = λ j. ap (λ z. z ++ r) (sym (append_assoc x e j)) ∙ append_assoc a j r in
    ap (λ k. put_mid k (length l) ((x ++ (e ++ joined e xs)) ++ r) l) n ∙ ap (λ z. put_mid (length a + length p) (length l) z l) (whole (joined e xs))
    ∙ put_past a (length p) (length l) (joined e xs ++ r) l ∙ ap (λ z. a ++ z) (joined_set e r l xs i (omega arith) q) ∙ sym (whole (joined e (set xs i l)))

pub front_set : (e s l : List ℕ) (ls : List Line) (i p : ℕ) → Front (joined e ls) s → i < length ls → length l ≡ length (get_or ls i []) → p ≡ length (joined e (take i ls)) → Front (joined e (set ls i l)) (put_mid p (length l) s l)
front_set e s l ls i p a h q at =
    let r : List ℕ = drop (length (joined e ls)) s in
    front_of (joined e (set ls i l)) r (put_mid p (length l) s l)
    (ap (λ k. put_mid k (length l) s l) at ∙ ap (λ z. put_mid (length (joined e (take i ls))) (length l) z l) (front_split (joined e ls) s a) ∙ joined_set e r l ls i h q)

-- a write behind the first m bytes
pub drop_put : (m p k : ℕ) (s l : List ℕ) → m ≤ length s → drop m (put_mid (m + p) k s l) ≡ put_mid p k (drop m s) l
drop_put m p k s l h =
    let a : List ℕ = take m s in
    let n : length a ≡ m = omega (arith, length-take m s) in
    let w : put_mid (m + p) k s l ≡ a ++ put_mid p k (drop m s) l =
    ap (λ j. put_mid (j + p) k s l) (sym n) ∙ ap (λ z. put_mid (length a + p) k z l) (sym (take-append-drop m s)) ∙ put_past a p k (drop m s) l in
    ap (λ z. drop m z) w ∙ drop_at a (put_mid p k (drop m s) l) m n

-- a part from p to e that is overwritten whole
pub overwritten : (s l l' : List ℕ) (p e : ℕ) → l' ≡ l → p + length l ≡ e → put_mid p (e - p) s l' ≡ written s p l
overwritten s l l' p e is to = let k : e - p ≡ length l = omega arith in rw (is, k) refl

-- a sheet whose bytes s are changed to s', with one line more; the lines stay laid out
pub record Grown (lines : List ℕ → ℕ → List Line) (laid : List ℕ → List Line → Type 0) (s s' : List ℕ) (n : ℕ) (l : Line) : Type 0 where
  pub taken : lines s' (n + 1) ≡ lines s n ++ (l ∷ [])
  pub keeps : laid s (lines s n) → laid s' (lines s' (n + 1))

pub grown : (lines : List ℕ → ℕ → List Line) (laid : List ℕ → List Line → Type 0) (s s' : List ℕ) (n : ℕ) (l : Line) → lines s' (n + 1) ≡ lines s n ++ (l ∷ []) → (laid s (lines s n) → laid s' (lines s n ++ (l ∷ []))) → Grown lines laid s s' n l
grown lines laid s s' n l e f = record { taken = e; keeps = λ h. subst (λ ls. laid s' ls) (sym e) (f h) }

pub turned : (lines : Meaning) (laid : Laid) (L : ℕ) (s : List ℕ) (n i p : ℕ) (l : Line) → lines L (written s p l) n ≡ set (lines L s n) i l → (laid L s (lines L s n) → laid L (written s p l) (set (lines L s n) i l)) → Turned lines laid L s n i p l
turned lines laid L s n i p l e f = record { taken = e; keeps = λ h. subst (λ ls. laid L (written s p l) ls) (sym e) (f h) }

-- a line is as it was read, where it has no LF
pub clean_same : (l : List ℕ) → no_lf l ≡ true → map clean l ≡ l
clean_same [] h = refl
clean_same (b ∷ bs) h =
    let p = and_parts (not (eqb b 10)) (no_lf bs) h in
    let n = not-true (eqb b 10) p.0 in
    let r = clean_same bs p.1 in
    rw (n, r) refl

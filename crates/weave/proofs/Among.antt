-- Which marks are among the open ones, and what the greatest insertion and the deletions above it are.
use Rattle.std.proofs.Common.{◌≡◌, ℕ, ◌<◌, ◌≤◌, max, true, false, ◌&&◌, eqb, ltb, ◌⊎◌, List, [], ◌∷◌, sym, refl, ap, ◌∙◌, inl, inr, ⊎_elim, true≢false, arith}
use Rattle.std.proofs.lemmas.Bool.{cond_both, cases_lt, eq-eqb, ne_eqb, eqb-true, eqb-false, ltb-true, lt-ltb, and_parts, and_cases, or_cases, or_parts, or_from, or_left, or_right}
use Rattle.sets.specs.Bits.{Serials}
use Rattle.records.specs.BodyRecords.{Mark, insertion, deletion, serial}
use Rattle.weave.specs.Marks.{with_mark, closed, inserter, deleted_above}
use Rattle.weave.specs.Rules.{is_open}

pub data Among (m : Mark) : List Mark → Type 0 where
  first : {ms : List Mark} → Among m (m ∷ ms)
  later : {k : Mark} {ms : List Mark} → Among m ms → Among m (k ∷ ms)

-- no two of the marks have one serial
pub data Apart : List Mark → Type 0 where
  none : Apart []
  more : {m : Mark} {ms : List Mark} → is_open (serial m) ms ≡ false → Apart ms → Apart (m ∷ ms)

pub among_open : {m : Mark} {ms : List Mark} → Among m ms → is_open (serial m) ms ≡ true
unfolding is_open
among_open {m} (first {ms}) = or_left (eqb (serial m) (serial m)) (is_open (serial m) ms) (eq-eqb (serial m) (serial m) refl)
among_open {m} (later {k} {ms} a) = or_right (eqb (serial k) (serial m)) (is_open (serial m) ms) (among_open a)

pub among_own : (m : Mark) (ms : List Mark) → Among m (with_mark m ms)
unfolding with_mark
among_own m [] = first
among_own m (k ∷ ks) = cond_both (ltb (serial k) (serial m)) _ _ (Among m) (λ _. later (among_own m ks)) (λ _. first)

pub among_with : {m : Mark} (n : Mark) {ms : List Mark} → Among m ms → Among m (with_mark n ms)
unfolding with_mark
among_with {m} n (first {ms}) = cond_both (ltb (serial m) (serial n)) _ _ (Among m) (λ _. first) (λ _. later first)
among_with {m} n (later {k} {ms} a) = cond_both (ltb (serial k) (serial n)) _ _ (Among m) (λ _. later (among_with n a)) (λ _. later (later a))

split : {m k : Mark} {ms : List Mark} → Among m (k ∷ ms) → (m ≡ k) ⊎ Among m ms
split first = inl refl
split (later a) = inr a

pub with_among : (m n : Mark) (ms : List Mark) → Among m (with_mark n ms) → (m ≡ n) ⊎ Among m ms
unfolding with_mark
with_among m n [] a = split a
with_among m n (k ∷ ks) a =
    cond_both (ltb (serial k) (serial n)) _ _ (λ ns. Among m ns → (m ≡ n) ⊎ Among m (k ∷ ks))
    (λ _ b. ⊎_elim (λ (e : m ≡ k). inr (rw e first)) (λ (c : Among m (with_mark n ks)). ⊎_elim (λ (e : m ≡ n). inl e) (λ (d : Among m ks). inr (later d)) (with_among m n ks c)) (split b))
    (λ _ b. split b) a

open_with : (j : ℕ) (n : Mark) (ms : List Mark) → is_open j ms ≡ false → eqb (serial n) j ≡ false → is_open j (with_mark n ms) ≡ false
unfolding is_open with_mark
open_with j n [] shut other = or_from _ _ other shut
open_with j n (k ∷ ks) shut other =
    let parts = or_parts (eqb (serial k) j) (is_open j ks) shut in
    cond_both (ltb (serial k) (serial n)) _ _ (λ ns. is_open j ns ≡ false)
    (λ _. or_from _ _ parts.0 (open_with j n ks parts.1 other))
    (λ _. or_from _ _ other shut)

pub apart_with : (n : Mark) {ms : List Mark} → is_open (serial n) ms ≡ false → Apart ms → Apart (with_mark n ms)
unfolding is_open with_mark
apart_with n shut none = more refl none
apart_with n shut (more {m = k} {ms = ks} alone rest) =
    let parts = or_parts (eqb (serial k) (serial n)) (is_open (serial n) ks) shut in
    let other : eqb (serial n) (serial k) ≡ false = ne_eqb (serial n) (serial k) (λ e. eqb-false (serial k) (serial n) parts.0 (sym e)) in
    cond_both (ltb (serial k) (serial n)) _ _ Apart
    (λ _. more (open_with (serial k) n ks alone other) (apart_with n parts.1 rest))
    (λ _. more shut (more alone rest))

open_closed : (j n : ℕ) (ms : List Mark) → is_open j ms ≡ false → is_open j (closed n ms) ≡ false
unfolding is_open closed
open_closed j n [] shut = refl
open_closed j n (k ∷ ks) shut =
    let parts = or_parts (eqb (serial k) j) (is_open j ks) shut in
    cond_both (eqb (serial k) n) _ _ (λ ns. is_open j ns ≡ false) (λ _. parts.1) (λ _. or_from _ _ parts.0 (open_closed j n ks parts.1))

pub apart_closed : (n : ℕ) {ms : List Mark} → Apart ms → Apart (closed n ms)
unfolding closed
apart_closed n none = none
apart_closed n (more {m = k} {ms = ks} alone rest) =
    cond_both (eqb (serial k) n) _ _ Apart (λ _. rest) (λ _. more (open_closed (serial k) n ks alone) (apart_closed n rest))

pub closed_among : (m : Mark) (n : ℕ) {ms : List Mark} → Apart ms → Among m (closed n ms) → Among m ms × (serial m ≡ n → ⊥)
unfolding closed
closed_among m n none a = elim a [ ]
closed_among m n (more {m = k} {ms = ks} alone rest) a =
    cond_both (eqb (serial k) n) _ _ (λ ns. Among m ns → Among m (k ∷ ks) × (serial m ≡ n → ⊥))
    (λ e b. (
      later b,
      λ is.
          let same : serial k ≡ serial m = eqb-true (serial k) n e ∙ sym is in
          true≢false (sym (among_open b) ∙ ap (λ j. is_open j ks) (sym same) ∙ alone),
    ))
    (λ e b. ⊎_elim
    (λ (is : m ≡ k). (rw is first, λ same. eqb-false (serial k) n e (ap serial (sym is) ∙ same)))
    (λ (c : Among m (closed n ks)). let below = closed_among m n rest c in (later below.0, below.1))
    (split b)) a

pub among_closed : {m : Mark} (n : ℕ) {ms : List Mark} → (serial m ≡ n → ⊥) → Among m ms → Among m (closed n ms)
unfolding closed
among_closed {m} n other (first {ms}) =
    cond_both (eqb (serial m) n) _ _ (Among m) (λ e. absurd (other (eqb-true (serial m) n e))) (λ _. first)
among_closed {m} n other (later {k} {ms} a) =
    cond_both (eqb (serial k) n) _ _ (Among m) (λ _. a) (λ _. later (among_closed n other a))

-- the greatest insertion
pub insertion_below : {n : ℕ} {ms : List Mark} → Among (insertion n) ms → n ≤ inserter ms
unfolding inserter
insertion_below first = omega arith
insertion_below (later {k = insertion j} a) = let rest = insertion_below a in omega arith
insertion_below (later {k = deletion j} a) = insertion_below a

pub inserter_among : (ms : List Mark) → 0 < inserter ms → Among (insertion (inserter ms)) ms
unfolding inserter
inserter_among [] some = absurd (omega arith)
inserter_among (insertion n ∷ ms) some =
    ⊎_elim
    (λ (low : n < inserter ms).
    let is : max n (inserter ms) ≡ inserter ms = omega arith in
    rw is (later (inserter_among ms (omega arith))))
    (λ (high : inserter ms ≤ n).
    let is : max n (inserter ms) ≡ n = omega arith in
    rw is first)
    (cases_lt n (inserter ms))
inserter_among (deletion n ∷ ms) some = later (inserter_among ms some)

-- the deletions above a serial
module _ (s : Serials) (low : ℕ) where
  pub undeleted : {n : ℕ} {ms : List Mark} → deleted_above s low ms ≡ false → Among (deletion n) ms → low < n → s n ≡ false
  unfolding deleted_above
  undeleted {n} hidden (first {ms}) above =
      let parts = or_parts (ltb low n && s n) (deleted_above s low ms) hidden in
      ⊎_elim (λ (no : ltb low n ≡ false). absurd (true≢false (sym (lt-ltb low n above) ∙ no))) (λ (out : s n ≡ false). out) (and_cases (ltb low n) (s n) parts.0)
  undeleted hidden (later {k = insertion j} a) above = undeleted hidden a above
  undeleted hidden (later {k = deletion j} {ms} a) above = undeleted (or_parts (ltb low j && s j) (deleted_above s low ms) hidden).1 a above

  pub deleter : (ms : List Mark) → deleted_above s low ms ≡ true → (n : ℕ) × Among (deletion n) ms × (low < n) × (s n ≡ true)
  unfolding deleted_above
  deleter [] has = absurd (true≢false (sym has))
  deleter (insertion n ∷ ms) has = let rest = deleter ms has in (rest.0, later rest.1, rest.2, rest.3)
  deleter (deletion n ∷ ms) has =
      ⊎_elim
      (λ (here : (ltb low n && s n) ≡ true). let parts = and_parts (ltb low n) (s n) here in (n, first, ltb-true low n parts.0, parts.1))
      (λ (past : deleted_above s low ms ≡ true). let rest = deleter ms past in (rest.0, later rest.1, rest.2, rest.3))
      (or_cases (ltb low n && s n) (deleted_above s low ms) has)

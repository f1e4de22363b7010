-- Places in a list of slots by their keys.
use Rattle.std.proofs.Common.{◌≡◌, ℕ, zero, suc, ◌+◌, ◌-◌, ◌<◌, ◌≤◌, true, false, eqb, List, [], ◌∷◌, length, get_or, take, drop, Some, None, Result, Ok, Err, MatchResult, sym, refl, ap, ◌∙◌, subst, suc-le-suc, arith}
use Rattle.std.specs.List.{insert, remove}
use Rattle.std.specs.List.Sorted.{IsSearchInRange, IsBinarySearchResult, IsNonDecreasingBy}
use Rattle.std.specs.Result.{is_ok, result_ok}
use Rattle.std.specs.Ordering.{nat_cmp, ordering_index}
use Rattle.std.proofs.lemmas.Cmp.{ranked}
use Rattle.std.proofs.lemmas.List.{map-append, take-map, drop-map, length-map, get_or-map, get_or-take, length-take}
use Rattle.std.proofs.lemmas.List.Edits.{length-insert, get_or-insert_below, get_or-insert_at, get_or-insert_above, length-remove, get_or-remove_below, get_or-remove_above}
use Rattle.std.proofs.lemmas.List.Recursion.{found_at, found_nowhere}
use Rattle.std.proofs.lemmas.Bool.{cond-true, cond-false, eq-eqb, ne_eqb, lt-ltb, le-ltb}
use Rattle.std.proofs.lemmas.Bool.Decides.{nat_tests}
use Rattle.queue.specs.Slots.{keys, Rising, StandsAt, FitsAt, holds, under, with_slot, without}
use Rattle.queue.specs.declared.slots.Slot.{Slot}

pub tail_rises : (x : ℕ) (ks : List ℕ) → Rising (x ∷ ks) → Rising ks
tail_rises x ks up i j l m = up (suc i) (suc j) (suc-le-suc l) (suc-le-suc m)

rises_fewer : (ks : List ℕ) (m n : ℕ) → m ≤ n → Rising (take n ks) → Rising (take m ks)
rises_fewer ks m n le up i j l h =
    grind (arith, length-take m ks, length-take n ks, get_or-take m ks i 0, get_or-take m ks j 0, get_or-take n ks i 0, get_or-take n ks j 0, up i j)

rises_removed : (ks : List ℕ) (at : ℕ) → at < length ks → Rising ks → Rising (remove ks at)
rises_removed ks at h up i j l m =
    grind (arith, length-remove ks at h, get_or-remove_below ks at 0 i, get_or-remove_above ks at 0 i, get_or-remove_below ks at 0 j, get_or-remove_above ks at 0 j, up i j, up i (j + 1), up (i + 1) (j + 1))

module _ {E : Type 0} where
  key : Slot E → ℕ
  key s = s.key

  -- the key of the slot at a place
  key_at : (ss : List (Slot E)) (i : ℕ) (d : Slot E) → i < length ss → get_or (keys ss) i 0 ≡ (get_or ss i d).key
  key_at ss i d l = get_or-map (λ (s : Slot E). s.key) ss i d 0 l

  keys_inserted : (s : Slot E) (ss : List (Slot E)) (i : ℕ) → keys (insert ss i s) ≡ insert (keys ss) i s.key
  keys_inserted s ss i = map-append _ (take i ss) (s ∷ drop i ss) ∙ sym (cc (take-map (λ (t : Slot E). t.key) i ss, drop-map (λ (t : Slot E). t.key) i ss))

  keys-removed : (ss : List (Slot E)) (i : ℕ) → keys (remove ss i) ≡ remove (keys ss) i
  keys-removed ss i = map-append _ (take i ss) (drop (suc i) ss) ∙ sym (cc (take-map (λ (t : Slot E). t.key) i ss, drop-map (λ (t : Slot E). t.key) (suc i) ss))

  pub rises_front : (ss : List (Slot E)) (m n : ℕ) → m ≤ n → Rising (keys (take n ss)) → Rising (keys (take m ss))
  rises_front ss m n le up = subst Rising (take-map _ m ss) (rises_fewer (keys ss) m n le (subst Rising (sym (take-map _ n ss)) up))

  pub rises_without : (ss : List (Slot E)) (i : ℕ) → i < length ss → Rising (keys ss) → Rising (keys (remove ss i))
  rises_without ss i l up =
      let n = length-map ss (λ (t : Slot E). t.key) in
      rw keys-removed (rises_removed (keys ss) i (omega arith) up)

  pub rises_with : (s : Slot E) (ss : List (Slot E)) (at : ℕ) → Rising (keys ss) → FitsAt s.key ss at → Rising (keys (insert ss at s))
  rises_with s ss at up fits =
      rw keys_inserted (λ i j l m.
      let ks = keys ss in
      let n = length-map ss (λ (t : Slot E). t.key) in
      let h : at ≤ length ks = omega (arith, fits.within) in
      let long = length-insert ks at s.key h in
      let here = get_or-insert_at ks at s.key 0 h in
      grind (arith, get_or-insert_below ks at s.key 0 i, get_or-insert_above ks at s.key 0 (i - 1), get_or-insert_below ks at s.key 0 j, get_or-insert_above ks at s.key 0 (j - 1), up i j, up i (j - 1), up (i - 1) (j - 1), fits.before i, fits.after (j - 1)))

module _ {E : Type 0} (k : ℕ) where
  -- what a search by key finds among slots of rising keys
  pub searched : (ss : List (Slot E)) → Rising (keys ss) → (r : Result ℕ ℕ) → IsSearchInRange r (length ss) → IsBinarySearchResult (λ (s : Slot E). nat_cmp s.key k) ss r → MatchResult r (StandsAt k ss) (FitsAt k ss)
  searched [] up (Ok at) within is = absurd (omega arith)
  searched [] up (Err at) within is = record { within = within; before = λ j l. absurd (omega arith); after = λ j _ l. absurd (omega arith) }
  searched (s ∷ ss) up (Ok at) within is = (within, key_at (s ∷ ss) at s within ∙ ranked _ k _ (sym (is s)))
  searched (s ∷ ss) up (Err at) within is =
      let all = s ∷ ss in
      let rises : IsNonDecreasingBy (λ (t : Slot E). ordering_index (nat_cmp t.key k)) all = λ i j d le l.
      let n = length-map all (λ (t : Slot E). t.key) in
      let ordered : (get_or all i d).key ≤ (get_or all j d).key = grind (arith, key_at all i d, key_at all j d, up i j, λ (same : i ≡ j). ap (λ m. (get_or all m d).key) same) in
      grind (arith, nat_tests) in
      record {
        within = within;
        before = λ j l. omega (arith, key_at all j s, ranked _ k _ (sym ((is rises).0 j s (omega arith) l)));
        after = λ j le l. omega (arith, key_at all j s, ranked _ k _ (sym ((is rises).1 j s le l)));
      }

  without_first : (ss : List (Slot E)) (i : ℕ) (d : Slot E) → i < length ss → ((j : ℕ) → j < i → eqb (get_or ss j d).key k ≡ false) → eqb (get_or ss i d).key k ≡ true → without k ss ≡ remove ss i
  without_first [] i d l before here = absurd (omega arith)
  without_first (s ∷ ss) zero d l before here = cond-true _ _ _ here
  without_first (s ∷ ss) (suc i) d l before here = cond-false _ _ _ (before 0 (omega arith)) ∙ ap (λ ts. s ∷ ts) (without_first ss i d (omega arith) (λ j m. before (suc j) (suc-le-suc m)) here)

  without_nowhere : (ss : List (Slot E)) (d : Slot E) → ((j : ℕ) → j < length ss → eqb (get_or ss j d).key k ≡ false) → without k ss ≡ ss
  without_nowhere [] d none = refl
  without_nowhere (s ∷ ss) d none = cond-false _ _ _ (none 0 (omega arith)) ∙ ap (λ ts. s ∷ ts) (without_nowhere ss d (λ j m. none (suc j) (suc-le-suc m)))

  -- the slot that stands at a place is the first of its key
  module _ (ss : List (Slot E)) (i : ℕ) (d : Slot E) (up : Rising (keys ss)) (at : StandsAt k ss i) where
    passes : eqb (get_or ss i d).key k ≡ true
    passes = eq-eqb _ _ (sym (key_at ss i d at.0) ∙ at.1)

    none_before : (j : ℕ) → j < i → eqb (get_or ss j d).key k ≡ false
    none_before j l =
        let n = length-map ss (λ (t : Slot E). t.key) in
        ne_eqb _ _ (λ e. omega (arith, key_at ss j d, at.1, at.0, up j i l (omega (arith, at.0))))

    held : holds k ss ≡ true
    held = found_at (holds k) (λ s. eqb s.key k) (λ _. true) false refl (λ _ _. refl) ss i d at.0 none_before passes

    under_at : under k ss ≡ Some (get_or ss i d).element
    under_at = found_at (under k) (λ s. eqb s.key k) (λ s. Some s.element) None refl (λ _ _. refl) ss i d at.0 none_before passes

    removed_at : without k ss ≡ remove ss i
    removed_at = without_first ss i d at.0 none_before passes

  -- what is read at the place where the key stands, of these slots or of more that begin with them
  pub read_at : (xs ss : List (Slot E)) (i : ℕ) (d : Slot E) → Rising (keys ss) → StandsAt k ss i → ((e : Slot E) → get_or xs i e ≡ get_or ss i e) → Some (get_or xs i d).element ≡ under k ss
  read_at xs ss i d up at same = ap (λ s. Some s.element) (same d) ∙ sym (under_at ss i d up at)

  pub without_at : (ss : List (Slot E)) (i : ℕ) → Rising (keys ss) → StandsAt k ss i → without k ss ≡ remove ss i
  without_at [] i up at = absurd (omega (arith, at.0))
  without_at (s ∷ ss) i up at = removed_at (s ∷ ss) i s up at

  -- where a new slot fits, none has its key
  none_anywhere : (ss : List (Slot E)) (i : ℕ) (d : Slot E) → FitsAt k ss i → (j : ℕ) → j < length ss → eqb (get_or ss j d).key k ≡ false
  none_anywhere ss i d fits j l = ne_eqb _ _ (λ e. grind (arith, key_at ss j d l, fits.before j, fits.after j))

  pub free : (ss : List (Slot E)) (i : ℕ) → FitsAt k ss i → record { holds : holds k ss ≡ false; under : under k ss ≡ None; without : without k ss ≡ ss }
  free [] i fits = record { holds = refl; under = refl; without = refl }
  free (s ∷ ss) i fits =
      let none = none_anywhere (s ∷ ss) i s fits in
      record {
        holds = found_nowhere (holds k) (λ s. eqb s.key k) (λ _. true) false refl (λ _ _. refl) (s ∷ ss) s none;
        under = found_nowhere (under k) (λ s. eqb s.key k) (λ s. Some s.element) None refl (λ _ _. refl) (s ∷ ss) s none;
        without = without_nowhere (s ∷ ss) s none;
      }

  -- what a search tells: whether the key is held, and where
  pub told : (ss : List (Slot E)) → Rising (keys ss) → (r : Result ℕ ℕ) → MatchResult r (StandsAt k ss) (FitsAt k ss) → is_ok r ≡ holds k ss
  told [] up (Ok i) at = absurd (omega arith)
  told (s ∷ ss) up (Ok i) at = sym (held (s ∷ ss) i s up at)
  told ss up (Err i) fits = sym (free ss i fits).holds

  pub stands : (ss : List (Slot E)) (r : Result ℕ ℕ) → MatchResult r (StandsAt k ss) (FitsAt k ss) → {i : ℕ} → Some i ≡ result_ok r → StandsAt k ss i
  stands ss (Ok j) at {i} is = let e : i ≡ j = cc in rw e at
  stands ss (Err j) fits {i} is = cc

  pub gap_fits : (ss : List (Slot E)) (r : Result ℕ ℕ) → MatchResult r (StandsAt k ss) (FitsAt k ss) → None ≡ result_ok r → (i : ℕ) × FitsAt k ss i
  gap_fits ss (Ok j) at is = cc
  gap_fits ss (Err j) fits is = (j, fits)

pub with_slot_at : {E : Type 0} (s : Slot E) (ss : List (Slot E)) (at : ℕ) → FitsAt s.key ss at → with_slot s ss ≡ insert ss at s
with_slot_at s [] zero fits = refl
with_slot_at s [] (suc at) fits = absurd (omega (arith, fits.within))
with_slot_at s (t ∷ ts) zero fits = cond-false _ _ _ (le-ltb t.key s.key (omega (arith, fits.after 0 (omega arith) (omega arith))))
with_slot_at s (t ∷ ts) (suc at) fits =
    let later : FitsAt s.key ts at = record {
      within = omega (arith, fits.within);
      before = λ j l. fits.before (suc j) (suc-le-suc l);
      after = λ j le l. fits.after (suc j) (suc-le-suc le) (suc-le-suc l);
    } in
    cond-true _ _ _ (lt-ltb t.key s.key (fits.before 0 (omega arith))) ∙ ap (λ us. t ∷ us) (with_slot_at s ts at later)

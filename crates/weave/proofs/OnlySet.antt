-- The set of a version decides each serial as the relation asks, and no other set does.
use Rattle.std.proofs.Common.{◌≡◌, ℕ, zero, suc, ◌+◌, ◌<◌, ◌≤◌, Bool, true, false, cond, eqb, ◌⊎◌, List, [], ◌∷◌, length, Some, None, Option, sym, refl, ap, ◌∙◌, subst, inl, inr, ⊎_elim, true≢false, arith}
use Rattle.std.proofs.lemmas.Bool.{cond_both, cond-true, cond-false, cases_Bool, cases_eq, cases_lt, eq-eqb, ne_eqb, eqb-true, eqb-false}
use Rattle.sets.specs.Bits.{Serials}
use Rattle.weave.specs.Versions.{Delta, Marked, marks, or_else, marked_or, members, set_of}
use Rattle.weave.specs.Relation.{HasDelta, newest, older, Reached, itself, onward, MarkedBy, Stands, called, listed, reached, unreached, IsSetOf, Descends, TheOnlySet}

-- a table's serials are 1 to its length, each of one delta
has_low : {ds : List Delta} {n : ℕ} {d : Delta} → HasDelta ds n d → (1 ≤ n) × (n ≤ length ds)
has_low newest = (omega arith, omega arith)
has_low (older h) = let rest = has_low h in (rest.0, omega (arith, rest.1))

has_one : {ds : List Delta} {n : ℕ} {d : Delta} → HasDelta ds n d → (m : ℕ) (e : Delta) → n ≡ m → HasDelta ds m e → d ≡ e
has_one newest m e same newest = refl
has_one newest m e same (older h) = let low = (has_low h).1 in absurd (omega arith)
has_one (older h) m e same newest = let low = (has_low h).1 in absurd (omega arith)
has_one (older h) m e same (older g) = has_one h m e same g

module _ {ds : List Delta} (down : Descends ds) where
  -- what is reached is the start, or a serial of the table or 0
  reached_low : {v k : ℕ} → Reached ds v k → (k ≡ v) ⊎ (k ≤ length ds)
  reached_low itself = inl refl
  reached_low (onward {n} {d} r h) = let low = (has_low h).1 in let less = down n d h in inr (omega arith)

-- one delta more
module _ {d : Delta} {ds : List Delta} where
  reached_more : {v k : ℕ} → Reached ds v k → Reached (d ∷ ds) v k
  reached_more itself = itself
  reached_more (onward r h) = onward (reached_more r) (older h)

  -- from the newest delta by its predecessor
  reached_first : {k : ℕ} → Reached ds d.predecessor k → Reached (d ∷ ds) (length ds + 1) k
  reached_first itself = onward itself newest
  reached_first (onward r h) = onward (reached_first r) (older h)

  down_older : Descends (d ∷ ds) → Descends ds
  down_older down n e h = down n e (older h)

  module _ (down : Descends (d ∷ ds)) where
    reached_less : {v k : ℕ} → (v ≡ length ds + 1 → ⊥) → Reached (d ∷ ds) v k → Reached ds v k
    reached_less other itself = itself
    reached_less other (onward r newest) =
        let back = reached_low (down_older down) (reached_less other r) in
        ⊎_elim (λ (e : length ds + 1 ≡ _). absurd (other (sym e))) (λ (le : length ds + 1 ≤ length ds). absurd (omega arith)) back
    reached_less other (onward r (older h)) = onward (reached_less other r) h

    reached-back : {k : ℕ} → Reached (d ∷ ds) (length ds + 1) k → (k ≡ length ds + 1) ⊎ Reached ds d.predecessor k
    reached-back itself = inl refl
    reached-back (onward r newest) = inr itself
    reached-back (onward {n = n} {d = e} r (older h)) =
        let low = (has_low h).1 in
        ⊎_elim (λ (is : n ≡ length ds + 1). absurd (omega arith)) (λ (b : Reached ds d.predecessor n). inr (onward b h)) (reached-back r)

pub none_beyond : (ds : List Delta) (v : ℕ) (m : Marked) (k : ℕ) → length ds < k → members ds v m k ≡ false
unfolding members
none_beyond [] v m k beyond = refl
none_beyond (d ∷ ds) v m k beyond = rw (ne_eqb k (length ds + 1) (λ is. omega arith)) (none_beyond ds _ _ k (omega arith))

none_zero : (ds : List Delta) (v : ℕ) (m : Marked) → members ds v m 0 ≡ false
unfolding members
none_zero [] v m = refl
none_zero (d ∷ ds) v m = rw (ne_eqb 0 (length ds + 1) (λ is. omega arith)) (none_zero ds _ _)

some_is : (b c : Bool) (o : Option Bool) → o ≡ Some b → o ≡ Some c → b ≡ c
some_is b c o p q = cc

some_none : (b : Bool) (o : Option Bool) → o ≡ Some b → o ≡ None → ⊥
some_none b o p q = let z : ◌≡◌ {A = ℕ} 0 1 = cc in omega arith

mark_cases : (o : Option Bool) → ((b : Bool) × (o ≡ Some b)) ⊎ (o ≡ None)
mark_cases (Some b) = inl (b, refl)
mark_cases None = inr refl

-- a marked serial stands as marked
decided : {ds : List Delta} {v : ℕ} {m : Marked} {s : Serials} {k : ℕ} (c : Bool) → m k ≡ Some c → {b : Bool} → Stands ds v m s k b → c ≡ b
decided {m = m} {k = k} c is {b} (called p) = some_is c b (m k) is p
decided {m = m} {k = k} c is (listed p n by most) = absurd (some_none c (m k) is p)
decided {m = m} {k = k} c is (reached p bare r) = absurd (some_none c (m k) is p)
decided {m = m} {k = k} c is (unreached p bare r) = absurd (some_none c (m k) is p)

-- two sets that agree above k decide k alike
module _ {ds : List Delta} (s t : Serials) (k : ℕ) (same : (j : ℕ) → k < j → s j ≡ t j) where
  over : (j : ℕ) (c : Bool) → MarkedBy ds s k j c → MarkedBy ds t k j c
  over j c by = record { delta = by.delta; there = by.there; is_in = sym (same j by.above) ∙ by.is_in; above = by.above; lists = by.lists }

  back : (j : ℕ) (c : Bool) → MarkedBy ds t k j c → MarkedBy ds s k j c
  back j c by = record { delta = by.delta; there = by.there; is_in = same j by.above ∙ by.is_in; above = by.above; lists = by.lists }

  alike : {v : ℕ} {m : Marked} {b c : Bool} → Stands ds v m s k b → Stands ds v m t k c → b ≡ c
  alike {m = m} {b = b} {c = c} (called p) (called q) = some_is b c (m k) p q
  alike {m = m} {b = b} (called p) (listed q n by most) = absurd (some_none b (m k) p q)
  alike {m = m} {b = b} (called p) (reached q bare r) = absurd (some_none b (m k) p q)
  alike {m = m} {b = b} (called p) (unreached q bare r) = absurd (some_none b (m k) p q)
  alike {m = m} {c = c} (listed p n by most) (called q) = absurd (some_none c (m k) q p)
  alike {m = m} {b = b} {c = c} (listed p n by most) (listed q j at least) =
      let up = least n b (over n b by) in
      let down = most j c (back j c at) in
      let is : n ≡ j = omega arith in
      let one = has_one by.there j at.delta is at.there in
      some_is b c (marks by.delta.lists k) by.lists (ap (λ (d : Delta). marks d.lists k) one ∙ at.lists)
  alike {m = m} {b = b} (listed p n by most) (reached q bare r) = absurd (bare n b (over n b by))
  alike {m = m} {b = b} (listed p n by most) (unreached q bare r) = absurd (bare n b (over n b by))
  alike {m = m} {c = c} (reached p bare r) (called q) = absurd (some_none c (m k) q p)
  alike {m = m} {c = c} (reached p bare r) (listed q j at least) = absurd (bare j c (back j c at))
  alike (reached p bare r) (reached q barren w) = refl
  alike (reached p bare r) (unreached q barren w) = absurd (w r)
  alike {m = m} {c = c} (unreached p bare r) (called q) = absurd (some_none c (m k) q p)
  alike {m = m} {c = c} (unreached p bare r) (listed q j at least) = absurd (bare j c (back j c at))
  alike (unreached p bare r) (reached q barren w) = absurd (r w)
  alike (unreached p bare r) (unreached q barren w) = refl

-- so they are one set, from the last serial down
module _ {ds : List Delta} {v : ℕ} {m : Marked} (s t : Serials) (is-s : IsSetOf ds v m s) (is-t : IsSetOf ds v m t) where
  one_at : (k : ℕ) → ((j : ℕ) → k < j → s j ≡ t j) → s k ≡ t k
  one_at zero same = is-s.zero_out ∙ sym is-t.zero_out
  one_at (suc k) same =
      ⊎_elim
      (λ (inside : k < length ds). alike s t (suc k) same (is-s.stands (suc k) (omega arith) (omega arith)) (is-t.stands (suc k) (omega arith) (omega arith)))
      (λ (past : length ds ≤ k). is-s.beyond_out (suc k) (omega arith) ∙ sym (is-t.beyond_out (suc k) (omega arith)))
      (cases_lt k (length ds))

  from_top : (steps k : ℕ) → length ds < k + steps → s k ≡ t k
  from_top zero k past = is-s.beyond_out k (omega arith) ∙ sym (is-t.beyond_out k (omega arith))
  from_top (suc steps) k past = one_at k (λ j above. from_top steps j (omega arith))

  pub one_set : (k : ℕ) → s k ≡ t k
  one_set k = from_top (length ds + 1) k (omega arith)

-- the newest delta d, of serial n, over the table ds: what it decides, and what is left to the rest with the marks m'
module _ (d : Delta) (ds : List Delta) (v : ℕ) (m : Marked) (down : Descends (d ∷ ds)) where
  n : ℕ
  n = length ds + 1

  is_in : Bool
  is_in = marked_or (m n) (eqb v n)

  m' : Marked
  m' j = cond is_in (or_else (m j) (marks d.lists j)) (m j)

  v' : ℕ
  v' = cond (eqb v n) d.predecessor v

  s : Serials
  s = members (d ∷ ds) v m

  s' : Serials
  s' = members ds v' m'

  at_newest : s n ≡ is_in
  unfolding members n is_in m' v' s
  at_newest = cond-true _ _ _ (eq-eqb (length ds + 1) (length ds + 1) refl)

  at_older : (k : ℕ) → k ≤ length ds → s k ≡ s' k
  unfolding members n is_in m' v' s s'
  at_older k low = cond-false _ _ _ (ne_eqb k (length ds + 1) (λ is. omega arith))

  -- what marks an older serial k
  marked_more : (k j : ℕ) (c : Bool) → MarkedBy ds s' k j c → MarkedBy (d ∷ ds) s k j c
  marked_more k j c by = record {
    delta = by.delta;
    there = older by.there;
    is_in = at_older j (has_low by.there).1 ∙ by.is_in;
    above = by.above;
    lists = by.lists;
  }

  -- by a delta of the rest, or by the newest
  marked_less : (k j : ℕ) (c : Bool) → MarkedBy (d ∷ ds) s k j c → MarkedBy ds s' k j c ⊎ ((j ≡ n) × (is_in ≡ true) × (marks d.lists k ≡ Some c))
  unfolding n
  marked_less k j c by = from by.delta by.there by.is_in by.above by.lists where
    from : {i : ℕ} (e : Delta) → HasDelta (d ∷ ds) i e → s i ≡ true → k < i → marks e.lists k ≡ Some c → MarkedBy ds s' k i c ⊎ ((i ≡ length ds + 1) × (is_in ≡ true) × (marks d.lists k ≡ Some c))
    from e newest has above lists = inr (refl, sym at_newest ∙ has, lists)
    from {i} e (older h) has above lists = inl (record { delta = e; there = h; is_in = sym (at_older i (has_low h).1) ∙ has; above = above; lists = lists })

  -- by which deltas k is marked, and from where it is reached, in the whole table and in the rest
  reach_up : (k : ℕ) → Reached ds v' k → Reached (d ∷ ds) v k
  unfolding n v'
  reach_up k r =
      ⊎_elim
      (λ (is : eqb v (length ds + 1) ≡ true).
      let first : v' ≡ d.predecessor = cond-true _ _ _ is in
      let from : Reached (d ∷ ds) (length ds + 1) k = reached_first (subst (λ (u : ℕ). Reached ds u k) first r) in
      subst (λ (u : ℕ). Reached (d ∷ ds) u k) (sym (eqb-true v (length ds + 1) is)) from)
      (λ (other : eqb v (length ds + 1) ≡ false).
      let same : v' ≡ v = cond-false _ _ _ other in
      reached_more (subst (λ (u : ℕ). Reached ds u k) same r))
      (cases_Bool (eqb v (length ds + 1)))

  reach_down : (k : ℕ) → k ≤ length ds → Reached (d ∷ ds) v k → Reached ds v' k
  unfolding n v'
  reach_down k low r =
      ⊎_elim
      (λ (is : eqb v (length ds + 1) ≡ true).
      let first : v' ≡ d.predecessor = cond-true _ _ _ is in
      let from : Reached (d ∷ ds) (length ds + 1) k = subst (λ (u : ℕ). Reached (d ∷ ds) u k) (eqb-true v (length ds + 1) is) r in
      subst (λ (u : ℕ). Reached ds u k) (sym first)
      (⊎_elim (λ (top : k ≡ length ds + 1). absurd (omega arith)) (λ (b : Reached ds d.predecessor k). b) (reached-back down from)))
      (λ (other : eqb v (length ds + 1) ≡ false).
      let same : v' ≡ v = cond-false _ _ _ other in
      subst (λ (u : ℕ). Reached ds u k) (sym same) (reached_less down (eqb-false v (length ds + 1) other) r))
      (cases_Bool (eqb v (length ds + 1)))

  -- the newest delta stands as it is marked, or as the version
  newest_stands : Stands (d ∷ ds) v m s n (s n)
  unfolding n is_in
  newest_stands =
      let alone : (j : ℕ) (c : Bool) → MarkedBy (d ∷ ds) s (length ds + 1) j c → ⊥ = λ j c by. let low = (has_low by.there).1 in let above = by.above in omega arith in
      ⊎_elim
      (λ (marked : (b : Bool) × (m (length ds + 1) ≡ Some b)).
      let is : s (length ds + 1) ≡ marked.0 = at_newest ∙ ap (λ o. marked_or o (eqb v (length ds + 1))) marked.1 in
      subst (λ (b : Bool). Stands (d ∷ ds) v m s (length ds + 1) b) (sym is) (called marked.1))
      (λ (free : m (length ds + 1) ≡ None).
      let is : s (length ds + 1) ≡ eqb v (length ds + 1) = at_newest ∙ ap (λ o. marked_or o (eqb v (length ds + 1))) free in
      subst (λ (b : Bool). Stands (d ∷ ds) v m s (length ds + 1) b) (sym is)
      (⊎_elim
      (λ (top : eqb v (length ds + 1) ≡ true).
      let same = eqb-true v (length ds + 1) top in
      subst (λ (b : Bool). Stands (d ∷ ds) v m s (length ds + 1) b) (sym top)
      (reached free alone (subst (λ (u : ℕ). Reached (d ∷ ds) u (length ds + 1)) (sym same) itself)))
      (λ (other : eqb v (length ds + 1) ≡ false).
      let apart = eqb-false v (length ds + 1) other in
      subst (λ (b : Bool). Stands (d ∷ ds) v m s (length ds + 1) b) (sym other)
      (unreached free alone (λ r.
      ⊎_elim (λ (e : length ds + 1 ≡ v). apart (sym e)) (λ (le : length ds + 1 ≤ length ds). omega arith) (reached_low (down_older down) (reached_less down apart r)))))
      (cases_Bool (eqb v (length ds + 1)))))
      (mark_cases (m (length ds + 1)))

  module _ (k : ℕ) (low : k ≤ length ds) (free : m k ≡ None) where
    -- where the newest delta does not mark k, the rest decides
    by_rest : ((c : Bool) → is_in ≡ true → marks d.lists k ≡ Some c → ⊥) → {b : Bool} → m' k ≡ None → Stands ds v' m' s' k b → Stands (d ∷ ds) v m s k b
    by_rest quiet {b} bare (called p) = absurd (some_none b (m' k) p bare)
    by_rest quiet bare (listed p j by most) =
        listed free j (marked_more k j _ by) (λ i c w. ⊎_elim (λ (w' : MarkedBy ds s' k i c). most i c w') (λ top. absurd (quiet c top.1 top.2)) (marked_less k i c w))
    by_rest quiet bare (reached p alone r) =
        reached free (λ i c w. ⊎_elim (λ (w' : MarkedBy ds s' k i c). alone i c w') (λ top. quiet c top.1 top.2) (marked_less k i c w)) (reach_up k r)
    by_rest quiet bare (unreached p alone r) =
        unreached free (λ i c w. ⊎_elim (λ (w' : MarkedBy ds s' k i c). alone i c w') (λ top. quiet c top.1 top.2) (marked_less k i c w)) (λ w. r (reach_down k low w))

    -- where it does, it is the greatest that does
    by-newest : is_in ≡ true → {b : Bool} → marks d.lists k ≡ Some b → Stands (d ∷ ds) v m s k b
    unfolding n
    by-newest has {b} lists =
        listed free (length ds + 1)
        (record { delta = d; there = newest; is_in = at_newest ∙ has; above = omega arith; lists = lists })
        (λ j c w. let top = (has_low w.there).1 in omega arith)

  older_stands : (k : ℕ) → k ≤ length ds → {b : Bool} → Stands ds v' m' s' k b → Stands (d ∷ ds) v m s k b
  unfolding m'
  older_stands k low {b} stands =
      ⊎_elim
      (λ (marked : (c : Bool) × (m k ≡ Some c)).
      let is : m' k ≡ Some marked.0 = cond_both is_in (or_else (m k) (marks d.lists k)) (m k) (λ o. o ≡ Some marked.0) (λ _. ap (λ o. or_else o (marks d.lists k)) marked.1) (λ _. marked.1) in
      called (marked.1 ∙ ap Some (decided marked.0 is stands)))
      (λ (free : m k ≡ None).
      ⊎_elim
      (λ (has : is_in ≡ true).
      let is : m' k ≡ marks d.lists k = cond-true _ _ _ has ∙ ap (λ o. or_else o (marks d.lists k)) free in
      ⊎_elim
      (λ (lists : (c : Bool) × (marks d.lists k ≡ Some c)).
      by-newest k low free has (lists.1 ∙ ap Some (decided lists.0 (is ∙ lists.1) stands)))
      (λ (none : marks d.lists k ≡ None). by_rest k low free (λ c _ w. some_none c (marks d.lists k) w none) (is ∙ none) stands)
      (mark_cases (marks d.lists k)))
      (λ (out : is_in ≡ false). by_rest k low free (λ c has _. true≢false (sym has ∙ out)) (cond-false _ _ _ out ∙ free) stands)
      (cases_Bool is_in))
      (mark_cases (m k))

pub is_set : (ds : List Delta) (v : ℕ) (m : Marked) → Descends ds → IsSetOf ds v m (members ds v m)
unfolding n is_in m' v' s s'
is_set [] v m down = record {
  stands = λ k one low. absurd (omega arith);
  zero_out = none_zero [] v m;
  beyond_out = none_beyond [] v m;
}
is_set (d ∷ ds) v m down =
    let rest = is_set ds (v' d ds v m down) (m' d ds v m down) (down_older down) in
    record {
      stands = λ k one low.
          ⊎_elim
          (λ (top : k ≡ length ds + 1). subst (λ (j : ℕ). Stands (d ∷ ds) v m (members (d ∷ ds) v m) j (members (d ∷ ds) v m j)) (sym top) (newest_stands d ds v m down))
          (λ (other : k ≡ length ds + 1 → ⊥).
          let less : k ≤ length ds = omega (arith, other) in
          subst (λ (b : Bool). Stands (d ∷ ds) v m (members (d ∷ ds) v m) k b) (sym (at_older d ds v m down k less)) (older_stands d ds v m down k less (rest.stands k one less)))
          (cases_eq k (length ds + 1));
      zero_out = none_zero (d ∷ ds) v m;
      beyond_out = none_beyond (d ∷ ds) v m;
    }

pub the_only_set : TheOnlySet
the_only_set ds v l down = (is_set ds v (marks l) down, λ s is k. one_set s (set_of ds v l) is (is_set ds v (marks l) down) k)

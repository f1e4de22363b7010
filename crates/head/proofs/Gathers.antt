-- The serials of a list that is allowed. Assumes nothing.
use Rattle.std.proofs.Common.{◌≡◌, ℕ, ◌/◌, ◌%◌, ◌^◌, ◌<◌, ◌≤◌, Bool, true, false, eqb, ◌⊎◌, List, [], ◌∷◌, length, get_or, Some, None, Ok, Option, sym, refl, ap, ◌∙◌, subst, inl, inr, ⊎_elim, arith}
use lib.Bits.{bit_or}
use Rattle.std.proofs.lemmas.Grind.{common_steps}
use Rattle.std.proofs.lemmas.List.{set_past}
use Rattle.std.proofs.lemmas.Bool.{and_parts, or_cases, eqb-true, cases_lt}
use Rattle.sets.specs.declared.set.SerialSet.{SerialSet}
use Rattle.sets.specs.Bits.{bits}
use Rattle.sets.specs.Serials.{serials, unlisted, with_serial, gathered}
use Rattle.sets.proofs.Words.{bits_with, bits_none}
use Rattle.records.specs.SerialLists.{allowed, all_allowed, worth}

-- a set with one serial more has no other serials more
one_more : (s : SerialSet) (n k : ℕ) → serials (with_serial s n) k ≡ true → (serials s k ≡ true) ⊎ (n ≡ k)
one_more s n k h =
    let ws = s.words in
    ⊎_elim
    (λ (inside : n / 64 < length ws). ⊎_elim inl (λ e. inr (eqb-true n k e)) (or_cases (bits ws k) (eqb n k) (sym (bits_with ws n inside k) ∙ h)))
    (λ (past : length ws ≤ n / 64). inl (sym (ap (λ xs. bits xs k) (set_past ws (n / 64) (bit_or (get_or ws (n / 64) 0) (2 ^ (n % 64))) past)) ∙ h))
    (cases_lt (n / 64) (length ws))

-- lower than `own`, and not in `other`
abbrev pub Fits : ℕ → SerialSet → ℕ → Type 0
Fits own other k = (k < own) × (serials other k ≡ false)

module _ (own : ℕ) (other : SerialSet) (k : ℕ) where
  allowed_fits : (n last : ℕ) → allowed n last own other ≡ true → Fits own other n
  allowed_fits n last e = grind (arith, common_steps)

  gathered_fits : (ns : List ℕ) (s : SerialSet) (last : ℕ) → all_allowed last own other ns ≡ true → serials (gathered s ns) k ≡ true → (serials s k ≡ true) ⊎ Fits own other k
  gathered_fits [] s last e h = inl h
  gathered_fits (n ∷ ns) s last e h =
      let p = and_parts (allowed n last own other) (all_allowed n own other ns) e in
      ⊎_elim
      (λ had. ⊎_elim inl (λ (is : n ≡ k). inr (subst (Fits own other) is (allowed_fits n last p.0))) (one_more s n k had))
      inr
      (gathered_fits ns (with_serial s n) n p.1 h)

  pub none_had : serials unlisted k ≡ true → ⊥
  none_had h =
      let no = bits_none (0 ∷ []) refl k in
      let z : ◌≡◌ {A = Bool} true false = sym h ∙ no in
      cc

  pub listed_fits : (m : SerialSet) (o : Option (List ℕ)) → worth own other o ≡ Ok m → serials m k ≡ true → Fits own other k
  listed_fits m None e h = cc
  listed_fits m (Some ns) e h = grind (arith, common_steps, gathered_fits ns unlisted 0, none_had)

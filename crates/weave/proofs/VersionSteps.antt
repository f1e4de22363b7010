-- One serial down in the making of a version's set.
use Rattle.std.proofs.Common.{◌≡◌, ℕ, ◌+◌, Bool, true, false, cond, not, ◌&&◌, ◌||◌, eqb, List, [], ◌∷◌, length, Some, None, sym, refl, ap, ◌∙◌, ⊎_elim, arith}
use mathlib.Core.Path.{fun_ext}
use Rattle.std.proofs.lemmas.Bool.{cond-true, cond-false, cases_eq, eq-eqb, ne_eqb}
use Rattle.sets.specs.Bits.{Serials}
use Rattle.head.specs.declared.table.Entry.{Entry}
use Rattle.weave.specs.Tables.{deltas}
use Rattle.weave.specs.Versions.{Lists, Delta, Marked, marks, or_else, marked_or, members}
use Rattle.weave.proofs.OnlySet.{none_beyond}

marks_table : (o i x n : Bool) → or_else (cond o (Some false) (cond i (Some true) None)) (cond x (Some false) (cond n (Some true) None)) ≡ cond (o || (x && not i)) (Some false) (cond (i || n) (Some true) None)
marks_table true i x n = refl
marks_table false true true n = refl
marks_table false true false n = refl
marks_table false false true n = refl
marks_table false false false n = refl

-- the marks after an entry's lists, where no mark stood
pub marks_more : (l e new : Lists) → ((k : ℕ) → new.excludes k ≡ (l.excludes k || (e.excludes k && not (l.includes k)))) → ((k : ℕ) → new.includes k ≡ (l.includes k || e.includes k))
    → (k : ℕ) → marks new k ≡ or_else (marks l k) (marks e k)
marks_more l e new outs ins k =
    ap (λ b. cond b (Some false) (cond (new.includes k) (Some true) None)) (outs k)
    ∙ ap (λ b. cond (l.excludes k || (e.excludes k && not (l.includes k))) (Some false) (cond b (Some true) None)) (ins k)
    ∙ sym (marks_table (l.excludes k) (l.includes k) (e.excludes k) (e.includes k))

or_false : (a b : Bool) → (a || b) ≡ ((a || false) || b)
or_false true b = refl
or_false false b = refl

or_true : (a b : Bool) → (a || true) ≡ ((a || true) || b)
or_true true b = refl
or_true false b = refl

module _ (s : Serials) (e : Delta) (es : List Delta) (v : ℕ) (m : Marked) (n v' : ℕ) (is : n ≡ length es + 1) (reached : v' ≡ cond (eqb v n) e.predecessor v) where
  first_is : (k : ℕ) → members (e ∷ es) v m k
      ≡ cond (eqb k (length es + 1)) (marked_or (m (length es + 1)) (eqb v (length es + 1)))
      (members es (cond (eqb v (length es + 1)) e.predecessor v) (λ j. cond (marked_or (m (length es + 1)) (eqb v (length es + 1))) (or_else (m j) (marks e.lists j)) (m j)) k)
  unfolding members
  first_is k = refl

  down : (b : Bool) (m' : Marked) (k : ℕ) → b ≡ marked_or (m n) (eqb v n) → ((j : ℕ) → m' j ≡ cond b (or_else (m j) (marks e.lists j)) (m j))
      → members (e ∷ es) v m k ≡ cond (eqb k n) b (members es v' m' k)
  down b m' k chosen marked =
      let one : length es + 1 ≡ n = sym is in
      let same : (λ (j : ℕ). cond (marked_or (m n) (eqb v n)) (or_else (m j) (marks e.lists j)) (m j)) ≡ m' =
      fun_ext (λ j. ap (λ c. cond c (or_else (m j) (marks e.lists j)) (m j)) (sym chosen) ∙ sym (marked j)) in
      first_is k
      ∙ ap (λ i. cond (eqb k i) (marked_or (m i) (eqb v i)) (members es (cond (eqb v i) e.predecessor v) (λ j. cond (marked_or (m i) (eqb v i)) (or_else (m j) (marks e.lists j)) (m j)) k)) one
      ∙ ap (λ c. cond (eqb k n) c (members es (cond (eqb v n) e.predecessor v) (λ j. cond (marked_or (m n) (eqb v n)) (or_else (m j) (marks e.lists j)) (m j)) k)) (sym chosen)
      ∙ ap (λ u. cond (eqb k n) b (members es u (λ j. cond (marked_or (m n) (eqb v n)) (or_else (m j) (marks e.lists j)) (m j)) k)) (sym reached)
      ∙ ap (λ f. cond (eqb k n) b (members es v' f k)) same

  -- the serial is in
  pub step_in : (new : Serials) (m' : Marked) → true ≡ marked_or (m n) (eqb v n) → ((k : ℕ) → new k ≡ (s k || eqb n k))
      → ((k : ℕ) → m' k ≡ or_else (m k) (marks e.lists k)) → (k : ℕ) → (s k || members (e ∷ es) v m k) ≡ (new k || members es v' m' k)
  step_in new m' chosen more marked k =
      let rest = members es v' m' k in
      ap (λ b. s k || b) (down true m' k chosen marked)
      ∙ ⊎_elim
      (λ (same : k ≡ n).
      ap (λ b. s k || b) (cond-true _ true rest (eq-eqb k n same)) ∙ or_true (s k) rest ∙ ap (λ b. (s k || b) || rest) (sym (eq-eqb n k (sym same))) ∙ ap (λ b. b || rest) (sym (more k)))
      (λ (apart : k ≡ n → ⊥).
      ap (λ b. s k || b) (cond-false _ true rest (ne_eqb k n apart)) ∙ or_false (s k) rest ∙ ap (λ b. (s k || b) || rest) (sym (ne_eqb n k (λ e. apart (sym e)))) ∙ ap (λ b. b || rest) (sym (more k)))
      (cases_eq k n)

  -- the serial is out
  pub step_out : false ≡ marked_or (m n) (eqb v n) → (k : ℕ) → (s k || members (e ∷ es) v m k) ≡ (s k || members es v' m k)
  step_out chosen k =
      ap (λ b. s k || b)
      (down false m k chosen (λ _. refl)
      ∙ ⊎_elim
      (λ (same : k ≡ n). cond-true _ _ _ (eq-eqb k n same) ∙ sym (none_beyond es v' m k (omega arith)))
      (λ (apart : k ≡ n → ⊥). cond-false _ _ _ (ne_eqb k n apart))
      (cases_eq k n))

or_none : (b : Bool) → (b || false) ≡ b
or_none true = refl
or_none false = refl

-- nothing is left of the table
pub none_left : (es : List Entry) (v : ℕ) (m : Marked) (k : ℕ) (b : Bool) → length es ≡ 0 → (b || members (deltas es) v m k) ≡ b
unfolding members
none_left [] v m k b none = or_none b
none_left (e ∷ es) v m k b none = absurd (omega arith)

-- The records ahead, and one record passed. Assumes nothing.
use Rattle.std.proofs.Common.{◌≡◌, ℕ, ◌+◌, ◌<◌, List, [], ◌∷◌, length, get_or, drop, Some, Ok, Err, Option, sym, refl, ap, ◌∙◌, subst, ⊎_elim}
use Rattle.std.proofs.lemmas.List.{drop_more, drop_all}
use Rattle.std.proofs.lemmas.Bool.{cases_lt}
use Rattle.lines.specs.declared.fault.Cause.TheVariants.{HeadForm}
use Rattle.lines.specs.Faults.{placed}
use Rattle.lines.specs.Lines.{Line}
use Rattle.sets.specs.declared.set.SerialSet.{SerialSet}
use Rattle.records.specs.HeadRecords.{after}
use Rattle.records.specs.SerialLists.{serial_list}
use Rattle.head.specs.Reading.{here, list_at, Takes}

module _ (ls : List Line) (k : ℕ) (l : Line) (is : here (k + 1, drop k ls) ≡ Ok l) where
  -- the next record of the lines after the first k
  pub inside : k < length ls
  inside =
      ⊎_elim (λ h. h)
      (λ h. let no : here (k + 1, drop k ls) ≡ Err (placed HeadForm (k + 1)) = ap (λ (xs : List Line). here (k + 1, xs)) (drop_all k ls h) in cc)
      (cases_lt k (length ls))

  pub onward : drop k ls ≡ l ∷ drop (k + 1) ls
  onward =
      let more : drop k ls ≡ get_or ls k [] ∷ drop (k + 1) ls = drop_more ls k [] inside in
      let it : here (k + 1, drop k ls) ≡ Ok (get_or ls k []) = ap (λ (xs : List Line). here (k + 1, xs)) more in
      let same : get_or ls k [] ≡ l = cc in
      more ∙ ap (λ x. x ∷ drop (k + 1) ls) same

  pub taken_on : {A : Type 0} (R : Line → Option A → Type 0) (v : A) → R l (Some v) → Takes R (k + 1, drop k ls) (Ok v) (k + 1 + 1, drop (k + 1) ls)
  taken_on R v r = subst (λ xs. Takes R (k + 1, xs) (Ok v) (k + 1 + 1, drop (k + 1) ls)) (sym onward) (Some v, r, refl)

  module _ (mark : Line) (own : ℕ) (other : SerialSet) (rest : Line) (has : after mark l ≡ Some rest) where
    pub listed_on : (m : SerialSet) → serial_list own other rest ≡ Ok m → Ok (m, (k + 1 + 1, drop (k + 1) ls)) ≡ list_at mark own other (k + 1, drop k ls)
    listed_on m s = rw (onward, has, s) refl

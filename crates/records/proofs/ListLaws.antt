-- A list of serials, read one by one. Assumes nothing.
use Rattle.std.proofs.Common.{◌≡◌, ℕ, ◌+◌, true, false, cond, ◌&&◌, List, [], ◌∷◌, ◌++◌, length, drop, Some, None, Ok, Err, Option, Result, sym, refl, ap, ◌∙◌, length-append}
use denote.Ref.{Bor}
use Rattle.std.specs.Option.{option_map, ok_or}
use Rattle.lines.specs.declared.fault.Cause.{Cause}
use Rattle.lines.specs.declared.fault.Cause.TheVariants.{HeadForm, HeadContent}
use Rattle.sets.specs.declared.set.SerialSet.{SerialSet}
use Rattle.sets.specs.Serials.{with_serial, gathered}
use Rattle.records.specs.Numerals.{and_then, serial_number}
use Rattle.records.specs.SerialLists.{numbers, allowed, all_allowed}

-- what a list is worth where the numbers in o are still to come, after `last`; `list` has the set of those before, or none once one was not allowed
abbrev pub judged : ℕ → Option SerialSet → ℕ → SerialSet → Option (List ℕ) → Result SerialSet Cause
judged last list own other None = Err HeadForm
judged last None own other (Some ns) = Err HeadContent
judged last (Some set) own other (Some ns) = cond (all_allowed last own other ns) (Ok (gathered set ns)) (Err HeadContent)

module _ (own : ℕ) (other : SerialSet) where
  pub finish : (last : ℕ) (list : Option SerialSet) → judged last list own other (numbers []) ≡ ok_or list HeadContent
  finish last None = refl
  finish last (Some set) = refl

  -- n before the numbers in o: it is allowed, or not, or one before it was not
  yes_more : (n last : ℕ) (set : SerialSet) (o : Option (List ℕ)) → allowed n last own other ≡ true → judged last (Some set) own other (option_map (λ ns. n ∷ ns) o) ≡ judged n (Some (with_serial set n)) own other o
  yes_more n last set None e = refl
  yes_more n last set (Some ns) e = ap (λ t. cond (t && all_allowed n own other ns) (Ok (gathered (with_serial set n) ns)) (Err HeadContent)) e

  no_more : (n last : ℕ) (set : SerialSet) (o : Option (List ℕ)) → allowed n last own other ≡ false → judged last (Some set) own other (option_map (λ ns. n ∷ ns) o) ≡ judged n None own other o
  no_more n last set None e = refl
  no_more n last set (Some ns) e = ap (λ t. cond (t && all_allowed n own other ns) (Ok (gathered (with_serial set n) ns)) (Err HeadContent)) e

  never_more : (n last : ℕ) (o : Option (List ℕ)) → judged last None own other (option_map (λ ns. n ∷ ns) o) ≡ judged n None own other o
  never_more n last None = refl
  never_more n last (Some ns) = refl

  -- of the words ps those in ys were read, and w is the next
  module _ (ps : List (List ℕ)) (ys : List (Bor (List ℕ))) (w : Bor (List ℕ)) (more : drop (length ys) ps ≡ w.now ∷ drop (length ys + 1) ps) (last : ℕ) (list : Option SerialSet) where
    pub read : (o : Option ℕ) → serial_number w.now ≡ o → judged last list own other (numbers (drop (length ys) ps)) ≡ judged last list own other (and_then o (λ n. option_map (λ ns. n ∷ ns) (numbers (drop (length ys + 1) ps))))
    read o e =
        ap (λ v. judged last list own other (numbers v)) more ∙ ap (λ o. judged last list own other (and_then o (λ n. option_map (λ ns. n ∷ ns) (numbers (drop (length ys + 1) ps))))) e

    module _ (n : ℕ) (e : serial_number w.now ≡ Some n) where
      abbrev To : Option SerialSet → Type 0
      To next = judged n next own other (numbers (drop (length (ys ++ w ∷ [])) ps)) ≡ judged last list own other (numbers (drop (length ys) ps))

      on : (next : Option SerialSet) → ((o : Option (List ℕ)) → judged last list own other (option_map (λ ns. n ∷ ns) o) ≡ judged n next own other o) → To next
      on next step = ap (λ k. judged n next own other (numbers (drop k ps))) (length-append ys (w ∷ [])) ∙ sym (read (Some n) e ∙ step (numbers (drop (length ys + 1) ps)))

      pub taken : (set : SerialSet) → list ≡ Some set → allowed n last own other ≡ true → To (Some (with_serial set n))
      taken set is a = on (Some (with_serial set n)) (λ o. ap (λ s. judged last s own other (option_map (λ ns. n ∷ ns) o)) is ∙ yes_more n last set o a)

      pub refused : (set : SerialSet) → list ≡ Some set → allowed n last own other ≡ false → To None
      refused set is a = on None (λ o. ap (λ s. judged last s own other (option_map (λ ns. n ∷ ns) o)) is ∙ no_more n last set o a)

      pub passed : list ≡ None → To None
      passed is = on None (λ o. ap (λ s. judged last s own other (option_map (λ ns. n ∷ ns) o)) is ∙ never_more n last o)

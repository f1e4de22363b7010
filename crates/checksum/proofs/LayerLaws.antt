-- Laws of the lines and the draft above those below. Assumes nothing.
use Rattle.std.proofs.Common.{◌≡◌, ℕ, suc, ◌+◌, ◌-◌, ◌≤◌, Bool, true, false, cond, not, eqb, leb, List, [], ◌∷◌, ◌++◌, length, set, is_some, Some, None, Ok, Err, ◌||◌, Option, sym, refl, ap, ◌∙◌, ⊎_elim, arith}
use Rattle.std.proofs.lemmas.Bool.{eqb-false, or_parts, cases_Bool, cases_lt, eqb-true, eq-eqb, cond-true, cond-false, both_ways}
use Rattle.std.proofs.lemmas.Grind.{common_steps}
use Rattle.lines.specs.declared.fault.Cause.TheVariants.{NoSuchLine, NotALine, NoRoom, OtherLength}
use Rattle.lines.specs.Faults.{Refusal, accepted, plain, when, verdict, left}
use Rattle.lines.specs.Lines.{Line, is_line, line_of, lacks, draft_lines, room, put_refusal, read_refusal, look_refusal, add_refusal, patch_refusal, keep_refusal}
use Rattle.lines.specs.Stores.{Store, drafting, rewritten, added, patched, kept}
use Rattle.lines.proofs.LineLaws.{lacks_past, lacks_not, patch_is}
use Rattle.checksum.specs.Layer.{rest, layer_health, above, limits_above, number_below, over, added_below, patched_below, kept_below}
use Rattle.checksum.specs.Sum.{sum_of, marked}
use Rattle.checksum.proofs.SumLaws.{rest_line, length_rest, summed_marked}

-- reads of line n + 1 below are reads of line n above
lacks_rest : (ls : List Line) (n : ℕ) → 1 ≤ n → lacks ls (n + 1) ≡ lacks (rest ls) n
lacks_rest ls n one =
    let size = length_rest ls in
    ⊎_elim
    (λ o. lacks_past ls (n + 1) (omega arith) ∙ sym (lacks_past (rest ls) n o))
    (λ o. lacks_not ls (n + 1) (omega arith) (omega arith) ∙ sym (lacks_not (rest ls) n one o))
    (cases_lt (length (rest ls)) n)

pub read_rest : (ls : List Line) (n space : ℕ) → 1 ≤ n → read_refusal ls (n + 1) space ≡ read_refusal (rest ls) n space
read_rest ls n space one =
    ap (λ b. when b (plain NoSuchLine) (put_refusal (length (line_of ls (n + 1))) space)) (lacks_rest ls n one)
    ∙ ap (λ l. when (lacks (rest ls) n) (plain NoSuchLine) (put_refusal (length l) space)) (rest_line ls n one)

-- is there a draft above?
abbrev is_open : Option (List Line) → Bool
is_open d = is_some (above d)

seven : (f : Line) (d : List Line) → is_open (Some (f ∷ d)) ≡ true → eqb (length f) 7 ≡ true
seven f d h =
    ⊎_elim (λ e. e) (λ e. absurd (both_ways (is_open (Some (f ∷ d))) (ap is_some (cond-false (eqb (length f) 7) (Some d) None e)) h)) (cases_Bool (eqb (length f) 7))

-- a draft that is there above, with the first line below
record Opened (D : Option (List Line)) : Type 0 where
  first : Line
  others : List Line
  is : D ≡ Some (first ∷ others)
  up : above D ≡ Some others
  size : length first ≡ 7

opened : (D : Option (List Line)) → is_open D ≡ true → Opened D
opened None h = let z : ◌≡◌ {A = ℕ} 0 1 = cc in absurd (omega arith)
opened (Some []) h = let z : ◌≡◌ {A = ℕ} 0 1 = cc in absurd (omega arith)
opened (Some (f ∷ d)) h =
    let e = seven f d h in
    record { first = f; others = d; is = refl; up = cond-true (eqb (length f) 7) (Some d) None e; size = eqb-true (length f) 7 e }

above_first : (f : Line) (d : List Line) → length f ≡ 7 → above (Some (f ∷ d)) ≡ Some d
above_first f d e = cond-true (eqb (length f) 7) (Some d) None (eq-eqb (length f) 7 e)

-- what the layer means over a store that a call changed, unless it was refused
over_changed : (q : Refusal) (ls ks : List Line) (s : Store) → above (Some ls) ≡ Some ks → over (left q (drafting ls s) s) ≡ left q (drafting ks (over s)) (over s)
over_changed None ls ks s e =
    λ i. record { lines = rest s.lines; health = layer_health s.health s.lines; draft = e i; limits = limits_above s.limits; bottom = s.bottom }
over_changed (Some f) ls ks s e = refl

over_rewritten : (q : Refusal) (d : List Line) (s : Store) → over (left q (rewritten (marked (sum_of d) ∷ d) s) s) ≡ left q (rewritten d (over s)) (over s)
over_rewritten None d s =
    λ i. record { lines = d; health = cond (summed_marked d i) 0 4; draft = None; limits = limits_above s.limits; bottom = s.bottom }
over_rewritten (Some f) d s = refl

pub over_kept : (s : Store) → over (kept_below s) ≡ kept (over s)
over_kept s = over_rewritten (keep_refusal (above s.draft)) (draft_lines (above s.draft)) s

-- a line has room behind a first line of 7 bytes where it has room above
room_above : (lim : ℕ × ℕ) (f : Line) (d : List Line) (l : Line) → length f ≡ 7 → room lim (f ∷ d) l ≡ room (limits_above lim) d l
room_above lim f d l size = grind (arith, common_steps)

-- a number that line n has below
pub number_is : (n k : ℕ) → Ok k ≡ number_below n → (1 ≤ n) × (k ≡ n + 1)
number_is n k is =
    let q : Refusal = when (eqb n 0 || leb 4000 n) (plain NoSuchLine) accepted in
    ⊎_elim
    (λ (h : (eqb n 0 || leb 4000 n) ≡ true). let never : Ok k ≡ Err (plain NoSuchLine) = is ∙ ap (λ b. verdict (when b (plain NoSuchLine) accepted) (n + 1)) h in let z : ◌≡◌ {A = ℕ} 0 1 = cc in absurd (omega arith))
    (λ (h : (eqb n 0 || leb 4000 n) ≡ false).
    let same : Ok k ≡ Ok (n + 1) = is ∙ ap (λ b. verdict (when b (plain NoSuchLine) accepted) (n + 1)) h in
    let apart = eqb-false n 0 (or_parts (eqb n 0) (leb 4000 n) h).0 in
    (omega (arith, apart), cc))
    (cases_Bool (eqb n 0 || leb 4000 n))

-- a draft that can be kept is there
pub draft_is_open : (d : Option (List Line)) → keep_refusal d ≡ accepted → is_some d ≡ true
draft_is_open None h = let z : ◌≡◌ {A = ℕ} 0 1 = cc in absurd (omega arith)
draft_is_open (Some d) h = refl

module _ (D : Option (List Line)) (open' : is_open D ≡ true) where
  o : Opened D
  o = opened D open'

  pub look_below : (n space : ℕ) → 1 ≤ n → look_refusal D (n + 1) space ≡ look_refusal (above D) n space
  look_below n space one =
      ap (λ x. look_refusal x (n + 1) space) o.is ∙ read_rest (o.first ∷ o.others) n space one ∙ ap (λ x. look_refusal x n space) (sym o.up)

  pub look_line : (n : ℕ) → 1 ≤ n → line_of (draft_lines D) (n + 1) ≡ line_of (draft_lines (above D)) n
  look_line n one =
      ap (λ x. line_of (draft_lines x) (n + 1)) o.is ∙ rest_line (o.first ∷ o.others) n one ∙ ap (λ x. line_of (draft_lines x) n) (sym o.up)

  pub patch_below : (n : ℕ) (l : Line) → 1 ≤ n → patch_refusal D (n + 1) l ≡ patch_refusal (above D) n l
  patch_below n l one =
      let ls : List Line = o.first ∷ o.others in
      ap (λ x. patch_refusal x (n + 1) l) o.is
      ∙ ap (λ b. when (not (is_line l)) (plain NotALine) (when b (plain NoSuchLine) (when (not (eqb (length l) (length (line_of ls (n + 1))))) (plain OtherLength) accepted))) (lacks_rest ls n one)
      ∙ ap (λ k. when (not (is_line l)) (plain NotALine) (when (lacks o.others n) (plain NoSuchLine) (when (not (eqb (length l) (length k))) (plain OtherLength) accepted))) (rest_line ls n one)
      ∙ ap (λ x. patch_refusal x n l) (sym o.up)

  -- a line of 7 bytes takes the place of the first line below
  pub first_patch : (l : Line) → is_line l ≡ true → length l ≡ 7 → patch_refusal D 1 l ≡ accepted
  first_patch l g e = patch_is o.is l g 1 (omega arith) (omega arith) true (sym (eq-eqb (length l) (length o.first) (e ∙ sym o.size)))

-- the layer over a store whose draft it sees, once that was added to or patched
module _ (s : Store) (open' : is_open s.draft ≡ true) where
  below : Opened s.draft
  below = opened s.draft open'

  pub added_is : (l : Line) → added l s ≡ added_below l s
  added_is l =
      ap (λ q. left q (drafting (draft_lines s.draft ++ (l ∷ [])) s) s)
      (ap (λ x. add_refusal x s.limits l) below.is ∙ ap (λ r. when (not (is_line l)) (plain NotALine) (when (not r) (plain NoRoom) accepted)) (room_above s.limits below.first below.others l below.size)
      ∙ ap (λ x. add_refusal x (limits_above s.limits) l) (sym below.up))

  pub over_added : (l : Line) → over (added_below l s) ≡ added l (over s)
  over_added l =
      over_changed (add_refusal (above s.draft) (limits_above s.limits) l) (draft_lines s.draft ++ (l ∷ [])) (draft_lines (above s.draft) ++ (l ∷ [])) s
      (ap (λ x. above (Some (draft_lines x ++ (l ∷ [])))) below.is ∙ above_first below.first (below.others ++ (l ∷ [])) below.size ∙ ap (λ x. Some (draft_lines x ++ (l ∷ []))) (sym below.up))

  pub patched_is : (n : ℕ) (l : Line) → 1 ≤ n → patched (n + 1) l s ≡ patched_below n l s
  patched_is n l one =
      let at : n + 1 - 1 ≡ n = omega arith in
      ap (λ q. left q (drafting (set (draft_lines s.draft) (n + 1 - 1) l) s) s) (patch_below s.draft open' n l one)
      ∙ ap (λ i. left (patch_refusal (above s.draft) n l) (drafting (set (draft_lines s.draft) i l) s) s) at

  pub over_patched : (n : ℕ) (l : Line) → 1 ≤ n → over (patched_below n l s) ≡ patched n l (over s)
  over_patched n l one =
      let k : n ≡ suc (n - 1) = omega arith in
      over_changed (patch_refusal (above s.draft) n l) (set (draft_lines s.draft) n l) (set (draft_lines (above s.draft)) (n - 1) l) s
      (ap (λ x. above (Some (set (draft_lines x) n l))) below.is ∙ ap (λ i. above (Some (set (below.first ∷ below.others) i l))) k ∙ above_first below.first (set below.others (n - 1) l) below.size ∙ ap (λ x. Some (set (draft_lines x) (n - 1) l)) (sym below.up))

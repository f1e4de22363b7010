-- A block's list, draft and limits are those of a line store, if a sheet's lines are lines. Assumes nothing.
--
-- length-firsts, all_firsts                 how many lines `firsts` has, and what holds of each
-- Standing                                  what `stands` says, fact by fact; `standing` takes it apart
-- list_lawful, draft_lawful, limits_lawful  list, draft and limits of a block are those of a line store
use Rattle.std.specs.Prelude.{◌≡◌, ℕ, zero, suc, ◌*◌, ◌≤◌, true, ◌&&◌, List, [], length, Some, None, Option, option_map, unwrap_or, nat_le, refl}
use Rattle.std.proofs.Common.{sym, ap, subst, ◌∙◌, ⊎_elim, arith}
use Rattle.std.specs.List.{AllByRecursion}
use Rattle.std.proofs.lemmas.List.{length_push}
use Rattle.std.proofs.ByRecursion.{All-push}
use Rattle.std.proofs.lemmas.Bool.{cases_Bool, and_parts, leb-true, cond-true, cond-false}
use Rattle.lines.specs.Lines.{Line, is_line, Lawful, LawfulDraft, LawfulLimits}
use Rattle.blocks.specs.declared.marks.Marks.{Marks}
use Rattle.blocks.specs.Numbers.{other, drafts, within}
use Rattle.blocks.specs.Blocks.{Meaning, Size, firsts, fits, size_of, stands, sheet_of, list_of, draft_of, limits_of}

pub length-firsts : (f : ℕ → Line) (n : ℕ) → length (firsts f n) ≡ n
length-firsts f zero = refl
length-firsts f (suc n) = length_push (firsts f n) (f n) ∙ (rw (length-firsts f n) (omega arith))

pub all_firsts : (P : Line → Type 0) (f : ℕ → Line) → ((i : ℕ) → P (f i)) → (n : ℕ) → AllByRecursion P (firsts f n)
all_firsts P f h zero = tt
all_firsts P f h (suc n) = All-push P (firsts f n) (f n) (all_firsts P f h n) (h n)

-- what `stands` says
pub record Standing (size : Size) (b : List ℕ) (m : Marks) : Type 0 where
  pub few : m.lines ≤ 4000
  pub small : m.bytes ≤ 24000
  pub counted : m.count ≤ m.lines
  pub drafts : drafts m ≤ m.lines
  pub sheets : 2 * size_of size m ≤ length b

pub standing : (size : Size) (b : List ℕ) (m : Marks) → stands size b m ≡ true → Standing size b m
standing size b m h =
    let p = and_parts (fits size m.lines m.bytes (length b)) (within m) h in
    let q = and_parts (nat_le m.lines 4000) (nat_le m.bytes 24000 && nat_le (2 * size_of size m) (length b)) p.0 in
    let r = and_parts (nat_le m.bytes 24000) (nat_le (2 * size_of size m) (length b)) q.1 in
    let s = and_parts (nat_le m.count m.lines) (nat_le (drafts m) m.lines) p.1 in
    record { few = leb-true _ _ q.0; small = leb-true _ _ r.0; counted = leb-true _ _ s.0; drafts = leb-true _ _ s.1; sheets = leb-true _ _ r.1 }

lawful_map : (f : ℕ → List Line) (o : Option ℕ) → ((n : ℕ) → o ≡ Some n → Lawful (f n)) → LawfulDraft (option_map f o)
lawful_map f None h = tt
lawful_map f (Some n) h = h n refl

module _ (lines : Meaning) (size : Size) (size_is : (L : ℕ) (s : List ℕ) (n : ℕ) → length (lines L s n) ≡ n) (lines_are : (L : ℕ) (s : List ℕ) (n : ℕ) → AllByRecursion (λ l. is_line l ≡ true) (lines L s n)) (b : List ℕ) (m : Marks) where
  lawful_lines : (s : List ℕ) (n : ℕ) → stands size b m ≡ true → n ≤ m.lines → Lawful (lines m.lines s n)
  lawful_lines s n h few =
      let k = (standing size b m h).few in let l = size_is m.lines s n in (omega arith, lines_are m.lines s n)

  pub list_lawful : Lawful (list_of lines size b m)
  list_lawful =
      let s : List ℕ = sheet_of (size_of size m) b m.list in
      ⊎_elim
      (λ h. subst Lawful (sym (cond-true (stands size b m) (lines m.lines s m.count) [] h)) (lawful_lines s m.count h (standing size b m h).counted))
      (λ h. subst Lawful (sym (cond-false (stands size b m) (lines m.lines s m.count) [] h)) (omega arith, tt))
      (cases_Bool (stands size b m))

  pub draft_lawful : LawfulDraft (draft_of lines size b m)
  draft_lawful =
      let s : List ℕ = sheet_of (size_of size m) b (other m.list) in
      let d : Option (List Line) = option_map (lines m.lines s) m.draft in
      ⊎_elim
      (λ h. subst LawfulDraft (sym (cond-true (stands size b m) d None h))
      (lawful_map (lines m.lines s) m.draft (λ n e. let k = (standing size b m h).drafts in let is : unwrap_or m.draft 0 ≡ n = ap (λ o. unwrap_or o 0) e in lawful_lines s n h (omega arith))))
      (λ h. subst LawfulDraft (sym (cond-false (stands size b m) d None h)) tt)
      (cases_Bool (stands size b m))

pub limits_lawful : (size : Size) (b : List ℕ) (m : Marks) → LawfulLimits (limits_of size b m)
limits_lawful size b m =
    ⊎_elim
    (λ h. let st = standing size b m h in subst LawfulLimits (sym (cond-true (stands size b m) (m.lines, m.bytes) (0, 0) h)) (st.few, st.small))
    (λ h. subst LawfulLimits (sym (cond-false (stands size b m) (m.lines, m.bytes) (0, 0) h)) (omega arith, omega arith))
    (cases_Bool (stands size b m))

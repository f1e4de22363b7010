-- Laws of lines, and of what a read answers. Assumes nothing.
use Rattle.std.proofs.Common.{◌≡◌, ℕ, ◌+◌, ◌-◌, ◌<◌, ◌≤◌, Bool, true, false, not, eqb, ltb, leb, ◌⊎◌, List, [], length, Some, None, Ok, Err, Option, cond, sym, refl, ap, ◌∙◌, subst, inl, inr, ⊎_elim, arith}
use Rattle.std.proofs.ByRecursion.{All-get_or}
use Rattle.std.proofs.lemmas.List.{get_or_past}
use Rattle.std.proofs.lemmas.Bool.{cases_lt, eq-eqb, ne_eqb, lt-ltb, le-ltb, leb-true, and_parts, or_left, or_right, or_from, cond-true, cond-false, ltb-true, not_from_true}
use Rattle.lines.specs.declared.fault.Fault.{Fault}
use Rattle.lines.specs.declared.fault.Cause.TheVariants.{NoSuchLine, ReadBufferShort, NoRoom, OtherLength}
use Rattle.lines.specs.Faults.{Refusal, accepted, plain, when, verdict}
use Rattle.lines.specs.Lines.{Line, no_lf, is_line, Lawful, line_of, lacks, fetched, total, room, put_refusal, read_refusal, add_refusal, patch_refusal}

-- a line has at most 240 bytes
pub line_short : (l : Line) → is_line l ≡ true → length l ≤ 240
line_short l h = leb-true (length l) 240 (and_parts (leb (length l) 240) (no_lf l) h).0

pub short_of : (ls : List Line) (n : ℕ) → Lawful ls → length (line_of ls n) ≤ 240
short_of ls n h =
    ⊎_elim (λ o. line_short (line_of ls n) (All-get_or (λ l. is_line l ≡ true) ls (n - 1) [] o h.1)) (λ o. subst (λ l. length l ≤ 240) (sym (get_or_past ls (n - 1) [] o)) (omega arith)) (cases_lt (n - 1) (length ls))

-- is there a line n?
pub lacks_zero : (ls : List Line) (n : ℕ) → n ≡ 0 → lacks ls n ≡ true
lacks_zero ls n z = or_left (eqb n 0) (ltb (length ls) n) (eq-eqb n 0 z)

pub lacks_past : (ls : List Line) (n : ℕ) → length ls < n → lacks ls n ≡ true
lacks_past ls n o = or_right (eqb n 0) (ltb (length ls) n) (lt-ltb (length ls) n o)

pub lacks_none : (ls : List Line) (n : ℕ) → (n ≡ 0) ⊎ (length ls < n) → lacks ls n ≡ true
lacks_none ls n (inl z) = lacks_zero ls n z
lacks_none ls n (inr o) = lacks_past ls n o

pub lacks_not : (ls : List Line) (n : ℕ) → 1 ≤ n → n ≤ length ls → lacks ls n ≡ false
lacks_not ls n one o = or_from (eqb n 0) (ltb (length ls) n) (ne_eqb n 0 (λ z. omega arith)) (le-ltb (length ls) n o)

-- a check that does not hold, and one that does
pub check_fails : (b : Bool) (f : Fault) (r : Refusal) → b ≡ true → when b f r ≡ Some f
check_fails b f r h = cond-true b (Some f) r h

pub check_passes : (b : Bool) (f : Fault) (r : Refusal) → b ≡ false → when b f r ≡ r
check_passes b f r h = cond-false b (Some f) r h

-- a call that answers its value is accepted
pub accepted_ok : {A : Type 0} (q : Refusal) (a : A) (x : A) → Ok x ≡ verdict q a → q ≡ accepted
accepted_ok None a x e = refl
accepted_ok (Some f) a x e = let z : ◌≡◌ {A = ℕ} 0 1 = cc in absurd (omega arith)

-- a read of a line that is not there, and of one that is
pub read_none : (ls : List Line) (n space : ℕ) → (n ≡ 0) ⊎ (length ls < n) → read_refusal ls n space ≡ Some (plain NoSuchLine)
read_none ls n space h = check_fails _ _ _ (lacks_none ls n h)

pub read_some : (ls : List Line) (n space : ℕ) → 1 ≤ n → n ≤ length ls → read_refusal ls n space ≡ put_refusal (length (line_of ls n)) space
read_some ls n space one o = check_passes _ _ _ (lacks_not ls n one o)

pub put_short : (len space : ℕ) → space < len → put_refusal len space ≡ Some (plain ReadBufferShort)
put_short len space h = check_fails _ _ _ (lt-ltb space len h)

pub put_fits : (len space : ℕ) → len ≤ space → put_refusal len space ≡ accepted
put_fits len space h = check_passes _ _ _ (le-ltb space len h)

-- a read into room for any line is refused only where there is no such line
read_whole : (ls : List Line) (n space : ℕ) → Lawful ls → 240 ≤ space → read_refusal ls n space ≡ when (lacks ls n) (plain NoSuchLine) accepted
read_whole ls n space h o =
    let short = short_of ls n h in
    ap (when (lacks ls n) (plain NoSuchLine)) (put_fits (length (line_of ls n)) space (omega arith))

refused_none : (t : Bool) (l : Line) (f : Fault) → Err f ≡ verdict (when t (plain NoSuchLine) accepted) (length l) → None ≡ cond t None (Some l)
refused_none true l f e = refl
refused_none false l f e = let z : ◌≡◌ {A = ℕ} 0 1 = cc in absurd (omega arith)

pub fetched_none : (ls : List Line) (n space : ℕ) (f : Fault) → Lawful ls → 240 ≤ space → Err f ≡ verdict (read_refusal ls n space) (length (line_of ls n)) → None ≡ fetched ls n
fetched_none ls n space f h o e =
    refused_none (lacks ls n) (line_of ls n) f (e ∙ ap (λ q. verdict q (length (line_of ls n))) (read_whole ls n space h o))

-- what a call on a draft that is there is refused with; t is the outcome of its last test
module _ {D : Option (List Line)} {d : List Line} (is : D ≡ Some d) (l : Line) (g : is_line l ≡ true) where
  pub add_is : {lim lim' : ℕ × ℕ} → lim ≡ lim' → (t : Bool) → t ≡ room lim' d l → add_refusal D lim l ≡ when (not t) (plain NoRoom) accepted
  add_is {lim} {lim'} s t e =
      ap (λ x. add_refusal x lim l) is ∙ ap (λ x. add_refusal (Some d) x l) s ∙ check_passes _ _ _ (not_from_true (is_line l) g) ∙ ap (λ x. when (not x) (plain NoRoom) accepted) (sym e)

  pub patch_none : (n : ℕ) → (n ≡ 0) ⊎ (length d < n) → patch_refusal D n l ≡ Some (plain NoSuchLine)
  patch_none n h =
      ap (λ x. patch_refusal x n l) is ∙ check_passes _ _ _ (not_from_true (is_line l) g) ∙ check_fails _ _ _ (lacks_none d n h)

  pub patch_is : (n : ℕ) → 1 ≤ n → n ≤ length d → (t : Bool) → t ≡ eqb (length l) (length (line_of d n)) → patch_refusal D n l ≡ when (not t) (plain OtherLength) accepted
  patch_is n one o t e =
      ap (λ x. patch_refusal x n l) is ∙ check_passes _ _ _ (not_from_true (is_line l) g) ∙ check_passes _ _ _ (lacks_not d n one o) ∙ ap (λ x. when (not x) (plain OtherLength) accepted) (sym e)

-- where there is room, the draft has one line less than the limit at least
pub room_few : (L B : ℕ) (d : List Line) (l : Line) (n : ℕ) → length d ≡ n → room (L, B) d l ≡ true → n + 1 ≤ L
room_few L B d l n e h =
    let lt = ltb-true (length d) L (and_parts (ltb (length d) L) (leb (total d + length l) B) h).0 in
    omega arith

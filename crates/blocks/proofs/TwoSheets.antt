-- Laws of a block with two sheets, for any meaning of a sheet and any size. Assumes nothing.
use Rattle.std.proofs.Common.{◌≡◌, ℕ, ◌+◌, ◌-◌, ◌*◌, ◌≤◌, Bool, true, false, cond, ◌&&◌, List, [], ◌∷◌, ◌++◌, length, take, drop, Some, None, sym, refl, ap, ◌∙◌, subst, ⊎_elim, arith}
use borrow.Rule.Slice.PartMut.{put_mid}
use Rattle.std.specs.Prelude.{option_map, MatchResult, Result, slice_set}
use Rattle.std.proofs.lemmas.Slice.{take-put_mid_below, between-put_mid, drop-put_mid}
use Rattle.std.proofs.lemmas.List.{length-take, length-drop, nil_from_length}
use Rattle.std.proofs.lemmas.Bool.{cond-true, cond-false, and_parts, and_from, cases_Bool, le-leb}
use Rattle.lines.specs.declared.fault.Fault.{Fault}
use Rattle.lines.specs.Faults.{Refusal, accepted, verdict, left}
use Rattle.lines.specs.Lines.{Line, draft_lines, add_refusal, patch_refusal}
use Rattle.lines.specs.Stores.{Store, drafting, added, patched}
use Rattle.blocks.specs.declared.marks.Half.{Half}
use Rattle.blocks.specs.declared.marks.Half.TheVariants.{First, Second}
use Rattle.blocks.specs.declared.marks.Marks.{Marks}
use Rattle.blocks.specs.declared.tally.Tally.{Tally}
use Rattle.blocks.specs.Numbers.{other, base, within, fresh}
use Rattle.blocks.specs.Blocks.{Meaning, Size, fits, size_of, stands, sheet_of, list_of, draft_of, limits_of, health_of, store_of, Begins, Laid, LaidOut, Tallied}
use Rattle.blocks.specs.BlockLaws.{standing}
use Rattle.blocks.proofs.PartLaws.{length-mid}

-- the part of a block that is lent as a sheet, from a to z
abbrev pub part : List ℕ → ℕ → ℕ → List ℕ
part b a z = take (z - a) (drop a b)

-- the block after that part was changed to y
abbrev pub after : List ℕ → ℕ → ℕ → List ℕ → List ℕ
after b a z y = put_mid a (z - a) b y

other_twice : (h : Half) → other (other h) ≡ h
other_twice First = refl
other_twice Second = refl

base_le : (k : ℕ) (h : Half) → base k h ≤ k
base_le k First = omega arith
base_le k Second = omega arith

-- a write to the sheet on the half h leaves the other
others_at : (b y : List ℕ) (k : ℕ) (h : Half) (a z : ℕ) → a ≡ base k h → z ≡ base k h + k → 2 * k ≤ length b → length y ≡ k → sheet_of k (after b a z y) (other h) ≡ sheet_of k b (other h)
others_at b y k First a z from to two l = ap (λ s. take k s) (drop-put_mid a (z - a) b y k (omega arith) (omega arith) (omega arith))
others_at b y k Second a z from to two l = take-put_mid_below a (z - a) b y k (omega arith) (omega arith)

-- the sheet on the half h, from a to z in a block b with two sheets of k bytes
module _ (b : List ℕ) (k : ℕ) (h : Half) (a z : ℕ) (from : a ≡ base k h) (to : z ≡ base k h + k) (two : 2 * k ≤ length b) where
  long : z - a ≡ k
  long = omega arith

  inside : a + k ≤ length b
  inside = let w = base_le k h in omega arith

  pub part_is : part b a z ≡ sheet_of k b h
  part_is = rw (long, from) refl

  pub part_size : length (part b a z) ≡ k
  part_size = let w = inside in let l = long in simp (length-take, length-drop) (omega arith)

  -- it is changed to y: so is that sheet, and the other is as it was
  module _ (y : List ℕ) (ly : length y ≡ length (part b a z)) where
    as_long : length y ≡ k
    as_long = ly ∙ part_size

    pub same_length : length (after b a z y) ≡ length b
    same_length = let w = inside in let f = as_long in let l = long in length-mid a (z - a) b y (omega arith) (omega arith)

    pub own : sheet_of k (after b a z y) h ≡ y
    own =
        let w = inside in
        let f = as_long in
        let l = long in
        ap (λ n. take n (drop (base k h) (after b a z y))) (sym l) ∙ ap (λ n. take (z - a) (drop n (after b a z y))) (sym from)
        ∙ between-put_mid a (z - a) b y z (omega arith) (omega arith)

    pub others : sheet_of k (after b a z y) (other h) ≡ sheet_of k b (other h)
    others = others_at b y k h a z from to two as_long

-- a store that stands
module _ (lines : Meaning) (size : Size) (b : List ℕ) (m : Marks) (r : stands size b m ≡ true) where
  list_at : list_of lines size b m ≡ lines m.lines (sheet_of (size_of size m) b m.list) m.count
  list_at = cond-true _ _ _ r

  draft_at : (n : ℕ) → m.draft ≡ Some n → draft_of lines size b m ≡ Some (lines m.lines (sheet_of (size_of size m) b (other m.list)) n)
  draft_at n o = cond-true _ _ _ r ∙ ap (option_map (lines m.lines (sheet_of (size_of size m) b (other m.list)))) o

-- the same lines on the same sheet
moved : (laid : Laid) (L : ℕ) (s s' : List ℕ) (ls ls' : List Line) → s ≡ s' → ls ≡ ls' → laid L s ls → laid L s' ls'
moved laid L s s' ls ls' e f h = subst (λ z. laid L z ls') e (subst (λ z. laid L s z) f h)

-- the numbers with a draft of n lines
abbrev pub with_draft : Marks → ℕ → Marks
with_draft m n = record { lines = m.lines; bytes = m.bytes; list = m.list; count = m.count; draft = Some n }

-- another draft, of n lines
stands_with : (size : Size) (b : List ℕ) (m : Marks) (n : ℕ) → stands size b m ≡ true → n ≤ m.lines → stands size b (with_draft m n) ≡ true
stands_with size b m n r few =
    let fit = (and_parts (fits size m.lines m.bytes (length b)) (within m) r).0 in
    and_from (fits size m.lines m.bytes (length b)) (within (with_draft m n)) fit (and_from _ _ (le-leb _ _ (standing size b m r).counted) (le-leb _ _ few))

-- the store with that draft: nothing else changed where its list is the same
store_with : (lines : Meaning) (size : Size) (k : ℕ) (b b' : List ℕ) (m : Marks) (n : ℕ) (ls : List Line) → stands size b m ≡ true → stands size b' (with_draft m n) ≡ true → list_of lines size b' (with_draft m n) ≡ list_of lines size b m → draft_of lines size b' (with_draft m n) ≡ Some ls → store_of lines size k b' (with_draft m n) ≡ drafting ls (store_of lines size k b m)
store_with lines size k b b' m n ls r r' list draft =
    let limits : limits_of size b' (with_draft m n) ≡ limits_of size b m = cond-true _ _ _ r' ∙ sym (cond-true _ _ _ r) in
    λ i. record { lines = list i; health = 0; draft = draft i; limits = limits i; bottom = k }

-- a draft that a call changed, unless it was refused
drafting_left : (q : Refusal) (new old : List Line) (s : Store) → s.draft ≡ Some old → drafting (left q new old) s ≡ left q (drafting new s) s
drafting_left None new old s is = refl
drafting_left (Some f) new old s is =
    λ i. record { lines = s.lines; health = s.health; draft = sym is i; limits = s.limits; bottom = s.bottom }

taken_left : (q : Refusal) (f : List ℕ → List Line) (y x : List ℕ) (new : List Line) → MatchResult (verdict {A = Unit {0}} q tt) (λ _. f y ≡ new) (λ (_ : Fault). y ≡ x) → f y ≡ left q new (f x)
taken_left None f y x new h = h
taken_left (Some e) f y x new h = ap f h

-- a sheet as a call lends it: it goes from a to z, and t has the limits of the store, which stands
pub record Lent (size : Size) (b : List ℕ) (m : Marks) (t : Tally) (g : Half) (a z : ℕ) : Type 0 where
  pub tallied : Tallied size b m t
  pub from : a ≡ base (size_of size m) g
  pub to : z ≡ base (size_of size m) g + size_of size m

pub lent : {size : Size} {b : List ℕ} {m : Marks} {t : Tally} {h g : Half} {k a z : ℕ} → Tallied size b m t → h ≡ g → k ≡ size t.lines t.bytes → a ≡ base k h → z ≡ base k h + k → Lent size b m t g a z
lent {size} {b} {m} {t} {h} {g} {k} d half is from to =
    let long : k ≡ size_of size m = is ∙ ap (λ n. size n t.bytes) d.lines ∙ ap (size m.lines) d.bytes in
    let at : base k h ≡ base (size_of size m) g = ap (λ n. base n h) long ∙ ap (base (size_of size m)) half in
    record { tallied = d; from = from ∙ at; to = omega arith }

module _ (lines : Meaning) {size : Size} {b : List ℕ} {m : Marks} {t : Tally} {g : Half} {a z : ℕ} (w : Lent size b m t g a z) where
  two : 2 * size_of size m ≤ length b
  two = (standing size b m w.tallied.stood).sheets

  lent_sheet : part b a z ≡ sheet_of (size_of size m) b g
  lent_sheet = part_is b (size_of size m) g a z w.from w.to two

  lent_lines : (s : List ℕ) (n : ℕ) → lines m.lines s n ≡ lines t.lines s n
  lent_lines s n = ap (λ L. lines L s n) (sym w.tallied.lines)

  pub limits_lent : limits_of size b m ≡ (t.lines, t.bytes)
  limits_lent = cond-true _ _ _ w.tallied.stood ∙ sym (ap (λ n. (n, t.bytes)) w.tallied.lines ∙ ap (λ n. (m.lines, n)) w.tallied.bytes)

  pub list_lent : g ≡ m.list → t.count ≡ m.count → list_of lines size b m ≡ lines t.lines (part b a z) t.count
  list_lent e f =
      list_at lines size b m w.tallied.stood ∙ ap (λ x. lines m.lines (sheet_of (size_of size m) b x) m.count) (sym e) ∙ ap (λ s. lines m.lines s m.count) (sym lent_sheet)
      ∙ ap (lines m.lines (part b a z)) (sym f) ∙ lent_lines (part b a z) t.count

  -- the draft's sheet
  module _ (e : g ≡ other m.list) (f : m.draft ≡ Some t.count) where
    pub draft_lent : draft_of lines size b m ≡ Some (lines t.lines (part b a z) t.count)
    draft_lent =
        draft_at lines size b m w.tallied.stood t.count f ∙ ap (λ x. Some (lines m.lines (sheet_of (size_of size m) b x) t.count)) (sym e)
        ∙ ap (λ s. Some (lines m.lines s t.count)) (sym lent_sheet) ∙ ap Some (lent_lines (part b a z) t.count)

    -- it is changed to y, and the draft has n lines
    module _ (y : List ℕ) (ly : length y ≡ length (part b a z)) (n : ℕ) (few : n ≤ t.lines) where
      stands_left : stands size (after b a z y) (with_draft m n) ≡ true
      stands_left =
          stands_with size (after b a z y) m n (ap (λ j. fits size m.lines m.bytes j && within m) (same_length b (size_of size m) g a z w.from w.to two y ly) ∙ w.tallied.stood) (subst (λ L. n ≤ L) w.tallied.lines few)

      list_sheet : sheet_of (size_of size m) (after b a z y) m.list ≡ sheet_of (size_of size m) b m.list
      list_sheet = subst (λ x. sheet_of (size_of size m) (after b a z y) x ≡ sheet_of (size_of size m) b x) (ap other e ∙ other_twice m.list) (others b (size_of size m) g a z w.from w.to two y ly)

      draft-sheet : sheet_of (size_of size m) (after b a z y) (other m.list) ≡ y
      draft-sheet = subst (λ x. sheet_of (size_of size m) (after b a z y) x ≡ y) e (own b (size_of size m) g a z w.from w.to two y ly)

      pub list_left : list_of lines size (after b a z y) (with_draft m n) ≡ list_of lines size b m
      list_left = list_at lines size (after b a z y) (with_draft m n) stands_left ∙ ap (λ s. lines m.lines s m.count) list_sheet ∙ sym (list_at lines size b m w.tallied.stood)

      pub draft_left : draft_of lines size (after b a z y) (with_draft m n) ≡ Some (lines t.lines y n)
      draft_left = draft_at lines size (after b a z y) (with_draft m n) stands_left n refl ∙ ap (λ s. Some (lines m.lines s n)) draft-sheet ∙ ap Some (lent_lines y n)

      store_left : (k : ℕ) → store_of lines size k (after b a z y) (with_draft m n) ≡ drafting (lines t.lines y n) (store_of lines size k b m)
      store_left k = store_with lines size k b (after b a z y) m n (lines t.lines y n) w.tallied.stood stands_left list_left draft_left

      -- so it has one line more
      pub store_added : (k : ℕ) (l : Line) → add_refusal (Some (lines t.lines (part b a z) t.count)) (t.lines, t.bytes) l ≡ accepted → lines t.lines y n ≡ lines t.lines (part b a z) t.count ++ (l ∷ []) → store_of lines size k (after b a z y) (with_draft m n) ≡ added l (store_of lines size k b m)
      store_added k l taken more =
          let S : Store = store_of lines size k b m in
          store_left k ∙ ap (λ ls. drafting ls S) more
          ∙ sym (ap (λ q. left q (drafting (lines t.lines (part b a z) t.count ++ (l ∷ [])) S) S) taken)
          ∙ sym (λ i. left (add_refusal (draft_lent i) (limits_lent i) l) (drafting (draft_lines (draft_lent i) ++ (l ∷ [])) S) S)

      pub laid_left : (laid : Laid) → (laid t.lines (part b a z) (lines t.lines (part b a z) t.count) → laid t.lines y (lines t.lines y n)) → LaidOut laid lines size b m → LaidOut laid lines size (after b a z y) (with_draft m n)
      laid_left laid keeps o =
          let old : laid t.lines (part b a z) (lines t.lines (part b a z) t.count) = subst (λ L. laid L (part b a z) (lines t.lines (part b a z) t.count)) (sym w.tallied.lines) (moved laid m.lines _ _ _ _ (ap (sheet_of (size_of size m) b) (sym e) ∙ sym lent_sheet) (ap draft_lines draft_lent) o.draft) in
          record {
            list = moved laid m.lines _ _ _ _ (sym list_sheet) (sym list_left) o.list;
            draft = moved laid m.lines _ _ _ _ (sym draft-sheet) (sym (ap draft_lines draft_left)) (subst (λ L. laid L y (lines t.lines y n)) w.tallied.lines (keeps old));
          }

    same_draft : with_draft m t.count ≡ m
    same_draft = ap (λ d. record { lines = m.lines; bytes = m.bytes; list = m.list; count = m.count; draft = d }) (sym f)

    -- it is changed to y, with as many lines: so line i is l, unless that was refused
    pub store_patched : (y : List ℕ) → length y ≡ length (part b a z) → (k : ℕ) (i : ℕ) (l : Line) (answer : Result (Unit {0}) Fault) → answer ≡ verdict (patch_refusal (Some (lines t.lines (part b a z) t.count)) i l) tt → MatchResult answer (λ _. lines t.lines y t.count ≡ slice_set (lines t.lines (part b a z) t.count) (i - 1) l) (λ _. y ≡ part b a z) → store_of lines size k (after b a z y) m ≡ patched i l (store_of lines size k b m)
    store_patched y ly k i l answer is taken =
        let S : Store = store_of lines size k b m in
        let was : List Line = lines t.lines (part b a z) t.count in
        let q : Refusal = patch_refusal (Some was) i l in
        let told : MatchResult (verdict q tt) (λ _. lines t.lines y t.count ≡ slice_set was (i - 1) l) (λ _. y ≡ part b a z) = subst (λ r. MatchResult r (λ _. lines t.lines y t.count ≡ slice_set was (i - 1) l) (λ _. y ≡ part b a z)) is taken in
        ap (store_of lines size k (after b a z y)) (sym same_draft) ∙ store_left y ly t.count t.within k
        ∙ ap (λ ls. drafting ls S) (taken_left q (λ s. lines t.lines s t.count) y (part b a z) (slice_set was (i - 1) l) told)
        ∙ drafting_left q (slice_set was (i - 1) l) was S draft_lent
        ∙ sym (ap (λ d. left (patch_refusal d i l) (drafting (slice_set (draft_lines d) (i - 1) l) S) S) draft_lent)

    -- and the lines stay laid out
    pub laid_lent : (y : List ℕ) → length y ≡ length (part b a z) → (laid : Laid) → (laid t.lines (part b a z) (lines t.lines (part b a z) t.count) → laid t.lines y (lines t.lines y t.count)) → LaidOut laid lines size b m → LaidOut laid lines size (after b a z y) m
    laid_lent y ly laid keeps o =
        subst (LaidOut laid lines size (after b a z y)) same_draft (laid_left y ly t.count t.within laid keeps o)

module _ (lines : Meaning) (size : Size) (counted : (L : ℕ) (s : List ℕ) (n : ℕ) → length (lines L s n) ≡ n) (b : List ℕ) (m : Marks) (r : stands size b m ≡ true) where
  stands_begun : stands size b (with_draft m 0) ≡ true
  stands_begun = stands_with size b m 0 r (omega arith)

  pub draft_begun : draft_of lines size b (with_draft m 0) ≡ Some []
  draft_begun = draft_at lines size b (with_draft m 0) stands_begun 0 refl ∙ ap Some (nil_from_length _ (counted m.lines _ 0))

  pub store_begun : (k : ℕ) → store_of lines size k b (with_draft m 0) ≡ drafting [] (store_of lines size k b m)
  store_begun k =
      store_with lines size k b b m 0 [] r stands_begun (list_at lines size b (with_draft m 0) stands_begun ∙ sym (list_at lines size b m r)) draft_begun

  pub laid_begun : (laid : Laid) → ((L : ℕ) (s : List ℕ) → laid L s []) → LaidOut laid lines size b m → LaidOut laid lines size b (with_draft m 0)
  laid_begun laid none w =
      record {
        list = subst (λ ls. laid m.lines (sheet_of (size_of size m) b m.list) ls) (list_at lines size b m r ∙ sym (list_at lines size b (with_draft m 0) stands_begun)) w.list;
        draft = subst (λ d. laid m.lines (sheet_of (size_of size m) b (other m.list)) (draft_lines d)) (sym draft_begun) (none m.lines _);
      }

-- a limit of lines that is not 0 is that of a store that stands
pub stands_limits : (size : Size) (b : List ℕ) (m : Marks) → ((limits_of size b m).0 ≡ 0 → ⊥) → stands size b m ≡ true
stands_limits size b m h =
    ⊎_elim (λ e. e) (λ e. absurd (h (ap (λ (p : ℕ × ℕ). p.0) (cond-false (stands size b m) (m.lines, m.bytes) (0, 0) e)))) (cases_Bool (stands size b m))

-- a store that was just made
either_way : {A : Type 0} (t : Bool) (x y : A) → x ≡ y → cond t x y ≡ y
either_way true x y e = e
either_way false x y e = refl

pub fresh_begins : (lines : Meaning) (size : Size) → ((L : ℕ) (s : List ℕ) (n : ℕ) → length (lines L s n) ≡ n) → (b : List ℕ) (L B : ℕ) → Begins (list_of lines size b (fresh L B)) (draft_of lines size b (fresh L B)) (health_of (fresh L B))
fresh_begins lines size counted b L B =
    let m : Marks = fresh L B in
    let none = nil_from_length _ (counted L (sheet_of (size_of size m) b First) 0) in
    record {
      empty = either_way (stands size b m) _ [] none;
      absent = either_way (stands size b m) None None refl;
      whole = refl;
    }

pub fresh_laid : (laid : Laid) → ((L : ℕ) (s : List ℕ) → laid L s []) → (lines : Meaning) (size : Size) (b : List ℕ) (m : Marks) → Begins (list_of lines size b m) (draft_of lines size b m) (health_of m) → LaidOut laid lines size b m
fresh_laid laid none lines size b m h =
    record {
      list = subst (λ ls. laid m.lines (sheet_of (size_of size m) b m.list) ls) (sym h.empty) (none m.lines _);
      draft = subst (λ d. laid m.lines (sheet_of (size_of size m) b (other m.list)) (draft_lines d)) (sym h.absent) (none m.lines _);
    }

-- What is handed on of a body, item by item, and what comes of it.
use Rattle.std.proofs.Common.{◌≡◌, ℕ, suc, ◌+◌, ◌-◌, ◌*◌, ◌<◌, ◌≤◌, min, Bool, true, false, cond, eqb, ltb, List, [], ◌∷◌, length, get_or, drop, Some, None, Ok, Err, Option, Result, sym, refl, ap, ◌∙◌, ⊎_elim, suc-le-suc, add-zero, zero-add, arith}
use Rattle.std.specs.Option.{is_some}
use Rattle.std.proofs.lemmas.List.{at_drop_more, at_drop_all, length-append, get_or-drop, length-drop}
use Rattle.std.proofs.lemmas.Bool.{cond_both, cond-true, cond-false, cases_Bool, cases_lt, or_parts, ltb-false, true≢false}
use Rattle.lines.specs.declared.fault.Fault.{Fault}
use Rattle.lines.specs.declared.fault.Cause.TheVariants.{BodyRule}
use Rattle.lines.specs.Faults.{placed, verdict}
use Rattle.lines.specs.Lines.{Line, Lawful, line_of, lacks, fetched}
use Rattle.lines.proofs.LineLaws.{lacks_not, short_of}
use Rattle.whole.specs.Whole.{text_of}
use Rattle.sets.specs.Bits.{Serials}
use Rattle.sets.specs.Serials.{serials}
use Rattle.sets.specs.declared.set.SerialSet.{SerialSet}
use Rattle.records.specs.Numerals.{serial_up_to}
use Rattle.records.specs.BodyRecords.{Mark, Record, opens, ends, text, wrong, control, after_one, record_of, body}
use Rattle.weave.specs.Marks.{then_open, visible, shown}
use Rattle.weave.specs.Rules.{empty, allowed, breach}
use Rattle.weave.specs.Open.{open_marks}
use Rattle.weave.specs.Handing.{seen, breach_refusal, body_refusal, shown_of, measure_of}
use Rattle.weave.specs.Coming.{Item, breach_at, and_then, coming, to_come}
use Rattle.weave.specs.declared.marks.OpenMarks.{OpenMarks}
use Rattle.weave.specs.declared.measure.Measure.{Measure}

-- a line that is seen is the whole line
control_unseen : (s : Serials) (ms : List Mark) (k : ℕ) (o : Option ℕ) → seen s ms (control k o) ≡ None
control_unseen s ms k None = refl
control_unseen s ms k (Some n) =
    cond_both (eqb k 73) _ _ (λ r. seen s ms r ≡ None) (λ _. refl)
    (λ _. cond_both (eqb k 68) _ _ (λ r. seen s ms r ≡ None) (λ _. refl) (λ _. cond_both (eqb k 69) _ _ (λ r. seen s ms r ≡ None) (λ _. refl) (λ _. refl)))

after_one_unseen : (s : Serials) (ms : List Mark) (top : ℕ) (xs : Line) → seen s ms (after_one top xs) ≡ None
after_one_unseen s ms top [] = refl
after_one_unseen s ms top (k ∷ []) = refl
after_one_unseen s ms top (k ∷ (c ∷ xs)) = cond_both (eqb c 32) _ _ (λ r. seen s ms r ≡ None) (λ _. control_unseen s ms k (serial_up_to top xs)) (λ _. refl)

text_seen : (s : Serials) (ms : List Mark) (xs l : Line) → seen s ms (text xs) ≡ Some l → l ≡ xs
text_seen s ms xs l sees = cond_both (visible s ms) (Some xs) None (λ o. o ≡ Some l → l ≡ xs) (λ _ e. cc) (λ _ e. cc) sees

pub seen_whole : (s : Serials) (ms : List Mark) (top : ℕ) (xs l : Line) → seen s ms (record_of top xs) ≡ Some l → l ≡ xs
seen_whole s ms top [] l sees = text_seen s ms [] l sees
seen_whole s ms top (x ∷ xs) l sees =
    cond_both (eqb x 1) (after_one top xs) (text (x ∷ xs)) (λ r. seen s ms r ≡ Some l → l ≡ x ∷ xs)
    (λ _ e. let no = after_one_unseen s ms top xs in cc) (λ _ e. text_seen s ms (x ∷ xs) l e) sees

seen_if_some : (l : Line) (o : Option Line) → true ≡ is_some o → ((x : Line) → o ≡ Some x → x ≡ l) → o ≡ Some l
seen_if_some l None has same = cc
seen_if_some l (Some x) has same = ap (λ y. Some y) (same x refl)

seen_if_none : (o : Option Line) → false ≡ is_some o → o ≡ None
seen_if_none None has = refl
seen_if_none (Some x) has = cc

-- a line that was fetched is there, and one that was not is past the end
lacking : (b : Bool) (x l : Line) → Some l ≡ cond b None (Some x) → (b ≡ false) × (l ≡ x)
lacking true x l is = (cc, cc)
lacking false x l is = (refl, cc)

not_lacking : (b : Bool) (x : Line) → None ≡ cond b None (Some x) → b ≡ true
not_lacking true x is = refl
not_lacking false x is = cc

pub fetched_there : (ls : List Line) (p : ℕ) (l : Line) → 1 ≤ p → Some l ≡ fetched ls p → (p - 1 < length ls) × (l ≡ get_or ls (p - 1) [])
fetched_there ls p l from is =
    let (there, same) = lacking (lacks ls p) (line_of ls p) l is in
    let near = ltb-false (length ls) p (or_parts (eqb p 0) (ltb (length ls) p) there).1 in
    (omega arith, same)

pub fetched_past : (ls : List Line) (p : ℕ) → 1 ≤ p → None ≡ fetched ls p → length ls ≤ p - 1
fetched_past ls p from is =
    let lacks_it = not_lacking (lacks ls p) (line_of ls p) is in
    ⊎_elim (λ (past : length ls < p). omega arith) (λ (there : p ≤ length ls). absurd (true≢false (sym lacks_it ∙ lacks_not ls p from there))) (cases_lt (length ls) p)

-- the items from a place on: at a record, and past the last one
module _ (ls : List Line) (set : SerialSet) (m : OpenMarks) (p : ℕ) where
  module _ (l : Line) (from : 1 ≤ p) (got : Some l ≡ fetched ls p) (r : Record) (is : r ≡ record_of m.top l) where
    here : to_come ls set m p ≡ coming (serials set) m.top (open_marks m.queue) p (r ∷ body m.top (drop p ls))
    here =
        let (inside, same) = fetched_there ls p l from got in
        let next : p - 1 + 1 ≡ p = omega arith in
        at_drop_more (λ xs. coming (serials set) m.top (open_marks m.queue) p (body m.top xs)) ls (p - 1) [] inside
        ∙ ap (λ k. coming (serials set) m.top (open_marks m.queue) p (record_of m.top (get_or ls (p - 1) []) ∷ body m.top (drop k ls))) next
        ∙ ap (λ x. coming (serials set) m.top (open_marks m.queue) p (record_of m.top x ∷ body m.top (drop p ls))) (sym same)
        ∙ ap (λ q. coming (serials set) m.top (open_marks m.queue) p (q ∷ body m.top (drop p ls))) (sym is)

    pub breaks : false ≡ allowed m.top (open_marks m.queue) r → to_come ls set m p ≡ breach_at p ∷ []
    unfolding coming
    breaks broken = here ∙ cond-false _ _ _ (sym broken)

    module _ (n : OpenMarks) (may : true ≡ allowed m.top (open_marks m.queue) r) (top : n.top ≡ m.top) (after : open_marks n.queue ≡ then_open (open_marks m.queue) r) where
      goes : to_come ls set m p ≡ and_then (seen (serials set) (open_marks m.queue) r) (to_come ls set n (p + 1))
      unfolding coming
      goes =
          let next : p + 1 - 1 ≡ p = omega arith in
          here ∙ cond-true _ _ _ (sym may)
          ∙ ap (λ t. and_then (seen (serials set) (open_marks m.queue) r) (coming (serials set) t (then_open (open_marks m.queue) r) (p + 1) (body t (drop p ls)))) (sym top)
          ∙ ap (λ us. and_then (seen (serials set) (open_marks m.queue) r) (coming (serials set) n.top us (p + 1) (body n.top (drop p ls)))) (sym after)
          ∙ ap (λ k. and_then (seen (serials set) (open_marks m.queue) r) (coming (serials set) n.top (open_marks n.queue) (p + 1) (body n.top (drop k ls)))) (sym next)

      pub hands_on : true ≡ is_some (seen (serials set) (open_marks m.queue) r) → to_come ls set m p ≡ Ok l ∷ to_come ls set n (p + 1)
      hands_on has =
          let sees : seen (serials set) (open_marks m.queue) r ≡ Some l = seen_if_some l _ has (λ x e. seen_whole (serials set) (open_marks m.queue) m.top l x (ap (seen (serials set) (open_marks m.queue)) (sym is) ∙ e)) in
          goes ∙ ap (λ o. and_then o (to_come ls set n (p + 1))) sees

      pub passes_over : false ≡ is_some (seen (serials set) (open_marks m.queue) r) → to_come ls set m p ≡ to_come ls set n (p + 1)
      passes_over none = goes ∙ ap (λ o. and_then o (to_come ls set n (p + 1))) (seen_if_none _ none)

  pub at_the_end : length ls ≤ p - 1 → to_come ls set m p ≡ cond (empty (open_marks m.queue)) [] (breach_at p ∷ [])
  unfolding coming
  at_the_end past = at_drop_all (λ xs. coming (serials set) m.top (open_marks m.queue) p (body m.top xs)) ls (p - 1) past

  pub nothing_left : length ls ≤ p - 1 → open_marks m.queue ≡ [] → to_come ls set m p ≡ []
  nothing_left past none = at_the_end past ∙ ap (λ us. cond (empty us) [] (breach_at p ∷ [])) none

over : (s : Serials) (top p : ℕ) → coming s top [] p [] ≡ []
unfolding coming
over s top p = refl

-- a head that is longer than the lines
pub from_head : (ls : List Line) (set : SerialSet) (m : OpenMarks) (head n p : ℕ) → n ≡ length ls → p ≡ min head n + 1 → open_marks m.queue ≡ []
    → to_come ls set m p ≡ coming (serials set) m.top [] (head + 1) (body m.top (drop head ls))
from_head ls set m head n p whole is none =
    ⊎_elim
    (λ (low : head < n).
    let place : p ≡ head + 1 = omega arith in
    let passed : p - 1 ≡ head = omega arith in
    ap (λ us. coming (serials set) m.top us p (body m.top (drop (p - 1) ls))) none ∙ ap (λ k. coming (serials set) m.top [] k (body m.top (drop (p - 1) ls))) place
    ∙ ap (λ k. coming (serials set) m.top [] (head + 1) (body m.top (drop k ls))) passed)
    (λ (high : n ≤ head).
    nothing_left ls set m p (omega arith) none
    ∙ sym (at_drop_all (λ xs. coming (serials set) m.top [] (head + 1) (body m.top xs)) ls head (omega arith) ∙ over (serials set) m.top (head + 1)))
    (cases_lt head n)

-- the bytes of lines with their LFs
unfoldable size : List Line → ℕ
size ls = length (text_of ls)

size_more : (l : Line) (ls : List Line) → size (l ∷ ls) ≡ length l + 1 + size ls
unfolding size
size_more l ls = let both = length-append l (10 ∷ text_of ls) in omega arith

-- the answer, with n lines and b bytes before
abbrev went : ℕ → ℕ → Option ℕ → List Line → Result Measure Fault
went n b (Some p) ls = Err (placed BodyRule p)
went n b None ls = Ok (record { lines = n + length ls; bytes = b + size ls })

abbrev before : Option Line → List Line → List Line
before None ls = ls
before (Some l) ls = l ∷ ls

shown_more : (s : Serials) (ms : List Mark) (r : Record) (rs : List Record) → shown s ms (r ∷ rs) ≡ before (seen s ms r) (shown s (then_open ms r) rs)
unfolding shown
shown_more s ms (opens m) rs = refl
shown_more s ms (ends n) rs = refl
shown_more s ms (text l) rs = cond_both (visible s ms) (Some l) None (λ o. cond (visible s ms) (l ∷ shown s ms rs) (shown s ms rs) ≡ before o (shown s ms rs)) (cond-true _ _ _) (cond-false _ _ _)
shown_more s ms wrong rs = refl

breach_more : (top : ℕ) (ms : List Mark) (p : ℕ) (r : Record) (rs : List Record) → allowed top ms r ≡ true → breach top ms p (r ∷ rs) ≡ breach top (then_open ms r) (p + 1) rs
unfolding breach
breach_more top ms p r rs may = cond-true _ _ _ may

breach_here : (top : ℕ) (ms : List Mark) (p : ℕ) (r : Record) (rs : List Record) → allowed top ms r ≡ false → breach top ms p (r ∷ rs) ≡ Some p
unfolding breach
breach_here top ms p r rs not_allowed = cond-false _ _ _ not_allowed

ok : ℕ → ℕ → Result Measure Fault
ok n b = Ok (record { lines = n; bytes = b })

went_more : (n b : ℕ) (o : Option ℕ) (l : Line) (ls : List Line) → went n b o (l ∷ ls) ≡ went (n + 1) (b + (length l + 1)) o ls
unfolding ok
went_more n b (Some p) l ls = refl
went_more n b None l ls =
    let lines : n + length (l ∷ ls) ≡ n + 1 + length ls = omega arith in
    let bytes : b + size (l ∷ ls) ≡ b + (length l + 1) + size ls = omega (arith, size_more l ls) in
    ap (λ k. ok k (b + size (l ∷ ls))) lines ∙ ap (λ k. ok (n + 1 + length ls) k) bytes

went_none : (o : Option ℕ) (ls : List Line) → went 0 0 o ls ≡ verdict (breach_refusal o) (measure_of ls)
unfolding ok size
went_none (Some p) ls = refl
went_none None ls = ap (λ k. ok k (0 + size ls)) (zero-add (length ls)) ∙ ap (λ k. ok (length ls) k) (zero-add (size ls))

-- the items counted, with n lines and b bytes before
abbrev pub tally : ℕ → ℕ → List Item → Result Measure Fault
tally n b [] = Ok (record { lines = n; bytes = b })
tally n b (Ok l ∷ is) = tally (n + 1) (b + (length l + 1)) is
tally n b (Err f ∷ is) = Err f

tally_next : (is : List Item) (e : Option ℕ) (ls : List Line) → ((n b : ℕ) → tally n b is ≡ went n b e ls) → (o : Option Line) (n b : ℕ) → tally n b (and_then o is) ≡ went n b e (before o ls)
tally_next is e ls same None n b = same n b
tally_next is e ls same (Some l) n b = same (n + 1) (b + (length l + 1)) ∙ sym (went_more n b e l ls)

tally_end : (s : Serials) (top : ℕ) (ms : List Mark) (p n b : ℕ) → tally n b (coming s top ms p []) ≡ went n b (breach top ms p []) (shown s ms [])
unfolding coming breach shown ok size
tally_end s top [] p n b = ap (λ k. ok k b) (sym (add-zero n)) ∙ ap (ok (n + 0)) (sym (add-zero b))
tally_end s top (m ∷ ms) p n b = refl

tally_is : (s : Serials) (top : ℕ) (rs : List Record) (ms : List Mark) (p n b : ℕ) → tally n b (coming s top ms p rs) ≡ went n b (breach top ms p rs) (shown s ms rs)
unfolding coming
tally_is s top [] ms p n b = tally_end s top ms p n b
tally_is s top (r ∷ rs) ms p n b =
    ⊎_elim
    (λ (may : allowed top ms r ≡ true).
    ap (tally n b) (cond-true _ _ _ may) ∙ tally_next (coming s top (then_open ms r) (p + 1) rs) (breach top (then_open ms r) (p + 1) rs) (shown s (then_open ms r) rs) (λ i j. tally_is s top rs (then_open ms r) (p + 1) i j) (seen s ms r) n b
    ∙ sym (ap (λ e. went n b e (shown s ms (r ∷ rs))) (breach_more top ms p r rs may) ∙ ap (went n b (breach top (then_open ms r) (p + 1) rs)) (shown_more s ms r rs)))
    (λ (broken : allowed top ms r ≡ false). ap (tally n b) (cond-false _ _ _ broken) ∙ sym (ap (λ e. went n b e (shown s ms (r ∷ rs))) (breach_here top ms p r rs broken)))
    (cases_Bool (allowed top ms r))

pub measured : (s : Serials) (top head : ℕ) (ls : List Line) → tally 0 0 (coming s top [] (head + 1) (body top (drop head ls))) ≡ verdict (body_refusal top head ls) (measure_of (shown_of top s head ls))
measured s top head ls =
    let rs = body top (drop head ls) in
    tally_is s top rs [] (head + 1) 0 0 ∙ went_none (breach top [] (head + 1) rs) (shown s [] rs)

-- there are not many items, and not many bytes in them
abbrev pub weight : List Item → ℕ
weight [] = 0
weight (Ok l ∷ is) = length l + 1 + weight is
weight (Err f ∷ is) = weight is

light_next : (o : Option Line) (is : List Item) → ((l : Line) → o ≡ Some l → length l ≤ 240) → (length (and_then o is) ≤ length is + 1) × (weight (and_then o is) ≤ 241 + weight is)
light_next None is short = (omega arith, omega arith)
light_next (Some l) is short = (omega arith, omega (arith, short l refl))

pub light : (s : Serials) (top : ℕ) (ls : List Line) (ms : List Mark) (p : ℕ) → ((i : ℕ) → i < length ls → length (get_or ls i []) ≤ 240)
    → (length (coming s top ms p (body top ls)) ≤ length ls + 1) × (weight (coming s top ms p (body top ls)) ≤ 241 * length ls)
unfolding coming
light s top [] ms p short = cond_both (empty ms) [] (breach_at p ∷ []) (λ is. (length is ≤ 1) × (weight is ≤ 0)) (λ _. (omega arith, omega arith)) (λ _. (omega arith, omega arith))
light s top (l ∷ ls) ms p short =
    let r = record_of top l in
    let rest = coming s top (then_open ms r) (p + 1) (body top ls) in
    let few = light s top ls (then_open ms r) (p + 1) (λ i h. short (suc i) (suc-le-suc h)) in
    let next = light_next (seen s ms r) rest (λ x e. omega (arith, ap length (seen_whole s ms top l x e), short 0 (omega arith))) in
    cond_both (allowed top ms r) (and_then (seen s ms r) rest) (breach_at p ∷ []) (λ is. (length is ≤ suc (length ls) + 1) × (weight is ≤ 241 * suc (length ls)))
    (λ _. (omega arith, omega arith)) (λ _. (omega arith, omega arith))

pub lawful_light : (s : Serials) (top head : ℕ) (ls : List Line) → Lawful ls → (length (coming s top [] (head + 1) (body top (drop head ls))) ≤ 4001) × (weight (coming s top [] (head + 1) (body top (drop head ls))) ≤ 241 * 4000)
lawful_light s top head ls ok =
    let short : (i : ℕ) → i < length (drop head ls) → length (get_or (drop head ls) i []) ≤ 240 = λ i h.
    let passed : head + i + 1 - 1 ≡ head + i = omega arith in
    omega (arith, ap length (get_or-drop head ls i []), ap (λ k. length (get_or ls k [])) passed, short_of ls (head + i + 1) ok) in
    let few = light s top (drop head ls) [] (head + 1) short in
    (omega (arith, length-drop head ls, ok.0), omega (arith, length-drop head ls, ok.0))

-- the lines that are handed on of a body without breach
abbrev pub sound : List Item → Bool
sound [] = true
sound (Ok l ∷ is) = sound is
sound (Err f ∷ is) = false

abbrev pub lines_of : List Item → List Line
lines_of [] = []
lines_of (Ok l ∷ is) = l ∷ lines_of is
lines_of (Err f ∷ is) = lines_of is

sound_next : (o : Option Line) (is : List Item) (ls : List Line) → (sound is ≡ true) × (lines_of is ≡ ls) → (sound (and_then o is) ≡ true) × (lines_of (and_then o is) ≡ before o ls)
sound_next None is ls (clean, same) = (clean, same)
sound_next (Some l) is ls (clean, same) = (clean, ap (λ xs. l ∷ xs) same)

sound_end : (s : Serials) (top : ℕ) (ms : List Mark) (p : ℕ) → breach top ms p [] ≡ None → (sound (coming s top ms p []) ≡ true) × (lines_of (coming s top ms p []) ≡ shown s ms [])
unfolding coming breach shown
sound_end s top [] p none = (refl, refl)
sound_end s top (m ∷ ms) p none = cc

sound_is : (s : Serials) (top : ℕ) (rs : List Record) (ms : List Mark) (p : ℕ) → breach top ms p rs ≡ None → (sound (coming s top ms p rs) ≡ true) × (lines_of (coming s top ms p rs) ≡ shown s ms rs)
unfolding coming
sound_is s top [] ms p none = sound_end s top ms p none
sound_is s top (r ∷ rs) ms p none =
    ⊎_elim
    (λ (may : allowed top ms r ≡ true).
    let rest = sound_next (seen s ms r) (coming s top (then_open ms r) (p + 1) rs) (shown s (then_open ms r) rs) (sound_is s top rs (then_open ms r) (p + 1) (sym (breach_more top ms p r rs may) ∙ none)) in
    (ap sound (cond-true _ _ _ may) ∙ rest.0, ap lines_of (cond-true _ _ _ may) ∙ rest.1 ∙ sym (shown_more s ms r rs)))
    (λ (broken : allowed top ms r ≡ false). let no : Some p ≡ None = sym (breach_here top ms p r rs broken) ∙ none in cc)
    (cases_Bool (allowed top ms r))

no_breach : (b : Option ℕ) → breach_refusal b ≡ None → b ≡ None
no_breach None none = refl
no_breach (Some p) none = cc

pub sound_body : (s : Serials) (top head : ℕ) (ls : List Line) → body_refusal top head ls ≡ None
    → (sound (coming s top [] (head + 1) (body top (drop head ls))) ≡ true) × (lines_of (coming s top [] (head + 1) (body top (drop head ls))) ≡ shown_of top s head ls)
sound_body s top head ls none = sound_is s top (body top (drop head ls)) [] (head + 1) (no_breach (breach top [] (head + 1) (body top (drop head ls))) none)

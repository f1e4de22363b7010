-- What the weave says of open marks, read off the slots that hold them by rising key.
use Rattle.std.proofs.Common.{◌≡◌, ℕ, zero, suc, ◌<◌, ◌≤◌, Bool, true, false, cond, ◌&&◌, ◌||◌, eqb, ltb, List, [], ◌∷◌, ◌++◌, map, length, get_or, reverse, All, Some, None, Option, MatchOption, Bor, sym, refl, ap, ◌∙◌, ⊎_elim, arith}
use Rattle.std.specs.List.{find, list_any, take_while}
use Rattle.std.specs.Option.{option_map, option_or, unwrap_or}
use Rattle.std.proofs.lemmas.List.{get_or-map, length-map, reverse-append}
use Rattle.std.proofs.lemmas.List.Elements.{All-cons, All-head, All-tail, All-from_get_or}
use Rattle.std.proofs.lemmas.List.Folds.{find-append}
use Rattle.std.proofs.lemmas.List.Sorted.{All-permutation, IsPermutation-reverse, list_any-IsPermutation}
use Rattle.std.proofs.lemmas.List.Sums.{take_while-cons}
use Rattle.std.proofs.lemmas.Bool.{cond_both, cond-true, cond-false, eqb-true, ne_eqb, le-ltb, lt-ltb, cases_lt}
use Rattle.std.proofs.lemmas.Bool.Decides.{nat_tests}
use Rattle.queue.specs.Slots.{keys, Rising, holds, under, with_slot, without}
use Rattle.queue.specs.declared.slots.Slot.{Slot}
use Rattle.queue.proofs.Placed.{tail_rises}
use Rattle.queue.specs.Items.{items, room, after}
use Rattle.queue.specs.declared.held.Queue.{Queue}
use Rattle.queue.proofs.Orders.{rises, rising_few}
use Rattle.records.specs.BodyRecords as weave
use Rattle.sets.specs.Bits.{Serials}
use Rattle.records.specs.BodyRecords.{insertion, deletion, serial}
use Rattle.weave.specs.Marks.{with_mark, closed, inserter, deleted_above}
use Rattle.weave.specs.Rules.{is_open, is_deleting, may_open}
use Rattle.weave.specs.Open.{number, is_insertion, is_deletion, kind, mark_of, open_marks, Bounded}
use Rattle.weave.specs.declared.mark.Mark.{Mark}
use Rattle.weave.specs.declared.mark.Mark.TheVariants.{Insert, Delete}

abbrev pub marks : List (Slot Mark) → List weave.Mark
marks ss = map mark_of ss

serial_is : (e : Mark) (n : ℕ) → serial (kind e n) ≡ n
serial_is (Insert k) n = refl
serial_is (Delete k) n = refl

pub with_is : (s : Slot Mark) (ss : List (Slot Mark)) → marks (with_slot s ss) ≡ with_mark (mark_of s) (marks ss)
unfolding with_mark
with_is s [] = refl
with_is s (t ∷ ts) =
    rw (serial_is t.element t.key, serial_is s.element s.key)
    (cond_both (ltb t.key s.key) _ _ (λ us. marks us ≡ cond (ltb t.key s.key) (mark_of t ∷ with_mark (mark_of s) (marks ts)) (mark_of s ∷ (mark_of t ∷ marks ts)))
    (λ e. ap (λ ms. mark_of t ∷ ms) (with_is s ts) ∙ sym (cond-true _ _ _ e)) (λ e. sym (cond-false _ _ _ e)))

pub without_is : (k : ℕ) (ss : List (Slot Mark)) → marks (without k ss) ≡ closed k (marks ss)
unfolding closed
without_is k [] = refl
without_is k (t ∷ ts) =
    rw (serial_is t.element t.key)
    (cond_both (eqb t.key k) _ _ (λ us. marks us ≡ cond (eqb t.key k) (marks ts) (mark_of t ∷ closed k (marks ts)))
    (λ e. sym (cond-true _ _ _ e)) (λ e. ap (λ ms. mark_of t ∷ ms) (without_is k ts) ∙ sym (cond-false _ _ _ e)))

or_cond : (a b : Bool) → cond a true b ≡ (a || b)
or_cond true b = refl
or_cond false b = refl

pub holds_is : (k : ℕ) (ss : List (Slot Mark)) → holds k ss ≡ is_open k (marks ss)
unfolding is_open
holds_is k [] = refl
holds_is k (t ∷ ts) = let rest = holds_is k ts in let is = serial_is t.element t.key in rw (is, rest) (or_cond (eqb t.key k) (is_open k (marks ts)))

-- what is held under a key says whether that serial is open, and as what
abbrev pub is_held : Option Mark → Bool
is_held None = false
is_held (Some e) = true

abbrev pub is_delete : Option Mark → Bool
is_delete None = false
is_delete (Some (Insert n)) = false
is_delete (Some (Delete n)) = true

pub is_open_under : (k : ℕ) (ss : List (Slot Mark)) → is_open k (marks ss) ≡ is_held (under k ss)
unfolding is_open
is_open_under k [] = refl
is_open_under k (t ∷ ts) =
    let rest = is_open_under k ts in
    rw (serial_is t.element t.key, rest)
    (cond_both (eqb t.key k) _ _ (λ o. (eqb t.key k || is_held (under k ts)) ≡ is_held o) (λ e. rw e) (λ e. rw e))

is_deleting_apart : (k : ℕ) (e : Mark) (n : ℕ) (ms : List weave.Mark) → eqb n k ≡ false → is_deleting k (kind e n ∷ ms) ≡ is_deleting k ms
unfolding is_deleting
is_deleting_apart k (Insert j) n ms apart = refl
is_deleting_apart k (Delete j) n ms apart = rw apart

-- no later slot has the first one's key
none_later : (k : ℕ) (ss : List (Slot Mark)) → ((i : ℕ) → i < length ss → k < get_or (keys ss) i 0) → is_deleting k (marks ss) ≡ false
unfolding is_deleting
none_later k [] above = refl
none_later k (t ∷ ts) above =
    let first = above 0 (omega arith) in
    is_deleting_apart k t.element t.key (marks ts) (ne_eqb t.key k (λ e. omega arith)) ∙ none_later k ts (λ i h. above (suc i) (omega arith))

first_deletes : (k : ℕ) (e : Mark) (n : ℕ) (ms : List weave.Mark) → n ≡ k → is_deleting k ms ≡ false → is_deleting k (kind e n ∷ ms) ≡ is_delete (Some e)
unfolding is_deleting
first_deletes k (Insert j) n ms same none = none
first_deletes k (Delete j) n ms same none = grind (arith, nat_tests)

pub is_deleting_under : (k : ℕ) (ss : List (Slot Mark)) → Rising (keys ss) → is_deleting k (marks ss) ≡ is_delete (under k ss)
unfolding is_deleting
is_deleting_under k [] up = refl
is_deleting_under k (t ∷ ts) up =
    cond_both (eqb t.key k) _ _ (λ o. is_deleting k (mark_of t ∷ marks ts) ≡ is_delete o)
    (λ e.
    let same = eqb-true t.key k e in
    let n = length-map ts (λ (s : Slot Mark). s.key) in
    first_deletes k t.element t.key (marks ts) same (none_later k ts (λ i h. let next = up 0 (suc i) (omega arith) (omega arith) in omega arith)))
    (λ e. is_deleting_apart k t.element t.key (marks ts) e ∙ is_deleting_under k ts (tail_rises _ _ up))

-- the first insertion from the last slot down is the greatest
newest_more : (e : Mark) (n : ℕ) (s : Slot Mark) (o : Option (Slot Mark)) (low : ℕ) (ms : List weave.Mark) → s.key ≡ n → low ≤ n → MatchOption o (inserter ms ≡ 0) (λ t. (inserter ms ≡ t.key) × (n < t.key))
    → MatchOption (option_or o (cond (is_insertion e) (Some s) None)) (inserter (kind e n ∷ ms) ≡ 0) (λ t. (inserter (kind e n ∷ ms) ≡ t.key) × (low ≤ t.key))
unfolding inserter
newest_more (Insert j) n s None low ms key above none = (omega arith, omega arith)
newest_more (Delete j) n s None low ms key above none = none
newest_more (Insert j) n s (Some t) low ms key above (is, more) = (omega arith, omega arith)
newest_more (Delete j) n s (Some t) low ms key above (is, more) = (is, omega arith)

newest : (ss : List (Slot Mark)) (low : ℕ) → Rising (keys ss) → ((i : ℕ) → i < length ss → low ≤ get_or (keys ss) i 0)
    → MatchOption (find (λ (s : Slot Mark). is_insertion s.element) (reverse ss)) (inserter (marks ss) ≡ 0) (λ t. (inserter (marks ss) ≡ t.key) × (low ≤ t.key))
unfolding inserter
newest [] low up above = refl
newest (s ∷ ss) low up above =
    let n = length-map ss (λ (t : Slot Mark). t.key) in
    let rest = newest ss (suc s.key) (tail_rises _ _ up) (λ i h. up 0 (suc i) (omega arith) (omega arith)) in
    let back : reverse (s ∷ ss) ≡ reverse ss ++ s ∷ [] = reverse-append (s ∷ []) ss in
    rw (back, find-append) (newest_more s.element s.key s (find (λ (t : Slot Mark). is_insertion t.element) (reverse ss)) low (marks ss) refl (above 0 (omega arith)) rest)

abbrev pub number_at : Option (Slot Mark) → ℕ
number_at o = unwrap_or (option_map (λ s. s.key) o) 0

pub number_of_found : (o : Option (Bor (Slot Mark))) (n : ℕ) → MatchOption o (n ≡ 0) (λ s. n ≡ s.now.key) → n ≡ number_at (option_map (λ s. s.now) o)
number_of_found None n is = is
number_of_found (Some s) n is = is

number_is : (o : Option (Slot Mark)) (n : ℕ) → MatchOption o (n ≡ 0) (λ t. (n ≡ t.key) × (0 ≤ t.key)) → number_at o ≡ n
number_is None n is = sym is
number_is (Some t) n is = sym is.0

pub greatest : (ss : List (Slot Mark)) → Rising (keys ss) → number_at (find (λ s. is_insertion s.element) (reverse ss)) ≡ inserter (marks ss)
greatest ss up = number_is _ (inserter (marks ss)) (newest ss 0 up (λ i h. omega arith))

-- what is taken while a test passes
last_left : {X : Type 0} (p : X → Bool) (xs : List X) (x : X) → p x ≡ false → take_while p (xs ++ x ∷ []) ≡ take_while p xs
last_left p [] x fails = take_while-cons p x [] ∙ cond-false _ _ _ fails
last_left p (y ∷ ys) x fails = take_while-cons p y (ys ++ x ∷ []) ∙ ap (λ zs. cond (p y) (y ∷ zs) []) (last_left p ys x fails) ∙ sym (take_while-cons p y ys)

all_taken : {X : Type 0} (p : X → Bool) (xs : List X) → All (λ x. p x ≡ true) xs → take_while p xs ≡ xs
all_taken p [] pass = refl
all_taken p (x ∷ xs) pass = take_while-cons p x xs ∙ cond-true (p x) _ [] (All-head (λ y. p y ≡ true) x xs pass) ∙ ap (λ zs. x ∷ zs) (all_taken p xs (All-tail (λ y. p y ≡ true) x xs pass))

-- the deletions above `low`, from the last slot down
module _ (has : Serials) (low : ℕ) where
  low_hides_nothing : (e : Mark) (n : ℕ) (ms : List weave.Mark) → n ≤ low → deleted_above has low (kind e n ∷ ms) ≡ deleted_above has low ms
  unfolding deleted_above
  low_hides_nothing (Insert j) n ms is_low = refl
  low_hides_nothing (Delete j) n ms is_low = rw (le-ltb low n is_low)

  abbrev pub hides : Slot Mark → Bool
  hides s = is_deletion s.element && has s.key

  hides_more : (e : Mark) (n : ℕ) (ms : List weave.Mark) → low < n → deleted_above has low (kind e n ∷ ms) ≡ ((is_deletion e && has n) || deleted_above has low ms)
  unfolding deleted_above
  hides_more (Insert j) n ms above = refl
  hides_more (Delete j) n ms above = rw (lt-ltb low n above)

  all_above : (ss : List (Slot Mark)) → ((i : ℕ) → i < length ss → low < get_or (keys ss) i 0) → list_any hides ss ≡ deleted_above has low (marks ss)
  unfolding deleted_above
  all_above [] above = refl
  all_above (s ∷ ss) above = ap (λ b. hides s || b) (all_above ss (λ i h. above (suc i) (omega arith))) ∙ sym (hides_more s.element s.key (marks ss) (above 0 (omega arith)))

  pub hidden_above : (ss : List (Slot Mark)) → Rising (keys ss) → list_any hides (take_while (λ s. ltb low s.key) (reverse ss)) ≡ deleted_above has low (marks ss)
  unfolding deleted_above
  hidden_above [] up = refl
  hidden_above (s ∷ ss) up =
      let n = length-map ss (λ (t : Slot Mark). t.key) in
      ⊎_elim
      (λ (above : low < s.key).
      let all : (i : ℕ) → i < length (s ∷ ss) → low < get_or (keys (s ∷ ss)) i 0 = λ i h. grind (arith, up 0 i) in
      let pass : All (λ (t : Slot Mark). ltb low t.key ≡ true) (s ∷ ss) =
      All-from_get_or (λ (t : Slot Mark). ltb low t.key ≡ true) (s ∷ ss) s (λ i h. lt-ltb low (get_or (s ∷ ss) i s).key (let is = get_or-map (λ (t : Slot Mark). t.key) (s ∷ ss) i s 0 h in omega (arith, all i h))) in
      ap (list_any hides) (all_taken (λ t. ltb low t.key) (reverse (s ∷ ss)) (All-permutation (λ (t : Slot Mark). ltb low t.key ≡ true) _ _ (IsPermutation-reverse (s ∷ ss)) pass))
      ∙ sym (list_any-IsPermutation hides (s ∷ ss) (reverse (s ∷ ss)) (IsPermutation-reverse (s ∷ ss))) ∙ all_above (s ∷ ss) all)
      (λ (is_low : s.key ≤ low).
      let back : reverse (s ∷ ss) ≡ reverse ss ++ s ∷ [] = reverse-append (s ∷ []) ss in
      ap (λ ts. list_any hides (take_while (λ t. ltb low t.key) ts)) back ∙ ap (list_any hides) (last_left (λ t. ltb low t.key) (reverse ss) s (le-ltb low s.key is_low))
      ∙ hidden_above ss (tail_rises _ _ up) ∙ sym (low_hides_nothing s.element s.key (marks ss) is_low))
      (cases_lt low s.key)

-- the serials stay from 1 to `top`
abbrev Within : ℕ → weave.Mark → Type 0
Within top m = (1 ≤ serial m) × (serial m ≤ top)

pub bounded_with : (top : ℕ) (m : weave.Mark) (ms : List weave.Mark) → 1 ≤ serial m → serial m ≤ top → Bounded top ms → Bounded top (with_mark m ms)
unfolding with_mark
bounded_with top m [] low high b = All-cons (Within top) m [] (low, high) b
bounded_with top m (k ∷ ks) low high b =
    cond_both (ltb (serial k) (serial m)) _ _ (Bounded top) (λ _. All-cons (Within top) k _ (All-head (Within top) k ks b) (bounded_with top m ks low high (All-tail (Within top) k ks b))) (λ _. All-cons (Within top) m (k ∷ ks) (low, high) b)

pub bounded_closed : (top n : ℕ) (ms : List weave.Mark) → Bounded top ms → Bounded top (closed n ms)
unfolding closed
bounded_closed top n [] b = b
bounded_closed top n (m ∷ ms) b =
    cond_both (eqb (serial m) n) _ _ (Bounded top) (λ _. All-tail (Within top) m ms b) (λ _. All-cons (Within top) m _ (All-head (Within top) m ms b) (bounded_closed top n ms (All-tail (Within top) m ms b)))

bounded_at : (top : ℕ) (ss : List (Slot Mark)) → Bounded top (marks ss) → (i : ℕ) → i < length (keys ss) → (1 ≤ get_or (keys ss) i 0) × (get_or (keys ss) i 0 ≤ top)
bounded_at top [] b i h = absurd (omega arith)
bounded_at top (t ∷ ts) b zero h = let is = serial_is t.element t.key in let own = All-head (Within top) (mark_of t) (marks ts) b in (omega (arith, own.0), omega (arith, own.1))
bounded_at top (t ∷ ts) b (suc i) h = bounded_at top ts (All-tail (Within top) (mark_of t) (marks ts) b) i (omega arith)

-- so they are few
pub bounded_few : (top : ℕ) (ss : List (Slot Mark)) → Rising (keys ss) → Bounded top (marks ss) → length ss ≤ top
bounded_few top ss up b =
    let n = length-map ss (λ (t : Slot Mark). t.key) in
    let few = rising_few (keys ss) top up (bounded_at top ss b) in
    omega arith

-- what an allowed record leaves
module _ (q : Queue Mark) (top : ℕ) (bounded : Bounded top (open_marks q)) (fits : top < room q) where
  allowed_open : (n : ℕ) → may_open top n (open_marks q) ≡ true → (is_open n (open_marks q) ≡ false) × (1 ≤ n) × (n ≤ top)
  unfolding may_open
  allowed_open n may = (grind (arith, nat_tests), grind (arith, nat_tests), grind (arith, nat_tests))

  pub opened : (e : Mark) → may_open top (number e) (open_marks q) ≡ true
      → marks (after (room q) (record { key = number e; element = e }) (items q)) ≡ with_mark (kind e (number e)) (open_marks q)
  opened e may =
      let (free, low, high) = allowed_open (number e) may in
      let few = bounded_few top (items q) (rises q) bounded in
      let s : Slot Mark = record { key = number e; element = e } in
      ap marks (cond-false _ _ _ (holds_is (number e) (items q) ∙ free) ∙ cond-false _ _ _ (ne_eqb (length (items q)) (room q) (λ full. omega arith))) ∙ with_is s (items q)

  pub bounded_opened : (e : Mark) → may_open top (number e) (open_marks q) ≡ true → Bounded top (with_mark (kind e (number e)) (open_marks q))
  bounded_opened e may =
      let (free, low, high) = allowed_open (number e) may in
      let is = serial_is e (number e) in
      bounded_with top (kind e (number e)) (open_marks q) (omega arith) (omega arith) bounded

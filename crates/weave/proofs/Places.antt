-- What a set shows, by places: the marks of a walk are those that are open by places.
use Rattle.std.proofs.Common.{◌≡◌, ℕ, suc, ◌+◌, ◌<◌, ◌≤◌, true, false, not, ltb, ◌⊎◌, List, [], ◌∷◌, sym, ap, ◌∙◌, inl, inr, ⊎_elim, true≢false, add-zero, arith}
use Rattle.std.proofs.lemmas.Bool.{cond_both, cases_lt, ltb-true, and_parts, and_cases, not-true, not-false}
use Rattle.lines.specs.Lines.{Line}
use Rattle.sets.specs.Bits.{Serials}
use Rattle.records.specs.BodyRecords.{Mark, insertion, deletion, serial, Record, opens, ends, text}
use Rattle.weave.specs.Marks.{with_mark, closed, inserter, deleted_above, visible, shown}
use Rattle.weave.specs.Rules.{is_open, may_open}
use Rattle.weave.specs.Places.{record_at, OpenAt, ShowsAt, Chosen, taken, passed, ShownByPlaces}
use Rattle.weave.specs.Places as places
use Rattle.weave.proofs.Obeys.{Obeys, done, opening, ending, lying, obeys}
use Rattle.weave.proofs.Among as among
use Rattle.weave.proofs.Among.{Among, Apart, among_own, among_with, with_among, apart_with, apart_closed, closed_among, among_closed, insertion_below, inserter_among, undeleted, deleter}

-- the marks ms are those that are open at place i
record Agree (all : List Record) (i : ℕ) (ms : List Mark) : Type 0 where
  from : (m : Mark) → Among m ms → OpenAt all m i
  to : (m : Mark) → OpenAt all m i → Among m ms

none_open : (all : List Record) → Agree all 0 []
none_open all = record {
  from = λ m a. elim a [ ];
  to = λ m o. let low = o.1 in absurd (omega arith);
}

module _ {all : List Record} {i : ℕ} {ms : List Mark} (agree : Agree all i ms) where
  -- what is open at the next place, where this record is not the end of the mark
  still : (m : Mark) → (record_at all i ≡ ends (serial m) → ⊥) → OpenAt all m i → OpenAt all m (i + 1)
  still m other o =
      let low = o.1 in (
        o.0,
        omega arith,
        o.2,
        λ k past before is.
            ⊎_elim (λ (lt : k < i). o.3 k past lt is) (λ (le : i ≤ k). let here : k ≡ i = omega arith in other (ap (record_at all) (sym here) ∙ is)) (cases_lt k i),
      )

  -- what is open at the next place was opened here or was open before
  back : (m : Mark) → OpenAt all m (i + 1) → (record_at all i ≡ opens m) ⊎ OpenAt all m i
  back m o =
      let low = o.1 in
      ⊎_elim
      (λ (lt : o.0 < i). inr (o.0, lt, o.2, λ k past before. o.3 k past (omega arith)))
      (λ (le : i ≤ o.0). let here : o.0 ≡ i = omega arith in inl (ap (record_at all) (sym here) ∙ o.2))
      (cases_lt o.0 i)

  after_text : (l : Line) → record_at all i ≡ text l → Agree all (i + 1) ms
  after_text l is = record {
    from = λ m a. still m (λ e. let z : ◌≡◌ {A = ℕ} 0 1 = cc in omega arith) (agree.from m a);
    to = λ m o. ⊎_elim (λ (e : record_at all i ≡ opens m). cc) (λ (b : OpenAt all m i). agree.to m b) (back m o);
  }

  after_opens : (n : Mark) → record_at all i ≡ opens n → Agree all (i + 1) (with_mark n ms)
  after_opens n is = record {
    from = λ m a.
        ⊎_elim
        (λ (e : m ≡ n). (i, omega arith, is ∙ ap opens (sym e), λ k past before _. let no : ⊥ = omega arith in no))
        (λ (b : Among m ms). still m (λ e. let z : ◌≡◌ {A = ℕ} 0 1 = cc in omega arith) (agree.from m b))
        (with_among m n ms a);
    to = λ m o.
        ⊎_elim
        (λ (e : record_at all i ≡ opens m). let same : m ≡ n = cc in rw same (among_own n ms))
        (λ (b : OpenAt all m i). among_with n (agree.to m b))
        (back m o);
  }

  after_ends : (n : ℕ) → Apart ms → record_at all i ≡ ends n → Agree all (i + 1) (closed n ms)
  after_ends n apart is = record {
    from = λ m a.
        let (b, other) = closed_among m n apart a in
        still m (λ e. other (let same : serial m ≡ n = cc in same)) (agree.from m b);
    to = λ m o.
        let other : serial m ≡ n → ⊥ = λ e.
        ⊎_elim
        (λ (lt : o.0 < i). o.3 i lt (omega arith) (is ∙ ap ends (sym e)))
        (λ (le : i ≤ o.0).
        let low = o.1 in
        let here : o.0 ≡ i = omega arith in
        let there : record_at all i ≡ opens m = ap (record_at all) (sym here) ∙ o.2 in
        let z : ◌≡◌ {A = ℕ} 0 1 = cc in omega arith)
        (cases_lt o.0 i) in
        ⊎_elim
        (λ (h : record_at all i ≡ opens m). cc)
        (λ (b : OpenAt all m i). among_closed n other (agree.to m b))
        (back m o);
  }

  -- a line is seen under the open marks exactly where the set shows it by places
  seen : (s : Serials) → ltb 0 (inserter ms) ≡ true → visible s ms ≡ true → ShowsAt s all i
  unfolding visible
  seen s some sees =
      let n = inserter ms in
      let parts = and_parts (s n) (not (deleted_above s n ms)) sees in
      record {
        by = n;
        inserted = agree.from (insertion n) (inserter_among ms (ltb-true 0 n some));
        greatest = λ j o. insertion_below (agree.to (insertion j) o);
        has = parts.0;
        undeleted = λ j o above. undeleted s n (not-true _ parts.1) (agree.to (deletion j) o) above;
      }

  hidden : (s : Serials) → ltb 0 (inserter ms) ≡ true → visible s ms ≡ false → ShowsAt s all i → ⊥
  unfolding visible
  hidden s some hides shows =
      let n = inserter ms in
      let up = insertion_below (agree.to (insertion shows.by) shows.inserted) in
      let down = shows.greatest n (agree.from (insertion n) (inserter_among ms (ltb-true 0 n some))) in
      let same : shows.by ≡ n = omega arith in
      ⊎_elim
      (λ (out : s n ≡ false). true≢false (sym shows.has ∙ ap s same ∙ out))
      (λ (gone : not (deleted_above s n ms) ≡ false).
      let d = deleter s n ms (not-false _ gone) in
      let above = d.2 in
      true≢false (sym d.3 ∙ shows.undeleted d.0 (agree.from (deletion d.0) d.1) (omega arith)))
      (and_cases (s n) (not (deleted_above s n ms)) hides)

free : (top : ℕ) (m : Mark) (ms : List Mark) → may_open top (serial m) ms ≡ true → is_open (serial m) ms ≡ false
unfolding may_open
free top m ms may = not-true _ (and_parts _ _ (and_parts _ _ may).1).0

-- from place i on the records rs stand
record Rest (all : List Record) (i : ℕ) (rs : List Record) : Type 0 where
  stand : (k : ℕ) → record_at all (i + k) ≡ record_at rs k

at : {all : List Record} {i : ℕ} {r : Record} {rs : List Record} → Rest all i (r ∷ rs) → record_at all i ≡ r
at {all} {i} rest = ap (record_at all) (sym (add-zero i)) ∙ rest.stand 0

next : {all : List Record} {i : ℕ} {r : Record} {rs : List Record} → Rest all i (r ∷ rs) → Rest all (i + 1) rs
next {all} {i} rest = record { stand = λ k. let e : i + 1 + k ≡ i + suc k = omega arith in ap (record_at all) e ∙ rest.stand (suc k) }

module _ (all : List Record) (s : Serials) where
  chosen : {top : ℕ} {ms : List Mark} {rs : List Record} → Obeys top ms rs → (i : ℕ) → Rest all i rs → Agree all i ms → Apart ms → Chosen (ShowsAt s all) i rs (shown s ms rs)
  unfolding shown
  chosen done i rest agree apart = places.none
  chosen {top} {ms} (opening {m} may more) i rest agree apart =
      places.opening (chosen more (i + 1) (next rest) (after_opens agree m (at rest)) (apart_with m (free top m ms may) apart))
  chosen (ending {k} may more) i rest agree apart =
      places.ending (chosen more (i + 1) (next rest) (after_ends agree k apart (at rest)) (apart_closed k apart))
  chosen {ms} (lying {l} {rs = rs} may more) i rest agree apart =
      let others = chosen more (i + 1) (next rest) (after_text agree l (at rest)) apart in
      cond_both (visible s ms) _ _ (Chosen (ShowsAt s all) i (text l ∷ rs)) (λ sees. taken (seen agree s may sees) others) (λ hides. passed (hidden agree s may hides) others)

pub shown_by_places : ShownByPlaces
shown_by_places top s rs valid =
    chosen rs s (obeys top rs [] 1 valid) 0 (record { stand = λ k. let e : 0 + k ≡ k = omega arith in ap (record_at rs) e }) (none_open rs) among.none

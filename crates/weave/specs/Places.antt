-- What a set shows of a body, by places in the body and not by a walk. Assumes nothing.
--
-- record_at rs i    the record at place i of the body rs, counted from 0
-- OpenAt rs m i     the mark m is open at place i: it was opened before i and not ended since
-- ShowsAt s rs i    the set s shows a line at place i: it has the greatest insertion that is open there, and no greater
--                   deletion that is open there
-- Chosen P i rs ls  of the records rs, the first of which stands at place i, the texts at places that pass P are the
--                   lines ls, in their order
-- ShownByPlaces     a set shows of a valid body exactly the lines at the places where ShowsAt holds
use Rattle.std.specs.Prelude.{◌≡◌, ℕ, ◌+◌, ◌<◌, ◌≤◌, true, false, List, [], ◌∷◌, ◌≢◌, slice_index_or}
use Rattle.lines.specs.Lines.{Line}
use Rattle.sets.specs.Bits.{Serials}
use Rattle.records.specs.BodyRecords.{Mark, insertion, deletion, serial, Record, opens, ends, text, wrong}
use Rattle.weave.specs.Marks.{shown}
use Rattle.weave.specs.Rules.{Valid}

abbrev pub record_at : List Record → ℕ → Record
record_at rs i = slice_index_or rs i wrong

abbrev pub OpenAt : List Record → Mark → ℕ → Type 0
OpenAt rs m i =
    (j : ℕ) × (j < i) × (record_at rs j ≡ opens m) × ((k : ℕ) → j < k → k < i → record_at rs k ≢ ends (serial m))

pub record ShowsAt (s : Serials) (rs : List Record) (i : ℕ) : Type 0 where
  pub by : ℕ
  pub inserted : OpenAt rs (insertion by) i
  pub greatest : (n : ℕ) → OpenAt rs (insertion n) i → n ≤ by
  pub has : s by ≡ true
  pub undeleted : (n : ℕ) → OpenAt rs (deletion n) i → by < n → s n ≡ false

pub data Chosen (P : ℕ → Type 0) : ℕ → List Record → List Line → Type 0 where
  none : {i : ℕ} → Chosen P i [] []
  taken : {i : ℕ} {l : Line} {rs : List Record} {ls : List Line} → P i → Chosen P (i + 1) rs ls → Chosen P i (text l ∷ rs) (l ∷ ls)
  passed : {i : ℕ} {l : Line} {rs : List Record} {ls : List Line} → (P i → ⊥) → Chosen P (i + 1) rs ls → Chosen P i (text l ∷ rs) ls
  opening : {i : ℕ} {m : Mark} {rs : List Record} {ls : List Line} → Chosen P (i + 1) rs ls → Chosen P i (opens m ∷ rs) ls
  ending : {i n : ℕ} {rs : List Record} {ls : List Line} → Chosen P (i + 1) rs ls → Chosen P i (ends n ∷ rs) ls

abbrev pub ShownByPlaces : Type 0
ShownByPlaces = (top : ℕ) (s : Serials) (rs : List Record) → Valid top rs → Chosen (ShowsAt s rs) 0 rs (shown s [] rs)

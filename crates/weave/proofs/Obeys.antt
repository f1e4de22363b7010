-- The rules of a body as a relation: `breach` finds nothing exactly where they are obeyed.
use Rattle.std.proofs.Common.{◌≡◌, ℕ, ◌+◌, Bool, true, false, cond, ltb, List, [], ◌∷◌, Some, None, Option, refl}
use Rattle.lines.specs.Lines.{Line}
use Rattle.records.specs.BodyRecords.{Mark, serial, Record, opens, ends, text, wrong}
use Rattle.weave.specs.Marks.{with_mark, closed, inserter}
use Rattle.weave.specs.Rules.{may_open, may_close, breach}

pub data Obeys (top : ℕ) : List Mark → List Record → Type 0 where
  done : Obeys top [] []
  opening : {m : Mark} {ms : List Mark} {rs : List Record} → may_open top (serial m) ms ≡ true → Obeys top (with_mark m ms) rs → Obeys top ms (opens m ∷ rs)
  ending : {k : ℕ} {ms : List Mark} {rs : List Record} → may_close k ms ≡ true → Obeys top (closed k ms) rs → Obeys top ms (ends k ∷ rs)
  lying : {l : Line} {ms : List Mark} {rs : List Record} → ltb 0 (inserter ms) ≡ true → Obeys top ms rs → Obeys top ms (text l ∷ rs)

passed : (b : Bool) (o : Option ℕ) (p : ℕ) → cond b o (Some p) ≡ None → (b ≡ true) × (o ≡ None)
passed true o p none = (refl, none)
passed false o p none = (cc, cc)

pub obeys : (top : ℕ) (rs : List Record) (ms : List Mark) (p : ℕ) → breach top ms p rs ≡ None → Obeys top ms rs
unfolding breach
obeys top [] [] p none = done
obeys top [] (m ∷ ms) p none = cc
obeys top (opens m ∷ rs) ms p none =
    let (may, rest) = passed (may_open top (serial m) ms) (breach top (with_mark m ms) (p + 1) rs) p none in
    opening may (obeys top rs (with_mark m ms) (p + 1) rest)
obeys top (ends k ∷ rs) ms p none =
    let (may, rest) = passed (may_close k ms) (breach top (closed k ms) (p + 1) rs) p none in
    ending may (obeys top rs (closed k ms) (p + 1) rest)
obeys top (text l ∷ rs) ms p none =
    let (may, rest) = passed (ltb 0 (inserter ms)) (breach top ms (p + 1) rs) p none in
    lying may (obeys top rs ms (p + 1) rest)
obeys top (wrong ∷ rs) ms p none = cc

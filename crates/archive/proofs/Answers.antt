-- What the calls answer, from what the head was read as and what was chosen.
use Rattle.std.proofs.Common.{◌≡◌, ℕ, List, length, Some, None, Ok, Err, Option, Result, sym, refl, ap, ◌∙◌, arith}
use mathlib.Core.Path.{fun_ext}
use Rattle.std.specs.Result as results
use Rattle.std.proofs.lemmas.Grind.{common_steps}
use Rattle.lines.specs.declared.fault.Fault.{Fault}
use Rattle.lines.specs.Faults.{Refusal, first_refusal, verdict, left}
use Rattle.lines.specs.Lines.{Line}
use Rattle.whole.specs.Whole.{text_refusal}
use Rattle.sets.specs.Bits.{Serials}
use Rattle.sets.specs.Serials.{serials}
use Rattle.sets.specs.declared.set.SerialSet.{SerialSet}
use Rattle.head.specs.declared.table.Entry.{Entry}
use Rattle.head.specs.declared.reading.Head.{Head}
use Rattle.head.specs.Heads.{Outcome}
use Rattle.head.specs.Tables.{entries, serial_of, loaded}
use Rattle.weave.specs.Versions.{Lists}
use Rattle.weave.specs.Handing.{body_refusal, shown_of, chosen_set, hand_refusal}
use Rattle.archive.specs.Requests.{lists_of, first_bad, listed, request_refusal, request_set}
use Rattle.archive.specs.Reading.{get_refusal, get_lines}
use Rattle.archive.specs.declared.request.Request.{Request}

-- what an answer says of the refusal
pub refused : {A : Type 0} (q : Refusal) (a : A) (r : Result A Fault) (f : Fault) → r ≡ verdict q a → r ≡ Err f → q ≡ Some f
refused None a r f is err = cc
refused (Some g) a r f is err = cc

pub passed : {A : Type 0} (q : Refusal) (a : A) (r : Result A Fault) (x : A) → r ≡ verdict q a → r ≡ Ok x → (q ≡ None) × (x ≡ a)
passed None a r x is ok = (refl, cc)
passed (Some g) a r x is ok = (cc, cc)

-- a request of a version that is there is refused for its lists only
pub known : (es : List Entry) (r : Request) (v top : ℕ) (l : Lists) (o : Option ℕ) → serial_of es r.sid ≡ Some v → top ≡ length es → l ≡ lists_of r → o ≡ first_bad top l → request_refusal es r ≡ listed o
known es r v top l o found few same bad = grind (arith, common_steps)

-- what the choice of a set comes to
abbrev pub Choice : List Entry → Request → Result SerialSet Fault → Type 0
Choice es r c = results.MatchResult c (λ s. (request_refusal es r ≡ None) × ((k : ℕ) → serials s k ≡ request_set es r k)) (λ f. request_refusal es r ≡ Some f)

-- two answers to a call that is refused are the same
either : {A : Type 0} (b : Refusal) (f : Fault) (x y : A) → verdict (first_refusal b (Some f)) x ≡ verdict (first_refusal b (Some f)) y
either b f x y = grind (arith, common_steps)

neither : {A : Type 0} (b : Refusal) (f : Fault) (x y z : A) → left (first_refusal b (Some f)) x z ≡ left (first_refusal b (Some f)) y z
neither b f x y z = grind (arith, common_steps)

module _ (es : List Entry) (n : ℕ) (ls : List Line) (r : Request) (space : ℕ) where
  hand : Refusal → Serials → Refusal
  hand q s = first_refusal (body_refusal (length es) n ls) (first_refusal q (text_refusal (shown_of (length es) s n ls) space))

  lines : Serials → List Line
  lines s = shown_of (length es) s n ls

  pub answer_is : {A : Type 0} (F : List Line → A) (c : Result SerialSet Fault) → Choice es r c
      → verdict (hand_refusal (length es) n ls c space) (F (shown_of (length es) (chosen_set c) n ls)) ≡ verdict (get_refusal (Ok (es, n)) ls r space) (F (get_lines (Ok (es, n)) ls r))
  unfolding hand lines
  answer_is F (Ok s) chosen =
      let same : serials s ≡ request_set es r = fun_ext chosen.1 in
      ap (λ (t : Serials). verdict (hand None t) (F (lines t))) same ∙ ap (λ (q : Refusal). verdict (hand q (request_set es r)) (F (lines (request_set es r)))) (sym chosen.0)
  answer_is F (Err f) chosen =
      either (body_refusal (length es) n ls) f _ (F (lines (request_set es r)))
      ∙ ap (λ (q : Refusal). verdict (hand q (request_set es r)) (F (lines (request_set es r)))) (sym chosen)

  pub left_is : {A : Type 0} (F : List Line → A) (z : A) (c : Result SerialSet Fault) → Choice es r c
      → left (hand_refusal (length es) n ls c space) (F (shown_of (length es) (chosen_set c) n ls)) z ≡ left (get_refusal (Ok (es, n)) ls r space) (F (get_lines (Ok (es, n)) ls r)) z
  unfolding hand lines
  left_is F z (Ok s) chosen =
      let same : serials s ≡ request_set es r = fun_ext chosen.1 in
      ap (λ (t : Serials). left (hand None t) (F (lines t)) z) same ∙ ap (λ (q : Refusal). left (hand q (request_set es r)) (F (lines (request_set es r))) z) (sym chosen.0)
  left_is F z (Err f) chosen =
      neither (body_refusal (length es) n ls) f _ (F (lines (request_set es r))) z
      ∙ ap (λ (q : Refusal). left (hand q (request_set es r)) (F (lines (request_set es r))) z) (sym chosen)

-- the head as it was read
pub read_ok : (o : Outcome) (r : Result Head Fault) (h : Head) → loaded r ≡ o → r ≡ Ok h → o ≡ Ok (entries h.table, h.records)
read_ok o r h is ok = sym is ∙ ap loaded ok

-- A head that is read entry by entry. Assumes nothing.
use Rattle.std.proofs.Common.{◌≡◌, ℕ, ◌+◌, ◌-◌, ◌<◌, ◌≤◌, true, false, not, eqb, List, [], length, Some, Ok, Err, Option, unwrap_or, sym, refl, ap, ◌∙◌, arith}
use Rattle.std.specs.Option.{option_eq}
use Rattle.std.proofs.lemmas.Grind.{common_steps}
use Rattle.std.proofs.lemmas.List.{length_push}
use Rattle.lines.specs.declared.fault.Fault.{Fault}
use Rattle.lines.specs.Lines.{Line}
use Rattle.head.specs.declared.table.Entry.{Entry}
use Rattle.head.specs.Heads.{counts, last, last_marks, head, follows, last_serial}
use Rattle.head.specs.Reading.{Ahead, rest, turn_after, Adds, Ends}
use Rattle.head.proofs.Orders.{last_push}

-- more than the entries that are still to come
abbrev pub left : List Entry → ℕ
left es = unwrap_or (last_serial es) 64

-- the entries es are read, and a is ahead
abbrev pub Sofar : List Line → Ahead → List Entry → Type 0
Sofar ls a es = (1 ≤ left es) × (length es + left es ≤ 64) × (rest a es (turn_after (last_serial es)) ≡ head ls)

pub begun : (ls : List Line) → Sofar ls (1, ls) []
begun ls = (omega arith, omega arith, refl)

-- is the last entry there?
not-one : (o : Option ℕ) → true ≡ not (option_eq eqb o (Some 1)) → o ≡ Some 1 → ⊥
not-one o h z = grind (arith, common_steps)

is-one : (o : Option ℕ) → false ≡ not (option_eq eqb o (Some 1)) → o ≡ Some 1
is-one o h = grind (arith, common_steps)

two : (o : Option ℕ) → 1 ≤ unwrap_or o 64 → (o ≡ Some 1 → ⊥) → 2 ≤ unwrap_or o 64
two o some more = grind (arith, common_steps)

lower : (o : Option ℕ) (n : ℕ) → follows o n ≡ true → 2 ≤ unwrap_or o 64 → (1 ≤ n) × (n + 1 ≤ unwrap_or o 64)
lower o n h some = grind (arith, common_steps)

to_counts : (o : Option ℕ) → (o ≡ Some 1 → ⊥) → turn_after o ≡ counts
to_counts o more = grind (arith, common_steps)

-- o is the serial of the last entry
module _ (ls : List Line) (a b : Ahead) (es : List Entry) (so : Sofar ls a es) (o : Option ℕ) (is : o ≡ last_serial es) where
  module _ (test : true ≡ not (option_eq eqb o (Some 1))) where
    more : last_serial es ≡ Some 1 → ⊥
    more z = not-one o test (is ∙ z)

    some : 2 ≤ left es
    some = two (last_serial es) so.0 more

    pub room : length es < 63
    room = omega (arith, some, so.1)

    at_counts : head ls ≡ rest a es counts
    at_counts = sym so.2 ∙ ap (rest a es) (to_counts (last_serial es) more)

    pub refused : (fs : List Entry) (f : Fault) → Adds a es (Err f) b fs → head ls ≡ Err f
    refused fs f h = at_counts ∙ h

    module _ (fs : List Entry) (h : Adds a es (Ok tt) b fs) where
      last_is : last_serial fs ≡ Some h.0.serial
      last_is = ap last_serial h.1 ∙ last_push es h.0

      left_is : left fs ≡ h.0.serial
      left_is = ap (λ o. unwrap_or o 64) last_is

      pub smaller : left fs < left es
      smaller = omega (arith, left_is, lower (last_serial es) h.0.serial h.2 some)

      pub added : Sofar ls b fs
      added =
          let low = lower (last_serial es) h.0.serial h.2 some in
          let longer : length fs ≡ length es + 1 = ap length h.1 ∙ length_push es h.0 in (
            omega (arith, left_is, low.0),
            omega (arith, left_is, low.1, longer, so.1),
            ap (λ o. rest b fs (turn_after o)) last_is ∙ sym (at_counts ∙ h.3),
          )

  module _ (test : false ≡ not (option_eq eqb o (Some 1))) where
    at_last : head ls ≡ rest a es (last last_marks)
    at_last = sym so.2 ∙ ap (λ o. rest a es (turn_after o)) (sym is ∙ is-one o test)

    pub ended : Ends a (Ok tt) b → head ls ≡ Ok (es, b.0 - 1)
    ended h = at_last ∙ h es

    pub unended : (f : Fault) → Ends a (Err f) b → head ls ≡ Err f
    unended f h = at_last ∙ h es

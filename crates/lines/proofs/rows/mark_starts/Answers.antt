use Rattle.std.proofs.Common.{rules, tests, ◌≡◌, ℕ, ◌+◌, ◌*◌, ◌/◌, ◌%◌, ◌<◌, List, length, get_or, set, eqb, sym, ap, ◌∙◌, subst, ⊎_elim, arith}
use Rattle.std.proofs.lemmas.List.{get_or-set_same, get_or-set_other, length-set}
use Rattle.std.proofs.lemmas.List.Sorted.{answers_always}
use Rattle.std.proofs.lemmas.Bool.{cases_eq}
use Rattle.std.specs.Iterator.Adapters.{enumerate_count}
use Rattle.lines.specs.Rows.{lines_in, start_of}
use Rattle.lines.proofs.RowLaws.{counted_step, behind, behind_start}
use Rattle.lines.proofs.rows.mark_starts.Goals as goal
use Rattle.lines.proofs.rows.mark_starts.Goals.{then-i-eq0, else-i-eq0}

-- the rows before row i + 1 that have a mark have their places there
abbrev Below : List ℕ → List ℕ → ℕ → Type 0
Below bs starts i = (k : ℕ) → 64 * k < i → get_or starts k 0 ≡ start_of (lines_in bs) (64 * k + 1)

marked_here : (bs starts : List ℕ) (at i : ℕ) → length starts ≡ 63 → i < 4000 → i % 64 ≡ 0 → at ≡ start_of (lines_in bs) (i + 1) → Below bs starts i → Below bs (set starts (i / 64) at) (i + 1)
marked_here bs starts at i long few whole here below k h =
    ⊎_elim
    (λ (e : k ≡ i / 64).
    let same : i + 1 ≡ 64 * k + 1 = omega arith in
    ap (λ j. get_or (set starts (i / 64) at) j 0) e ∙ get_or-set_same starts (i / 64) at 0 (omega arith) ∙ here ∙ ap (start_of (lines_in bs)) same)
    (λ (ne : k ≡ i / 64 → ⊥).
    let less : 64 * k < i = omega arith in
    get_or-set_other starts (i / 64) k at 0 ne ∙ below k less)
    (cases_eq k (i / 64))

passed_here : (bs starts : List ℕ) (i : ℕ) → (i % 64 ≡ 0 → ⊥) → Below bs starts i → Below bs starts (i + 1)
passed_here bs starts i part below k h =
    let less : 64 * k < i = ⊎_elim (λ (e : 64 * k ≡ i). absurd (part (omega arith))) (λ (ne : 64 * k ≡ i → ⊥). omega arith) (cases_eq (64 * k) i) in
    below k less

pub loop-i-preserved : goal.loop-i-preserved
loop-i-preserved c =
    let bs : List ℕ = c.args.bytes.now in
    let inv = c.loop-i.invariant in
    let e = c.in-Some.ensures.steps in
    let s = e.0 in
    let first = (s.1.2 (λ b. eqb b 10) (answers_always _ _ _ (λ f a r f' k. search (rules, tests)))).1 in
    let one = counted_step _ _ _ s.1.0 s.0 s.1.1 first s.2 in
    let i : ℕ = c.in-Some.i in
    let few : i < 4000 = omega (arith, e.1, inv.left, one, c.requires) in
    let below : Below bs c.loop-i.starts i = subst (Below bs c.loop-i.starts) (sym e.1) inv.marked in
    let start : c.loop-i.at ≡ start_of (lines_in bs) (i + 1) = inv.here s.2 ∙ ap (λ k. start_of (lines_in bs) (k + 1)) (sym e.1) in
    let next : enumerate_count c.next.new.self ≡ i + 1 = omega (arith, e.1, e.2) in
    record {
      long = elim c.if-i-eq0.branch [ then-i-eq0 w ↦ ap length w.starts-is ∙ length-set _ _ _ ∙ inv.long | else-i-eq0 w ↦ ap length w.starts-is ∙ inv.long ];
      rest_is = behind bs _ _ _ c.loop-i.at s.1.0 0 inv.rest_is s.0 s.1.1 first s.2;
      left = omega (arith, e.2, inv.left, one);
      here = λ more. behind_start bs _ _ _ c.loop-i.at s.1.0 _ inv.rest_is s.0 s.1.1 first s.2 (inv.here s.2) inv.left more ∙ ap (λ k. start_of (lines_in bs) (k + 1)) (sym e.2);
      marked = subst (Below bs c.if-i-eq0.starts) (sym next) (elim c.if-i-eq0.branch [
        | then-i-eq0 w ↦ subst (λ x. Below bs x (i + 1)) (sym w.starts-is) (marked_here bs c.loop-i.starts c.loop-i.at i inv.long few w.if-i-eq0.true start below)
        | else-i-eq0 w ↦ subst (λ x. Below bs x (i + 1)) (sym w.starts-is) (passed_here bs c.loop-i.starts i w.if-i-eq0.false below)
      ]);
    }

use Rattle.std.proofs.Common.{◌≡◌, ℕ, ◌+◌, cond, not, ◌&&◌, ◌||◌, eqb, length, sym, ap, ◌∙◌, arith}
use Rattle.std.proofs.lemmas.List.{length-map}
use Rattle.std.proofs.lemmas.Bool.{cond-true, cond-false, eq-eqb, ne_eqb}
use Rattle.weave.specs.Versions.{marks, members}
use Rattle.sets.specs.Serials.{serials}
use Rattle.weave.specs.Tables.{listed, delta_of, deltas}
use Rattle.sets.specs.declared.listed.Lists.{Lists}
use Rattle.weave.proofs.VersionSteps.{marks_more, step_in, step_out, none_left}
use Rattle.weave.proofs.version.set_in.Goals as goal
use Rattle.weave.proofs.version.set_in.Goals.{then-reached-n, else-reached-n}

pub entries-init : goal.entries-init
entries-init c = record {
  few = c.requires;
  same = λ k. ap (λ b. b || members (deltas c.args.table.now) c.args.version (marks (listed c.args.call)) k) (sym (c.empty-set.ensures.serials k));
}

pub entries-preserved-then-stands : goal.entries-preserved-then-stands
entries-preserved-then-stands c =
    let rest = c.entries.rest.now in
    let entry = c.in-Some.entry.now in
    let older = c.in-Some.older.now in
    let (split, long) = c.in-Some.ensures.cases in
    let m = c.entries.marked in
    let v = c.entries.reached in
    let n = length rest in
    let count : n ≡ length (deltas older) + 1 = omega (arith, length-map older delta_of) in
    let reached : c.if-reached-n.reached ≡ cond (eqb v n) entry.predecessor v = elim c.if-reached-n.branch [
      | then-reached-n w ↦ w.reached-is ∙ sym (cond-true _ _ _ (eq-eqb v n w.if-reached-n.true))
      | else-reached-n w ↦ w.reached-is ∙ sym (cond-false _ _ _ (ne_eqb v n w.if-reached-n.false))
    ] in
    let new : Lists = record { includes = c.union.result; excludes = c.union-then-stands.result } in
    let outs : (j : ℕ) → serials c.union-then-stands.result j ≡ (serials m.excludes j || (serials entry.lists.excludes j && not (serials m.includes j))) =
    λ j. c.union-then-stands.ensures j ∙ ap (λ b. serials m.excludes j || b) (c.without.ensures j) in
    record {
      few = omega (arith, c.entries.invariant.few);
      same = λ k. c.entries.invariant.same k ∙ ap (λ es. serials c.entries.set k || members (deltas es) v (marks (listed m)) k) split
          ∙ step_in (serials c.entries.set) (delta_of entry) (deltas older) v (marks (listed m)) n c.if-reached-n.reached count reached (serials c.with-set.result) (marks (listed new)) c.if-stands.ensures
          (c.with-set.ensures.serials (omega (arith, c.entries.invariant.few))) (marks_more (listed m) (delta_of entry).lists (listed new) outs c.union.ensures) k;
    }

pub entries-preserved : goal.entries-preserved
entries-preserved c =
    let rest = c.entries.rest.now in
    let entry = c.in-Some.entry.now in
    let older = c.in-Some.older.now in
    let (split, long) = c.in-Some.ensures.cases in
    let m = c.entries.marked in
    let v = c.entries.reached in
    let n = length rest in
    let count : n ≡ length (deltas older) + 1 = omega (arith, length-map older delta_of) in
    let reached : c.if-reached-n.reached ≡ cond (eqb v n) entry.predecessor v = elim c.if-reached-n.branch [
      | then-reached-n w ↦ w.reached-is ∙ sym (cond-true _ _ _ (eq-eqb v n w.if-reached-n.true))
      | else-reached-n w ↦ w.reached-is ∙ sym (cond-false _ _ _ (ne_eqb v n w.if-reached-n.false))
    ] in
    record {
      few = omega (arith, c.entries.invariant.few);
      same = λ k. c.entries.invariant.same k ∙ ap (λ es. serials c.entries.set k || members (deltas es) v (marks (listed m)) k) split
          ∙ step_out (serials c.entries.set) (delta_of entry) (deltas older) v (marks (listed m)) n c.if-reached-n.reached count reached c.if-stands.ensures k;
    }

pub returns : goal.returns
returns c k =
    let s = serials c.entries.set in
    sym (c.entries.invariant.same k ∙ none_left c.entries.rest.now c.entries.reached (marks (listed c.entries.marked)) k (s k) c.in_default.ensures.cases)

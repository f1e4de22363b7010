use Rattle.std.proofs.Common.{◌≡◌, [], ◌∷◌, drop, Some, refl, sym, ap, ◌∙◌, rules}
use borrow.Author.Tests.{tests}
use Rattle.records.specs.Pieces.{cut}
use Rattle.records.specs.Sids.{part, sid_from}
use Rattle.records.proofs.Cuts.{first, all}
use Rattle.records.proofs.SidLaws.{bad}
use Rattle.records.proofs.sid.read_sid.Goals as goal

pub returns-in_err-release : goal.returns-in_err-release
returns-in_err-release c =
    let e = first _ 46 c.args.word.now c.split-parts.result c.split-parts.ensures.rest c.split-parts.ensures.done (λ x b q k. search (rules, tests)) (c.in_ok-next.field-0 ∷ []) c.next.new.self (c.next.new.self, c.in_ok-next.ensures.steps, refl) in
    c.from_residual-in_err-release.ensures ∙ sym (ap sid_from e ∙ bad [] c.in_ok-next.field-0.now (drop 1 (cut 46 c.args.word.now)) (sym c.read_part.ensures ∙ c.in_err-release.was))

pub returns-in_err-next-2 : goal.returns-in_err-next-2
returns-in_err-next-2 c =
    let e = all _ 46 c.args.word.now c.split-parts.result c.split-parts.ensures.rest c.split-parts.ensures.done (λ x b q k. search (rules, tests)) (c.in_ok-next.field-0 ∷ []) c.next.new.self (c.next.new.self, c.in_ok-next.ensures.steps, refl) c.next-2.new.self c.in_err-next-2.ensures.steps in
    c.from_residual-in_err-next-2.ensures ∙ sym (ap sid_from e)

pub returns-in_err-level : goal.returns-in_err-level
returns-in_err-level c =
    let e = first _ 46 c.args.word.now c.split-parts.result c.split-parts.ensures.rest c.split-parts.ensures.done (λ x b q k. search (rules, tests)) (c.in_ok-next.field-0 ∷ c.in_ok-next-2.field-0 ∷ []) c.next-2.new.self (c.next.new.self, c.in_ok-next.ensures.steps, (c.next-2.new.self, c.in_ok-next-2.ensures.steps, refl)) in
    c.from_residual-in_err-level.ensures ∙ sym (ap sid_from e ∙ bad (c.in_ok-next.field-0.now ∷ []) c.in_ok-next-2.field-0.now (drop 2 (cut 46 c.args.word.now)) (sym c.read_part-2.ensures ∙ c.in_err-level.was))

pub returns-in_default : goal.returns-in_default
returns-in_default c =
    let p : part c.in_ok-next.field-0.now ≡ Some c.in_ok-release.release = sym c.read_part.ensures ∙ c.in_ok-release.was in
    let q : part c.in_ok-next-2.field-0.now ≡ Some c.in_ok-level.level = sym c.read_part-2.ensures ∙ c.in_ok-level.was in
    let e = all _ 46 c.args.word.now c.split-parts.result c.split-parts.ensures.rest c.split-parts.ensures.done (λ x b q k. search (rules, tests)) (c.in_ok-next.field-0 ∷ c.in_ok-next-2.field-0 ∷ []) c.next-2.new.self (c.next.new.self, c.in_ok-next.ensures.steps, (c.next-2.new.self, c.in_ok-next-2.ensures.steps, refl)) c.next-3.new.self c.in_default.ensures.steps in
    sym (ap sid_from e ∙ rw (p, q) refl)

pub returns-in_err-branch : goal.returns-in_err-branch
returns-in_err-branch c =
    let e = first _ 46 c.args.word.now c.split-parts.result c.split-parts.ensures.rest c.split-parts.ensures.done (λ x b q k. search (rules, tests)) (c.in_ok-next.field-0 ∷ c.in_ok-next-2.field-0 ∷ c.in-Some.third ∷ []) c.next-3.new.self (c.next.new.self, c.in_ok-next.ensures.steps, (c.next-2.new.self, c.in_ok-next-2.ensures.steps, (c.next-3.new.self, c.in-Some.ensures.steps, refl))) in
    c.from_residual-in_err-branch.ensures ∙ sym (ap sid_from e ∙ bad (c.in_ok-next.field-0.now ∷ c.in_ok-next-2.field-0.now ∷ []) c.in-Some.third.now _ (sym c.read_part-3.ensures ∙ c.in_err-branch.was))

pub returns-in_err-next-3 : goal.returns-in_err-next-3
returns-in_err-next-3 c =
    let e = all _ 46 c.args.word.now c.split-parts.result c.split-parts.ensures.rest c.split-parts.ensures.done (λ x b q k. search (rules, tests)) (c.in_ok-next.field-0 ∷ c.in_ok-next-2.field-0 ∷ c.in-Some.third ∷ []) c.next-3.new.self (c.next.new.self, c.in_ok-next.ensures.steps, (c.next-2.new.self, c.in_ok-next-2.ensures.steps, (c.next-3.new.self, c.in-Some.ensures.steps, refl))) c.next-4.new.self c.in_err-next-3.ensures.steps in
    c.from_residual-in_err-next-3.ensures ∙ sym (ap sid_from e)

pub returns-in_err-sequence : goal.returns-in_err-sequence
returns-in_err-sequence c =
    let e = first _ 46 c.args.word.now c.split-parts.result c.split-parts.ensures.rest c.split-parts.ensures.done (λ x b q k. search (rules, tests)) (c.in_ok-next.field-0 ∷ c.in_ok-next-2.field-0 ∷ c.in-Some.third ∷ c.in_ok-next-3.field-0 ∷ []) c.next-4.new.self (c.next.new.self, c.in_ok-next.ensures.steps, (c.next-2.new.self, c.in_ok-next-2.ensures.steps, (c.next-3.new.self, c.in-Some.ensures.steps, (c.next-4.new.self, c.in_ok-next-3.ensures.steps, refl)))) in
    c.from_residual-in_err-sequence.ensures ∙ sym (ap sid_from e ∙ bad (c.in_ok-next.field-0.now ∷ c.in_ok-next-2.field-0.now ∷ c.in-Some.third.now ∷ []) c.in_ok-next-3.field-0.now _ (sym c.read_part-4.ensures ∙ c.in_err-sequence.was))

pub returns-in-Some-next : goal.returns-in-Some-next
returns-in-Some-next c =
    let e = first _ 46 c.args.word.now c.split-parts.result c.split-parts.ensures.rest c.split-parts.ensures.done (λ x b q k. search (rules, tests)) (c.in_ok-next.field-0 ∷ c.in_ok-next-2.field-0 ∷ c.in-Some.third ∷ c.in_ok-next-3.field-0 ∷ c.in-Some-next.field-0 ∷ []) c.next-5.new.self (c.next.new.self, c.in_ok-next.ensures.steps, (c.next-2.new.self, c.in_ok-next-2.ensures.steps, (c.next-3.new.self, c.in-Some.ensures.steps, (c.next-4.new.self, c.in_ok-next-3.ensures.steps, (c.next-5.new.self, c.in-Some-next.ensures.steps, refl))))) in
    sym (ap sid_from e)

pub returns-in-None : goal.returns-in-None
returns-in-None c =
    let p : part c.in_ok-next.field-0.now ≡ Some c.in_ok-release.release = sym c.read_part.ensures ∙ c.in_ok-release.was in
    let q : part c.in_ok-next-2.field-0.now ≡ Some c.in_ok-level.level = sym c.read_part-2.ensures ∙ c.in_ok-level.was in
    let r : part c.in-Some.third.now ≡ Some c.in_ok-branch.branch = sym c.read_part-3.ensures ∙ c.in_ok-branch.was in
    let t : part c.in_ok-next-3.field-0.now ≡ Some c.in_ok-sequence.sequence = sym c.read_part-4.ensures ∙ c.in_ok-sequence.was in
    let e = all _ 46 c.args.word.now c.split-parts.result c.split-parts.ensures.rest c.split-parts.ensures.done (λ x b q k. search (rules, tests)) (c.in_ok-next.field-0 ∷ c.in_ok-next-2.field-0 ∷ c.in-Some.third ∷ c.in_ok-next-3.field-0 ∷ []) c.next-4.new.self (c.next.new.self, c.in_ok-next.ensures.steps, (c.next-2.new.self, c.in_ok-next-2.ensures.steps, (c.next-3.new.self, c.in-Some.ensures.steps, (c.next-4.new.self, c.in_ok-next-3.ensures.steps, refl)))) c.next-5.new.self c.in-None.ensures.steps in
    sym (ap sid_from e ∙ rw (p, q, r, t) refl)

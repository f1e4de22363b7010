use Rattle.std.proofs.Common.{[], ◌∷◌, length, refl, sym, ap, ◌∙◌, rules, arith}
use Rattle.std.specs.Option.{option_map}
use Rattle.std.proofs.lemmas.Bool.{cond-false, ne_eqb}
use borrow.Author.Tests.{tests}
use Rattle.records.specs.Pieces.{cut}
use Rattle.records.specs.DeltaRecords.{six, field_words}
use Rattle.records.proofs.Cuts.{first, all}
use Rattle.records.proofs.delta_record.six_words.Goals as goal

pub returns-in_err-next-2 : goal.returns-in_err-next-2
returns-in_err-next-2 c =
    let e = all _ 32 c.args.rest.now c.split-words.result c.split-words.ensures.rest c.split-words.ensures.done (λ x b q k. search (rules, tests)) (c.in_ok-next.field-0 ∷ []) c.next.new.self (c.next.new.self, c.in_ok-next.ensures.steps, refl) c.next-2.new.self c.in_err-next-2.ensures.steps in
    ap (option_map field_words) c.from_residual-in_err-next-2.ensures ∙ sym (ap six e)

pub returns-in_err-next-3 : goal.returns-in_err-next-3
returns-in_err-next-3 c =
    let e = all _ 32 c.args.rest.now c.split-words.result c.split-words.ensures.rest c.split-words.ensures.done (λ x b q k. search (rules, tests)) (c.in_ok-next.field-0 ∷ c.in_ok-next-2.field-0 ∷ []) c.next-2.new.self (c.next.new.self, c.in_ok-next.ensures.steps, (c.next-2.new.self, c.in_ok-next-2.ensures.steps, refl)) c.next-3.new.self c.in_err-next-3.ensures.steps in
    ap (option_map field_words) c.from_residual-in_err-next-3.ensures ∙ sym (ap six e)

pub returns-in_err-next-4 : goal.returns-in_err-next-4
returns-in_err-next-4 c =
    let e = all _ 32 c.args.rest.now c.split-words.result c.split-words.ensures.rest c.split-words.ensures.done (λ x b q k. search (rules, tests)) (c.in_ok-next.field-0 ∷ c.in_ok-next-2.field-0 ∷ c.in_ok-next-3.field-0 ∷ []) c.next-3.new.self (c.next.new.self, c.in_ok-next.ensures.steps, (c.next-2.new.self, c.in_ok-next-2.ensures.steps, (c.next-3.new.self, c.in_ok-next-3.ensures.steps, refl))) c.next-4.new.self c.in_err-next-4.ensures.steps in
    ap (option_map field_words) c.from_residual-in_err-next-4.ensures ∙ sym (ap six e)

pub returns-in_err-next-5 : goal.returns-in_err-next-5
returns-in_err-next-5 c =
    let e = all _ 32 c.args.rest.now c.split-words.result c.split-words.ensures.rest c.split-words.ensures.done (λ x b q k. search (rules, tests)) (c.in_ok-next.field-0 ∷ c.in_ok-next-2.field-0 ∷ c.in_ok-next-3.field-0 ∷ c.in_ok-next-4.field-0 ∷ []) c.next-4.new.self (c.next.new.self, c.in_ok-next.ensures.steps, (c.next-2.new.self, c.in_ok-next-2.ensures.steps, (c.next-3.new.self, c.in_ok-next-3.ensures.steps, (c.next-4.new.self, c.in_ok-next-4.ensures.steps, refl)))) c.next-5.new.self c.in_err-next-5.ensures.steps in
    ap (option_map field_words) c.from_residual-in_err-next-5.ensures ∙ sym (ap six e)

pub returns-in_err-next-6 : goal.returns-in_err-next-6
returns-in_err-next-6 c =
    let e = all _ 32 c.args.rest.now c.split-words.result c.split-words.ensures.rest c.split-words.ensures.done (λ x b q k. search (rules, tests)) (c.in_ok-next.field-0 ∷ c.in_ok-next-2.field-0 ∷ c.in_ok-next-3.field-0 ∷ c.in_ok-next-4.field-0 ∷ c.in_ok-next-5.field-0 ∷ []) c.next-5.new.self (c.next.new.self, c.in_ok-next.ensures.steps, (c.next-2.new.self, c.in_ok-next-2.ensures.steps, (c.next-3.new.self, c.in_ok-next-3.ensures.steps, (c.next-4.new.self, c.in_ok-next-4.ensures.steps, (c.next-5.new.self, c.in_ok-next-5.ensures.steps, refl))))) c.next-6.new.self c.in_err-next-6.ensures.steps in
    ap (option_map field_words) c.from_residual-in_err-next-6.ensures ∙ sym (ap six e)

pub returns-in-None : goal.returns-in-None
returns-in-None c =
    let e = all _ 32 c.args.rest.now c.split-words.result c.split-words.ensures.rest c.split-words.ensures.done (λ x b q k. search (rules, tests)) (c.in_ok-next.field-0 ∷ c.in_ok-next-2.field-0 ∷ c.in_ok-next-3.field-0 ∷ c.in_ok-next-4.field-0 ∷ c.in_ok-next-5.field-0 ∷ c.in_ok-next-6.field-0 ∷ []) c.next-6.new.self (c.next.new.self, c.in_ok-next.ensures.steps, (c.next-2.new.self, c.in_ok-next-2.ensures.steps, (c.next-3.new.self, c.in_ok-next-3.ensures.steps, (c.next-4.new.self, c.in_ok-next-4.ensures.steps, (c.next-5.new.self, c.in_ok-next-5.ensures.steps, (c.next-6.new.self, c.in_ok-next-6.ensures.steps, refl)))))) c.next-7.new.self c.in-None.ensures.steps in
    sym (ap six e)

pub returns-in-Some : goal.returns-in-Some
returns-in-Some c =
    let e = first _ 32 c.args.rest.now c.split-words.result c.split-words.ensures.rest c.split-words.ensures.done (λ x b q k. search (rules, tests)) (c.in_ok-next.field-0 ∷ c.in_ok-next-2.field-0 ∷ c.in_ok-next-3.field-0 ∷ c.in_ok-next-4.field-0 ∷ c.in_ok-next-5.field-0 ∷ c.in_ok-next-6.field-0 ∷ c.in-Some.field-0 ∷ []) c.next-7.new.self (c.next.new.self, c.in_ok-next.ensures.steps, (c.next-2.new.self, c.in_ok-next-2.ensures.steps, (c.next-3.new.self, c.in_ok-next-3.ensures.steps, (c.next-4.new.self, c.in_ok-next-4.ensures.steps, (c.next-5.new.self, c.in_ok-next-5.ensures.steps, (c.next-6.new.self, c.in_ok-next-6.ensures.steps, (c.next-7.new.self, c.in-Some.ensures.steps, refl))))))) in
    sym (cond-false _ _ _ (ne_eqb (length (cut 32 c.args.rest.now)) 6 (λ z. omega (arith, ap length e))))

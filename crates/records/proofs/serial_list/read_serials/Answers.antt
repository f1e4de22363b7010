use Rattle.std.proofs.Common.{◌≡◌, [], ◌∷◌, ◌++◌, length, drop, Some, None, Err, sym, ap, ◌∙◌, rules}
use Rattle.std.specs.Result.{result_ok}
use Rattle.lines.specs.declared.fault.Cause.TheVariants.{HeadForm}
use borrow.Author.Tests.{tests}
use Rattle.records.specs.Numerals.{serial_number}
use Rattle.records.specs.Pieces.{cut}
use Rattle.records.specs.SerialLists.{numbers}
use Rattle.records.proofs.Cuts.{next_piece, none_left}
use Rattle.records.proofs.ListLaws.{judged, finish, read, taken, refused, passed}
use Rattle.records.proofs.serial_list.read_serials.Goals as goal

pub loop-word-preserved-in-Some-list : goal.loop-word-preserved-in-Some-list
loop-word-preserved-in-Some-list c =
    let more = next_piece _ 32 c.args.rest.now c.into_iter-word-iterator.result (search rules) (search rules) (λ x b q k. search (rules, tests)) c.loop-word.yielded c.loop-word.word-iterator c.loop-word.yielded_by c.in-Some.word c.next.new.self c.in-Some.ensures.steps in
    let n : serial_number c.in-Some.word.now ≡ Some c.in_ok-n.n = sym c.read_serial_number.ensures.value ∙ c.ok_or.ensures.ok_part ∙ ap result_ok c.in_ok-n.was in
    ap (λ s. judged c.in_ok-n.n (Some s) c.args.own c.args.other (numbers (drop (length (c.loop-word.yielded ++ c.in-Some.word ∷ [])) (cut 32 c.args.rest.now)))) c.with.ensures.value
    ∙ taken c.args.own c.args.other (cut 32 c.args.rest.now) c.loop-word.yielded c.in-Some.word more c.loop-word.last c.loop-word.list c.in_ok-n.n n c.in-Some-list.set c.in-Some-list.is (sym c.is_allowed.ensures.value ∙ c.if-is_allowed.true) ∙ c.loop-word.invariant

pub loop-word-preserved-in_default : goal.loop-word-preserved-in_default
loop-word-preserved-in_default c =
    let more = next_piece _ 32 c.args.rest.now c.into_iter-word-iterator.result (search rules) (search rules) (λ x b q k. search (rules, tests)) c.loop-word.yielded c.loop-word.word-iterator c.loop-word.yielded_by c.in-Some.word c.next.new.self c.in-Some.ensures.steps in
    let n : serial_number c.in-Some.word.now ≡ Some c.in_ok-n.n = sym c.read_serial_number.ensures.value ∙ c.ok_or.ensures.ok_part ∙ ap result_ok c.in_ok-n.was in
    refused c.args.own c.args.other (cut 32 c.args.rest.now) c.loop-word.yielded c.in-Some.word more c.loop-word.last c.loop-word.list c.in_ok-n.n n c.in-Some-list.set c.in-Some-list.is (sym c.is_allowed.ensures.value ∙ c.if-is_allowed.false) ∙ c.loop-word.invariant

pub loop-word-preserved : goal.loop-word-preserved
loop-word-preserved c =
    let more = next_piece _ 32 c.args.rest.now c.into_iter-word-iterator.result (search rules) (search rules) (λ x b q k. search (rules, tests)) c.loop-word.yielded c.loop-word.word-iterator c.loop-word.yielded_by c.in-Some.word c.next.new.self c.in-Some.ensures.steps in
    let n : serial_number c.in-Some.word.now ≡ Some c.in_ok-n.n = sym c.read_serial_number.ensures.value ∙ c.ok_or.ensures.ok_part ∙ ap result_ok c.in_ok-n.was in
    passed c.args.own c.args.other (cut 32 c.args.rest.now) c.loop-word.yielded c.in-Some.word more c.loop-word.last c.loop-word.list c.in_ok-n.n n c.in_default.is ∙ c.loop-word.invariant

pub returns-in_err-n : goal.returns-in_err-n
returns-in_err-n c =
    let more = next_piece _ 32 c.args.rest.now c.into_iter-word-iterator.result (search rules) (search rules) (λ x b q k. search (rules, tests)) c.loop-word.yielded c.loop-word.word-iterator c.loop-word.yielded_by c.in-Some.word c.next.new.self c.in-Some.ensures.steps in
    let n : serial_number c.in-Some.word.now ≡ None = sym c.read_serial_number.ensures.value ∙ c.ok_or.ensures.ok_part ∙ ap result_ok c.in_err-n.was in
    let form : c.from_residual.result ≡ Err HeadForm = search rules in
    form ∙ sym (read c.args.own c.args.other (cut 32 c.args.rest.now) c.loop-word.yielded c.in-Some.word more c.loop-word.last c.loop-word.list None n) ∙ c.loop-word.invariant

pub returns : goal.returns
returns c =
    let none = none_left _ 32 c.args.rest.now c.into_iter-word-iterator.result (search rules) (search rules) (λ x b q k. search (rules, tests)) c.loop-word.yielded c.loop-word.word-iterator c.loop-word.yielded_by c.next.new.self c.in-None.ensures.steps in
    c.ok_or-2.ensures.value ∙ sym (finish c.args.own c.args.other c.loop-word.last c.loop-word.list)
    ∙ ap (λ v. judged c.loop-word.last c.loop-word.list c.args.own c.args.other (numbers v)) (sym none) ∙ c.loop-word.invariant

use Rattle.std.proofs.Common.{◌≡◌, Some, None, unwrap_or, sym, ap, ◌∙◌, arith}
use Rattle.std.proofs.lemmas.List.{length-take}
use Rattle.head.specs.Tables.{entries, serial_of}
use Rattle.weave.specs.Versions.{Lists, set_of}
use Rattle.weave.specs.Tables.{listed, deltas}
use Rattle.archive.specs.Requests.{lists_of}
use Rattle.archive.proofs.Answers.{known}
use Rattle.archive.proofs.choice.choose.Goals as goal

pub overflow_cast-len : goal.overflow_cast-len
overflow_cast-len c = let t = c.args.table.now in omega (arith, c.len.ensures, length-take t.count t.entries, t.few)

pub returns-in-Some : goal.returns-in-Some
returns-in-Some c =
    let es = entries c.args.table.now in
    let there : serial_of es c.args.request.sid ≡ Some c.in_ok-version.version = sym c.find.ensures ∙ c.in_ok-version.ensures.ok_part in
    known es c.args.request c.in_ok-version.version c.len.result (listed c.lists-lists.result) (Some c.in-Some.serial) there c.len.ensures c.lists-lists.ensures (sym c.in-Some.is ∙ c.first_bad.ensures)
    ∙ ap Some (sym c.of_serial.ensures)

pub returns-in-None : goal.returns-in-None
returns-in-None c =
    let es = entries c.args.table.now in
    let r = c.args.request in
    let v = c.in_ok-version.version in
    let there : serial_of es r.sid ≡ Some v = sym c.find.ensures ∙ c.in_ok-version.ensures.ok_part in (
      known es r v c.len.result (listed c.lists-lists.result) None there c.len.ensures c.lists-lists.ensures (sym c.in-None.is ∙ c.first_bad.ensures),
      λ k. c.set_of.ensures k ∙ ap (λ (l : Lists). set_of (deltas es) v l k) c.lists-lists.ensures ∙ sym (ap (λ o. set_of (deltas es) (unwrap_or o 0) (lists_of r) k) there),
    )

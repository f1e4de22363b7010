use Rattle.std.proofs.Common.{◌≡◌, ◌+◌, ◌-◌, ◌<◌, length, Ok, sym, ap, ◌∙◌, subst, arith}
use Rattle.head.specs.Heads.{Outcome, head, last_serial}
use Rattle.head.specs.Tables.{entries, loaded}
use Rattle.head.specs.Whole.{Whole}
use Rattle.head.proofs.Entries.{handed_on}
use Rattle.head.proofs.Turns.{Sofar, begun, room, refused, smaller, added, ended, unended}
use Rattle.head.proofs.Wholes.{IsWhole, EndsBefore, head_whole, head_ends}
use Rattle.head.proofs.reading.read_head.Goals as goal

pub loop-records-init : goal.loop-records-init
loop-records-init g c =
    let ls = g.S.LineSource.lines c.args.source.now in
    subst (λ a. Sofar ls a (entries c.new-table.result)) (sym c.of-records.ensures) (subst (Sofar ls (1, ls)) (sym c.new-table.ensures) (begun ls))

pub read_entry-requires : goal.read_entry-requires
read_entry-requires g c =
    let l = c.loop-records in
    let serial = c.last_serial.ensures ∙ ap last_serial c.entries.ensures.value in
    room (g.S.LineSource.lines c.args.source.now) l.records l.records (entries l.table) l.invariant _ serial c.loop-records-test.ensures

pub loop-records-smaller : goal.loop-records-smaller
loop-records-smaller g c =
    let l = c.loop-records in
    let serial = c.last_serial.ensures ∙ ap last_serial c.entries.ensures.value in
    smaller (g.S.LineSource.lines c.args.source.now) l.records _ (entries l.table) l.invariant _ serial c.loop-records-test.ensures _ c.in_ok-read_entry.ensures

pub loop-records-preserved : goal.loop-records-preserved
loop-records-preserved g c =
    let l = c.loop-records in
    let serial = c.last_serial.ensures ∙ ap last_serial c.entries.ensures.value in
    added (g.S.LineSource.lines c.args.source.now) l.records _ (entries l.table) l.invariant _ serial c.loop-records-test.ensures _ c.in_ok-read_entry.ensures

pub returns-in_err-read_entry-clause-value : goal.returns-in_err-read_entry-clause-value
returns-in_err-read_entry-clause-value g c =
    let ls = g.S.LineSource.lines c.args.source.now in
    let l = c.loop-records in
    let serial = c.last_serial.ensures ∙ ap last_serial c.entries.ensures.value in
    ap loaded (handed_on _ _ c.from_residual.ensures.1)
    ∙ sym (refused ls l.records c.read_entry.new.records (entries l.table) l.invariant _ serial c.loop-records-test.ensures (entries c.read_entry.new.table) _ c.in_err-read_entry.ensures)

pub returns-in_err-take_last-clause-value : goal.returns-in_err-take_last-clause-value
returns-in_err-take_last-clause-value g c =
    let ls = g.S.LineSource.lines c.args.source.now in
    let l = c.loop-records in
    let serial = c.last_serial.ensures ∙ ap last_serial c.entries.ensures.value in
    ap loaded (handed_on _ _ c.from_residual-in_err-take_last.ensures.1)
    ∙ sym (unended ls l.records c.take_last.new.records (entries l.table) l.invariant _ serial c.loop-records-test.ensures _ c.in_err-take_last.ensures)

pub returns : goal.returns
returns g c =
    let ls = g.S.LineSource.lines c.args.source.now in
    let l = c.loop-records in
    let es = entries l.table in
    let n = c.passed.result in
    let serial = c.last_serial.ensures ∙ ap last_serial c.entries.ensures.value in
    let h = ended ls l.records c.take_last.new.records es l.invariant _ serial c.loop-records-test.ensures c.in_ok-take_last.ensures in
    let place : n ≡ c.take_last.new.records.0 - 1 = omega (arith, c.passed.ensures) in
    let value : ◌≡◌ {A = Outcome} (Ok (es, n)) (head ls) = ap (λ k. Ok (es, k)) place ∙ sym h in
    let whole : Whole es = subst IsWhole (sym value) (head_whole ls) in
    let within : n < 1 + length ls = subst (EndsBefore (1 + length ls)) (sym value) (head_ends ls) in
    record { value = value; whole = whole; within = omega arith; few = whole.few }

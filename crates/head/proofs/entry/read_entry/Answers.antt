use Rattle.std.proofs.Common.{◌≡◌, ◌+◌, ◌<◌, ◌++◌, [], ◌∷◌, true, false, length, take, set, Ok, Err, sym, ap, ◌∙◌, arith, rules}
use Rattle.std.proofs.lemmas.List.{take_more_set, length-take}
use Rattle.std.proofs.lemmas.Bool.{and_parts}
use Rattle.head.specs.Heads.{sound, in_order, after_entry}
use Rattle.head.specs.Reading.{rest}
use Rattle.head.specs.Tables.{entries}
use Rattle.head.proofs.Entries.{handed_on, to_delta, to_sound, to_lists, refused, adds_err}
use Rattle.head.proofs.entry.read_entry.Goals as goal

pub returns-in_err-d : goal.returns-in_err-d
returns-in_err-d g c =
    let a = c.args.records.now in
    let es = entries c.args.table.now in
    let b1 = c.take_counts.new.self in
    let b2 = c.take_delta.new.self in
    adds_err a es _ b2 _ _ (handed_on _ _ c.from_residual-in_err-d.ensures.1)
    (to_delta a b1 es (Ok tt) c.in_ok-take_counts.ensures ∙ to_sound b2 es b1 (Err c.in_err-d.field-0.0) c.in_err-d.ensures)

pub returns-then-not-is_sound : goal.returns-then-not-is_sound
returns-then-not-is_sound g c =
    let a = c.args.records.now in
    let es = entries c.args.table.now in
    let b1 = c.take_counts.new.self in
    let b2 = c.take_delta.new.self in
    let d = c.in_ok-d.d in
    let bad : sound es d ≡ false = ap (λ xs. sound xs d) (sym c.entries.ensures.value) ∙ sym c.if-not-is_sound.ensures.value in
    to_delta a b1 es (Ok tt) c.in_ok-take_counts.ensures ∙ refused b2 es b1 d c.in_ok-d.ensures bad ∙ ap Err (sym c.refuse-fault.ensures)

pub returns-in_err-fill_entry : goal.returns-in_err-fill_entry
returns-in_err-fill_entry g c =
    let a = c.args.records.now in
    let es = entries c.args.table.now in
    let b1 = c.take_counts.new.self in
    let b2 = c.take_delta.new.self in
    let d = c.in_ok-d.d in
    let good : sound es d ≡ true = ap (λ xs. sound xs d) (sym c.entries.ensures.value) ∙ sym c.if-not-is_sound.ensures.value in
    adds_err a es _ _ _ _ (handed_on _ _ c.from_residual-in_err-fill_entry.ensures.1)
    (to_delta a b1 es (Ok tt) c.in_ok-take_counts.ensures ∙ to_lists b2 es b1 d c.in_ok-d.ensures good ∙ c.in_err-fill_entry.ensures es)

pub returns : goal.returns
returns g c =
    let a = c.args.records.now in
    let t = c.args.table.now in
    let es = entries t in
    let b1 = c.take_counts.new.self in
    let b2 = c.take_delta.new.self in
    let b3 = c.fill_entry.new.records in
    let d = c.in_ok-d.d in
    let e = c.fill_entry.new.entry in
    let good : sound es d ≡ true = ap (λ xs. sound xs d) (sym c.entries.ensures.value) ∙ sym c.if-not-is_sound.ensures.value in
    let fills = c.in_ok-fill_entry.ensures in
    let long : length t.entries ≡ 63 = search rules in
    let inside : t.count < length t.entries = omega (arith, length-take t.count t.entries, c.requires) in
    let pushed : take (t.count + 1) (set t.entries t.count e) ≡ es ++ e ∷ [] = take_more_set t.entries t.count e inside in
    let ordered : in_order es d.serial ≡ true = (and_parts (in_order es d.serial) _ (and_parts d.real _ good).1).0 in (
      e,
      pushed,
      ap (in_order es) fills.0 ∙ ordered,
      to_delta a b1 es (Ok tt) c.in_ok-take_counts.ensures
          ∙ to_lists b2 es b1 d c.in_ok-d.ensures good
          ∙ fills.1 es
          ∙ ap (λ n. rest b3 (es ++ e ∷ []) (after_entry n)) (sym fills.0)
          ∙ ap (λ fs. rest b3 fs (after_entry e.serial)) (sym pushed),
    )

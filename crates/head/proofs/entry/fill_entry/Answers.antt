use Rattle.std.proofs.Common.{Ok, Err, refl, ap, ◌∙◌}
use Rattle.head.specs.Heads.{opened, including, excluding, includes_mark}
use Rattle.head.specs.Reading.{list_at}
use Rattle.head.proofs.Entries.{handed_on, to_excludes, to_comment, to_close, to_next, fills_err, filled}
use Rattle.head.proofs.entry.fill_entry.Goals as goal

pub returns-in_err-excludes : goal.returns-in_err-excludes
returns-in_err-excludes g c =
    let a = c.args.records.now in
    let b1 = c.take_list.new.self in
    let b2 = c.take_list-2.new.self in
    let d = c.args.d in
    let i = c.in_ok-includes.includes in
    let none = ap (λ s. list_at includes_mark d.serial s a) c.empty-none.ensures.value in
    let e = including i (opened d) in
    fills_err a d _ _ b2 _ (handed_on _ _ c.from_residual-in_err-excludes.ensures.1)
    (λ es. to_excludes a b1 es d (Ok i) (c.in_ok-includes.ensures ∙ none) ∙ to_comment b1 b2 es e (Err c.in_err-excludes.field-0.0) refl c.in_err-excludes.ensures)

pub returns-in_err-take_comment : goal.returns-in_err-take_comment
returns-in_err-take_comment g c =
    let a = c.args.records.now in
    let b1 = c.take_list.new.self in
    let b2 = c.take_list-2.new.self in
    let b3 = c.take_comment.new.self in
    let d = c.args.d in
    let i = c.in_ok-includes.includes in
    let x = c.in_ok-excludes.excludes in
    let none = ap (λ s. list_at includes_mark d.serial s a) c.empty-none.ensures.value in
    let e = including i (opened d) in
    fills_err a d _ _ b3 _ (handed_on _ _ c.from_residual-in_err-take_comment.ensures.1)
    (λ es.
    to_excludes a b1 es d (Ok i) (c.in_ok-includes.ensures ∙ none)
    ∙ to_comment b1 b2 es e (Ok x) refl c.in_ok-excludes.ensures
    ∙ to_close b2 b3 es (excluding x e) (Err c.in_err-take_comment.field-0.0) c.in_err-take_comment.ensures)

pub returns : goal.returns
returns g c =
    let a = c.args.records.now in
    let b1 = c.take_list.new.self in
    let b2 = c.take_list-2.new.self in
    let b3 = c.take_comment.new.self in
    let b4 = c.take_mark.new.self in
    let d = c.args.d in
    let i = c.in_ok-includes.includes in
    let x = c.in_ok-excludes.excludes in
    let none = ap (λ s. list_at includes_mark d.serial s a) c.empty-none.ensures.value in
    let e = including i (opened d) in
    filled a d (excluding x e) c.take_mark.result b4 refl
    (λ es.
    to_excludes a b1 es d (Ok i) (c.in_ok-includes.ensures ∙ none)
    ∙ to_comment b1 b2 es e (Ok x) refl c.in_ok-excludes.ensures
    ∙ to_close b2 b3 es (excluding x e) (Ok tt) c.in_ok-take_comment.ensures
    ∙ to_next b3 b4 es (excluding x e) c.take_mark.result c.take_mark.ensures)

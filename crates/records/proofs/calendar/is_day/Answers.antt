use Rattle.std.proofs.Common.{◌≡◌, Bool, true, false, ◌&&◌, leb, refl, ap, ◌∙◌, arith, rules}
use Rattle.std.proofs.lemmas.Grind.{common_steps}
use Rattle.records.specs.Calendar.{days_in, year_of}
use Rattle.records.proofs.calendar.is_day.Goals as goal

within : (a b d : Bool) → (a && b) ≡ true → d ≡ (a && (b && d))
within true true d e = refl
within true false d e = cc
within false b d e = cc

pub returns-then-contains : goal.returns-then-contains
returns-then-contains c =
    let days : c.days_in-days.result ≡ days_in (year_of c.args.yy) c.args.month = search rules in
    let month : (leb 1 c.args.month && leb c.args.month 12) ≡ true = grind (arith, common_steps, c.contains.ensures.value, c.if-contains.true) in
    let day : c.contains-then-contains.result ≡ (leb 1 c.args.day && leb c.args.day c.days_in-days.result) = grind (arith, common_steps, c.contains-then-contains.ensures.value) in
    day ∙ ap (λ n. leb 1 c.args.day && leb c.args.day n) days ∙ within _ _ _ month

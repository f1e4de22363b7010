use Rattle.std.proofs.Common.{◌≡◌, arith, rules}
use Rattle.std.proofs.lemmas.Iterator.{YieldsList-from_slice}
use Rattle.std.proofs.lemmas.Iterator.Search.{all_from_yields_List}
use Rattle.std.proofs.lemmas.Grind.{common_steps}
use Rattle.std.specs.List.{list_all}
use borrow.Author.Tests.{tests}
use Rattle.records.specs.Names.{user_byte}
use Rattle.records.proofs.name.is_user.Goals as goal

pub returns-then-contains : goal.returns-then-contains
returns-then-contains c =
    let every : c.all.result ≡ list_all user_byte c.args.word.now = all_from_yields_List user_byte _ _ c.all.result c.all.ensures.ran (YieldsList-from_slice c.args.word.now cc) (λ x b q k. search (rules, tests)) in
    let v = c.contains.ensures.value in
    grind (arith, common_steps)

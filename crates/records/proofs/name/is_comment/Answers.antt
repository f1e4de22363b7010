use Rattle.std.proofs.Common.{◌≡◌, arith, rules}
use Rattle.std.proofs.lemmas.Iterator.{YieldsList-from_slice}
use Rattle.std.proofs.lemmas.Iterator.Search.{all_from_yields_List}
use Rattle.std.proofs.lemmas.Grind.{common_steps}
use Rattle.std.specs.List.{list_all}
use borrow.Author.Tests.{tests}
use Rattle.records.specs.Names.{comment_byte}
use Rattle.records.proofs.name.is_comment.Goals as goal

pub returns-then-word-le-LONGEST_COMMENT : goal.returns-then-word-le-LONGEST_COMMENT
returns-then-word-le-LONGEST_COMMENT c =
    let every : c.all.result ≡ list_all comment_byte c.args.word.now = all_from_yields_List comment_byte _ _ c.all.result c.all.ensures.ran (YieldsList-from_slice c.args.word.now cc) (λ x b q k. search (rules, tests)) in
    grind (arith, common_steps)

use Rattle.std.proofs.Common.{sym, ◌∙◌}
use Rattle.std.proofs.lemmas.List.{length-map}
use Rattle.lines.proofs.text.TextLineSource.count.Goals as goal

pub returns : goal.returns
returns c = c.args.self.now.counted ∙ sym (length-map _ _)

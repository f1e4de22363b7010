use Rattle.std.proofs.Common.{◌≡◌, ℕ, ◌*◌, ◌/◌, List, length, take, drop, sym, ap, ◌∙◌, arith}
use Rattle.std.proofs.lemmas.List.{length-drop}
use Rattle.blocks.specs.Indexed.{ends, ends_in}
use Rattle.blocks.proofs.IndexedLaws.{ends_entries, total-walk}
use Rattle.blocks.proofs.indexed.IndexedLayout.used.Goals as goal

pub returns-clause-is : goal.returns-clause-is
returns-clause-is c =
    let s : List ℕ = c.args.sheet.now in
    let n : ℕ = c.args.tally.count in
    let t : List ℕ = drop (4 * c.args.tally.lines) s in
    let room : length t ≡ c.args.tally.bytes = length-drop (4 * c.args.tally.lines) s ∙ omega arith in
    c.end_of.ensures.is ∙ ap (λ es. ends_in (take n es) c.args.tally.bytes) c.as_chunks.ensures.front ∙ ends_entries (length s / 4) s c.args.tally.bytes n (omega arith)
    ∙ ap (λ r. ends s r n) (sym room) ∙ sym (total-walk s t n)

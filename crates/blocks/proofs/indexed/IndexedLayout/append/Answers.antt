use Rattle.std.proofs.Common.{◌≡◌, ℕ, ◌+◌, ◌*◌, List, [], ◌∷◌, ◌++◌, length, get_or, drop, refl, ap, ◌∙◌, arith}
use Rattle.std.proofs.lemmas.List.{length-drop}
use Rattle.blocks.specs.Indexed.{word_of}
use Rattle.blocks.proofs.IndexedLaws.{stored_in, total-walk}
use Rattle.blocks.proofs.LaidLaws.{overwritten}
use Rattle.blocks.proofs.indexed.IndexedLayout.append.Goals as goal

pub returns : goal.returns
returns c =
    let s : List ℕ = c.args.sheet.now in
    let l : List ℕ = c.args.line.now in
    let n : ℕ = c.args.tally.count in
    let m : ℕ = 4 * c.args.tally.lines in
    let long : length (drop m s) ≡ c.args.tally.bytes = length-drop m s ∙ omega arith in
    let four : c.copy_from_slice.new.self ≡ word_of c.args.used ++ word_of (length l) = c.copy_from_slice.ensures.after ∙ ap (λ w. get_or w 0 0 ∷ get_or w 1 0 ∷ get_or c.bytes_of-2.result 0 0 ∷ get_or c.bytes_of-2.result 1 0 ∷ []) c.bytes_of.ensures ∙ ap (λ w. word_of c.args.used ++ (get_or w 0 0 ∷ get_or w 1 0 ∷ [])) c.bytes_of-2.ensures in
    let w = stored_in s _ l c.copy_from_slice-2.new.self c.copy_from_slice.new.self c.args.tally.lines n c.args.used _ (c.requires.used ∙ total-walk s (drop m s) n) four (overwritten s c.copy_from_slice.new.self c.copy_from_slice.new.self (4 * n) (4 * n + 4) refl (let k : length c.copy_from_slice.new.self ≡ 4 = ap length four in omega arith)) c.copy_from_slice-2.ensures.after refl (omega arith) c.requires.few c.requires.line in
    record { taken = w.taken; layout = w.keeps }

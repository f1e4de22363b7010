use Rattle.std.proofs.Common.{◌≡◌, ◌-◌, [], ◌∷◌, length, take, drop, Some, sym, ap, ◌∙◌, rules}
use Rattle.std.proofs.lemmas.List.{take_rest}
use Rattle.records.specs.Pieces.{cut}
use Rattle.records.specs.Numerals.{and_then}
use Rattle.records.specs.DeltaRecords.{six, delta_from, field_words}
use Rattle.records.specs.HeadRecords.{after}
use Rattle.records.proofs.delta_record.read_delta.Goals as goal

pub returns : goal.returns
returns c =
    let line = c.args.line.now in
    let t = take_rest line 5 in
    let mark : after (1 ∷ 100 ∷ 32 ∷ 68 ∷ 32 ∷ []) line ≡ Some (drop 5 line) = search rules in
    let some : six (cut 32 (take (length line - 5) (drop 5 line))) ≡ Some (field_words c.in_ok-words.words) = sym c.in_ok-words.ensures in
    c.say.ensures ∙ sym (ap (λ o. and_then o (λ rest. and_then (six (cut 32 rest)) delta_from)) mark ∙ ap (λ r. and_then (six (cut 32 r)) delta_from) (sym t) ∙ ap (λ o. and_then o delta_from) some)

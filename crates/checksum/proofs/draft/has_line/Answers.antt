use Rattle.std.proofs.Common.{◌≡◌, ℕ, ◌≤◌, leb, List, length, Some, None, Option, sym, ap, ◌∙◌, inr, ⊎_elim, arith}
use Rattle.std.specs.Result.{is_ok}
use Rattle.std.proofs.lemmas.Bool.{cases_lt, lt-leb, le-leb}
use Rattle.lines.specs.Faults.{verdict}
use Rattle.lines.specs.Lines.{Line, LawfulDraft, line_of, draft_lines, look_refusal}
use Rattle.lines.proofs.LineLaws.{short_of, read_none, read_some, put_fits}
use Rattle.checksum.proofs.draft.has_line.Goals as goal

-- a look with room for any line is accepted where the draft has the line
looks : (D : Option (List Line)) (n : ℕ) → LawfulDraft D → 1 ≤ n → is_ok (verdict (look_refusal D n 240) (length (line_of (draft_lines D) n))) ≡ leb n (length (draft_lines D))
looks None n ok one = sym (lt-leb n 0 one)
looks (Some d) n ok one =
    let l : Line = line_of d n in
    let short = short_of d n ok in
    ⊎_elim
    (λ o. ap (λ q. is_ok (verdict q (length l))) (read_none d n 240 (inr o)) ∙ sym (lt-leb n (length d) o))
    (λ o. ap (λ q. is_ok (verdict q (length l))) (read_some d n 240 one o ∙ put_fits (length l) 240 (omega arith)) ∙ sym (le-leb n (length d) o))
    (cases_lt (length d) n)

pub returns : goal.returns
returns g c =
    c.is_ok.ensures.value ∙ ap is_ok c.look.ensures.answer ∙ looks (g.S.LineStore.store c.args.store.now).draft c.args.n (g.S.LineStore.lawful_draft c.args.store.now) c.requires

use Rattle.std.proofs.Common.{◌≡◌, ℕ, List, ◌∷◌, ◌++◌, [], true, Some, Ok, Err, Option, sym, ap, ◌∙◌, append_assoc, arith}
use Rattle.std.proofs.lemmas.Grind.{common_steps}
use Rattle.lines.specs.Faults.{accepted, verdict, left}
use Rattle.lines.specs.Lines.{Line, Lawful, draft_lines, add_refusal}
use Rattle.lines.specs.Stores.{Store, drafting}
use Rattle.whole.specs.Whole.{fits}
use Rattle.whole.proofs.WholeLaws.{next_taken}
use Rattle.whole.proofs.stored.add_all.Goals as goal

-- the next line is taken by a store whose draft D has the lines before it
accepts : (D : Option (List Line)) (lim lim' : ℕ × ℕ) (ls rest it : List Line) (l : Line) → D ≡ Some (draft_lines D) → lim ≡ lim' → it ≡ l ∷ rest → draft_lines D ++ it ≡ ls → Lawful ls → fits lim' ls ≡ true → add_refusal D lim l ≡ accepted
accepts D lim lim' ls rest it l begun same is split ok room = (λ t. add_refusal (begun t) (same t) l) ∙ next_taken lim' ls (draft_lines D) rest l ok room (ap (λ r. draft_lines D ++ r) (sym is) ∙ split)

-- written out and first: lines added in another order are refused here
pub loop-line-preserved : goal.loop-line-preserved
loop-line-preserved g c =
    let inv = c.loop-line.invariant in
    let s : Store = g.D.LineStore.store c.loop-line.store in
    let line : Line = c.in-Some.line.now in
    let q = accepts s.draft s.limits _ _ _ _ line (ap (λ s. s.draft) inv.store) (ap (λ s. s.limits) inv.store) c.in-Some.ensures inv.split (g.S.LineSource.lawful c.args.source.now) c.requires.room in
    let more : g.D.LineStore.store c.add.new.self ≡ drafting (draft_lines s.draft ++ (line ∷ [])) s = c.add.ensures.store ∙ ap (λ r. left r (drafting (draft_lines s.draft ++ (line ∷ [])) s) s) q in
    record {
      split = ap (λ s. draft_lines s.draft ++ c.next_in.new.self) more ∙ append_assoc (draft_lines s.draft) (line ∷ []) c.next_in.new.self ∙ ap (λ r. draft_lines s.draft ++ r) (sym c.in-Some.ensures) ∙ inv.split;
      store = grind (arith, common_steps);
    }

pub returns-in_err-add : goal.returns-in_err-add
returns-in_err-add g c =
    let inv = c.loop-line.invariant in
    let q = accepts _ _ _ _ _ _ _ (ap (λ s. s.draft) inv.store) (ap (λ s. s.limits) inv.store) c.in-Some.ensures inv.split (g.S.LineSource.lawful c.args.source.now) c.requires.room in
    let never : Err c.in_err-add.field-0.0 ≡ Ok tt = c.in_err-add.ensures.answer ∙ ap (λ r. verdict r tt) q in
    let z : ◌≡◌ {A = ℕ} 0 1 = cc in
    absurd (omega arith)

use Rattle.std.proofs.Common.{◌≡◌, ℕ, false, List, [], ◌∷◌, Some, sym, ◌∙◌}
use Rattle.std.specs.Str.{bytes_eq}
use Rattle.std.proofs.lemmas.Bool.{not-true, cond-false}
use Rattle.lines.specs.Lines.{Line}
use Rattle.whole.specs.Whole.{differ_from}
use Rattle.whole.proofs.WholeLaws.{equal_from, never_differ}
use Rattle.whole.proofs.compared.first_difference.Goals as goal

-- where only one list has a line more, and where the next lines are unlike
left_longer : (n : ℕ) (ls ms rest : List Line) (l : Line) → ls ≡ l ∷ rest → ms ≡ [] → differ_from n ls ms ≡ Some n
left_longer n ls ms rest l a b t = differ_from n (a t) (b t)

right_longer : (n : ℕ) (ls ms rest : List Line) (m : Line) → ls ≡ [] → ms ≡ m ∷ rest → differ_from n ls ms ≡ Some n
right_longer n ls ms rest m a b t = differ_from n (a t) (b t)

unlike : (n : ℕ) (ls ms rest rest' : List Line) (l m : Line) → ls ≡ l ∷ rest → ms ≡ m ∷ rest' → bytes_eq l m ≡ false → differ_from n ls ms ≡ Some n
unlike n ls ms rest rest' l m a b e = (λ t. differ_from n (a t) (b t)) ∙ cond-false _ _ _ e

pub returns-in_default-next_in-clause-none : goal.returns-in_default-next_in-clause-none
returns-in_default-next_in-clause-none g c same =
    sym (left_longer c.loop-x.n _ _ _ _ c.in-Some.ensures c.in_default-next_in.ensures.0) ∙ c.loop-x.invariant.alike ∙ never_differ _ _ same

pub returns-then-ne-clause-none : goal.returns-then-ne-clause-none
returns-then-ne-clause-none g c same =
    sym (unlike c.loop-x.n _ _ _ _ _ _ c.in-Some.ensures c.in-Some-next_in.ensures (not-true _ (sym c.if-ne.ensures))) ∙ c.loop-x.invariant.alike ∙ never_differ _ _ same

pub returns-in-Some-next_in-2-clause-none : goal.returns-in-Some-next_in-2-clause-none
returns-in-Some-next_in-2-clause-none g c same =
    cc (sym (right_longer c.loop-x.n _ _ _ _ c.in_default.ensures.0 c.in-Some-next_in-2.ensures) ∙ c.loop-x.invariant.alike ∙ never_differ _ _ same)

pub returns-in-None-clause-equal : goal.returns-in-None-clause-equal
returns-in-None-clause-equal g c none =
    equal_from 1 _ _ (sym c.loop-x.invariant.alike ∙ (λ t. differ_from c.loop-x.n (c.in_default.ensures.0 t) (c.in-None.ensures.0 t)))

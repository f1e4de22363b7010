-- Every head that is read is whole, and has no more records than there are lines. Assumes nothing.
use Rattle.std.proofs.Common.{◌≡◌, ℕ, ◌+◌, ◌-◌, ◌<◌, ◌≤◌, Bool, true, false, cond, not, ◌&&◌, eqb, ◌⊎◌, List, [], ◌∷◌, ◌++◌, length, Some, None, Ok, Err, Option, Result, sym, refl, ap, ◌∙◌, subst, inl, inr, arith}
use Rattle.std.specs.List.{AllByRecursion}
use Rattle.std.proofs.lemmas.Grind.{common_steps}
use Rattle.std.proofs.ByRecursion.{All-push}
use Rattle.std.proofs.lemmas.List.{length_push}
use Rattle.std.proofs.lemmas.Bool.{or_parts, eqb-true}
use Rattle.lines.specs.declared.fault.Cause.{Cause}
use Rattle.lines.specs.declared.fault.Cause.TheVariants.{HeadContent}
use Rattle.lines.specs.Lines.{Line}
use Rattle.sets.specs.declared.set.SerialSet.{SerialSet}
use Rattle.sets.specs.Serials.{serials, unlisted}
use Rattle.records.specs.declared.delta_record.DeltaRecord.{DeltaRecord}
use Rattle.records.specs.HeadRecords.{after, counts_record, comment_record}
use Rattle.records.specs.DeltaRecords.{delta_record}
use Rattle.records.specs.SerialLists.{serial_list, numbers}
use Rattle.records.specs.Pieces.{cut}
use Rattle.head.specs.declared.table.Entry.{Entry}
use Rattle.head.specs.Heads.{Turn, counts, delta, lists, excludes, comment, close, last, Step, fault, next, whole, formal, with_set, after_entry, last_marks, on_delta, on_comment, on_excludes, on_includes, on_last, judge, proceed, walk, head, Outcome, opened, including, excluding, follows, in_order, precedes, same_sid, has_sid, sound, includes_mark, excludes_mark}
use Rattle.head.specs.Whole.{Runs, Below, Lower, Disjoint, Differ, Whole}
use Rattle.head.proofs.Orders.{last_more}
use Rattle.head.proofs.Gathers.{Fits, none_had, listed_fits}

abbrev pub IsWhole : Outcome → Type 0
IsWhole (Ok (es, n)) = Whole es
IsWhole (Err f) = Unit {0}

-- the entries so far run from a down to the one before b
abbrev Sofar : ℕ → List Entry → ℕ → Type 0
Sofar a es b = (a ≤ 63) × Runs a es b × AllByRecursion Lower es × Differ es

abbrev Ready : List Entry → Type 0
Ready es = (es ≡ []) ⊎ ((a : ℕ) × (b : ℕ) × Sofar a es b)

-- what is known of an entry before both its lists are read
abbrev Low : Entry → Type 0
Low e =
    (e.predecessor < e.serial) × (e.predecessor ≡ 0 → e.serial ≡ 1) × Below e.serial e.lists.includes × Below e.serial e.lists.excludes

abbrev Filling : List Entry → Entry → Type 0
Filling es e = (a : ℕ) × (1 ≤ e.serial) × Sofar a es e.serial × Low e × (has_sid es e.sid ≡ false)

abbrev St : List Entry → Turn → Type 0
St es counts = Ready es
St es delta = Ready es
St es (lists e) = Filling es e × (e.lists.excludes ≡ unlisted)
St es (excludes e) = Filling es e × (e.lists.excludes ≡ unlisted)
St es (comment e) = Filling es e × Disjoint e
St es (close e) = Filling es e × Disjoint e
St es (last ms) = Whole es

abbrev Next : Step → Type 0
Next (fault c) = Unit {0}
Next (next es t) = St es t
Next (whole es) = Whole es

runs_last : (e : Entry) (es : List Entry) (a b n : ℕ) → Runs a (e ∷ es) b → in_order (e ∷ es) n ≡ true → n ≡ b
runs_last e [] a b n r o =
    let q : n + 1 ≡ e.serial = eqb-true (n + 1) e.serial o in
    omega (arith, r.0, r.1, r.2)
runs_last e (f ∷ es) a b n r o = runs_last f es (a - 1) b n r.2 (ap (λ s. follows s n) (sym (last_more e f es)) ∙ o)

runs_push : (es : List Entry) (e : Entry) (a b : ℕ) → Runs a es b → e.serial ≡ b → 1 ≤ b → Runs a (es ++ e ∷ []) (b - 1)
runs_push [] e a b r s one = (s ∙ sym r, omega (arith, r), ap (λ n. n - 1) r)
runs_push (x ∷ es) e a b r s one = (r.0, r.1, runs_push es e (a - 1) b r.2 s one)

runs_length : (es : List Entry) (a b : ℕ) → Runs a es b → a ≡ length es + b
runs_length [] a b r = omega (arith, r)
runs_length (e ∷ es) a b r = let q = runs_length es (a - 1) b r.2 in omega (arith, r.1)

differ_push : (es : List Entry) (e : Entry) → Differ es → has_sid es e.sid ≡ false → Differ (es ++ e ∷ [])
differ_push [] e d h = (tt, tt)
differ_push (x ∷ es) e d h =
    let p = or_parts (same_sid x.sid e.sid) (has_sid es e.sid) h in
    (All-push (λ f. same_sid x.sid f.sid ≡ false) es e d.0 p.0, differ_push es e d.1 p.1)

none_excluded : (e : Entry) → e.lists.excludes ≡ unlisted → Disjoint e
none_excluded e z k h =
    absurd (none_had e.serial unlisted k (ap (λ s. serials s k) (sym z) ∙ h))

sofar_push : (es : List Entry) (e : Entry) → (f : Filling es e) → Disjoint e → Sofar f.0 (es ++ e ∷ []) (e.serial - 1)
sofar_push es e f d =
    let s = f.2 in
    (s.0, runs_push es e f.0 e.serial s.1 refl f.1, All-push Lower es e s.2 (f.3.0, f.3.1, f.3.2, f.3.3, d), differ_push es e s.3 f.4)

ended : (es : List Entry) (e : Entry) → Filling es e → Disjoint e → e.serial ≡ 1 → Whole (es ++ e ∷ [])
ended es e f d one =
    let s = sofar_push es e f d in
    let len : f.0 ≡ length (es ++ e ∷ []) = let q = runs_length (es ++ e ∷ []) f.0 (e.serial - 1) s.1 in omega arith in
    let zero : e.serial - 1 ≡ 0 = omega arith in
    record {
      some = omega (arith, length_push es e);
      few = omega (arith, s.0);
      runs = subst (λ n. Runs n (es ++ e ∷ []) 0) len (subst (λ n. Runs f.0 (es ++ e ∷ []) n) zero s.1);
      lower = s.2;
      differ = s.3;
    }

-- a record of which only the form is judged
formal_next : (b : Bool) (s : Step) → Next s → Next (formal b s)
formal_next b s h = grind (arith, common_steps)

set_next : (s : Result SerialSet Cause) (f : SerialSet → Step) → ((m : SerialSet) → s ≡ Ok m → Next (f m)) → Next (with_set s f)
set_next s f h = grind (arith, common_steps)

comment_next : (es : List Entry) (e : Entry) (l : Line) → Filling es e × Disjoint e → Next (on_comment es e l)
comment_next es e l f = formal_next (comment_record l) (next es (close e)) f

excludes_next : (es : List Entry) (e : Entry) (l : Line) (o : Option Line) → Filling es e × (e.lists.excludes ≡ unlisted) → Next (on_excludes es e l o)
excludes_next es e l None s = comment_next es e l (s.0, none_excluded e s.1)
excludes_next es e l (Some r) s =
    let f = s.0 in
    set_next (serial_list e.serial e.lists.includes r) (λ m. next es (comment (excluding m e)))
    (λ m q.
    let fits : (k : ℕ) → serials m k ≡ true → Fits e.serial e.lists.includes k = λ k h. listed_fits e.serial e.lists.includes k m (numbers (cut 32 r)) q h in
    ((f.0, f.1, f.2, (f.3.0, f.3.1, f.3.2, λ k h. (fits k h).0), f.4), λ k h. (fits k h).1))

includes_next : (es : List Entry) (e : Entry) (l : Line) (o : Option Line) → Filling es e × (e.lists.excludes ≡ unlisted) → Next (on_includes es e l o)
includes_next es e l None f = excludes_next es e l (after excludes_mark l) f
includes_next es e l (Some r) s =
    let f = s.0 in
    set_next (serial_list e.serial unlisted r) (λ m. next es (excludes (including m e)))
    (λ m q.
    ((f.0, f.1, f.2, (f.3.0, f.3.1, λ k h. (listed_fits e.serial unlisted k m (numbers (cut 32 r)) q h).0, f.3.3), f.4), s.1))

sofar_in_order : (es : List Entry) (n : ℕ) → Ready es → in_order es n ≡ true → 1 ≤ n → (a : ℕ) × Sofar a es n
sofar_in_order [] n r o one = (n, grind (arith, common_steps))
sofar_in_order (e ∷ es) n (inl q) o one = cc
sofar_in_order (e ∷ es) n (inr s) o one = let b = runs_last e es s.0 s.1 n s.2.1 o in (s.0, grind (arith, common_steps))

sound_parts : (real order : Bool) (p n : ℕ) (has : Bool) → (real && (order && (precedes p n && not has))) ≡ true → (order ≡ true) × (p < n) × (p ≡ 0 → n ≡ 1) × (has ≡ false)
sound_parts real order p n has h = grind (arith, common_steps)

delta_next : (es : List Entry) (o : Option DeltaRecord) → Ready es → Next (on_delta es o)
delta_next es None r = tt
delta_next es (Some d) r = go (sound es d) refl
  where
    go : (b : Bool) → sound es d ≡ b → Next (cond b (next es (lists (opened d))) (fault HeadContent))
    go true e =
        let (order, lower, first, new) = sound_parts d.real (in_order es d.serial) d.predecessor d.serial (has_sid es d.sid) e in
        let one : 1 ≤ d.serial = omega arith in
        let o = sofar_in_order es d.serial r order one in
        let none : Below d.serial unlisted = λ k h. absurd (none_had d.serial unlisted k h) in
        ((o.0, one, o.1, (lower, first, none, none), new), refl)
    go false e = tt

close_next : (es : List Entry) (e : Entry) → Filling es e × Disjoint e → St (es ++ e ∷ []) (after_entry e.serial)
close_next es e s = go (eqb e.serial 1) refl
  where
    go : (b : Bool) → eqb e.serial 1 ≡ b → St (es ++ e ∷ []) (cond b (last last_marks) counts)
    go true q = ended es e s.0 s.1 (eqb-true e.serial 1 q)
    go false q = inr (s.0.0, e.serial - 1, sofar_push es e s.0 s.1)

last_next : (es : List Entry) (ms : List Line) → Whole es → Next (on_last es ms)
last_next es ms h = grind (arith, common_steps)

judge_next : (es : List Entry) (t : Turn) (l : Line) → St es t → Next (judge es t l)
judge_next es counts l s = formal_next (counts_record l) (next es delta) s
judge_next es delta l s = delta_next es (delta_record l) s
judge_next es (lists e) l s = includes_next es e l (after includes_mark l) s
judge_next es (excludes e) l s = excludes_next es e l (after excludes_mark l) s
judge_next es (comment e) l s = comment_next es e l s
judge_next es (close e) l s = formal_next _ (next (es ++ e ∷ []) (after_entry e.serial)) (close_next es e s)
judge_next es (last []) l s = s
judge_next es (last (m ∷ ms)) l s = formal_next _ (on_last es ms) (last_next es ms s)

proceed_whole : (s : Step) (p : ℕ) (f : List Entry → Turn → Outcome) → Next s → ((es : List Entry) (t : Turn) → St es t → IsWhole (f es t)) → IsWhole (proceed s p f)
proceed_whole s p f h k = grind (arith, common_steps)

walk_whole : (ls : List Line) (p : ℕ) (es : List Entry) (t : Turn) → St es t → IsWhole (walk p es t ls)
walk_whole [] p es t s = tt
walk_whole (l ∷ ls) p es t s =
    proceed_whole (judge es t l) p (λ es t. walk (p + 1) es t ls) (judge_next es t l s) (λ es t s. walk_whole ls (p + 1) es t s)

pub head_whole : (ls : List Line) → IsWhole (head ls)
head_whole ls = walk_whole ls 1 [] counts (inl refl)

-- the records of a head are lines
abbrev pub EndsBefore : ℕ → Outcome → Type 0
EndsBefore k (Ok (es, n)) = n < k
EndsBefore k (Err f) = Unit {0}

ends_more : (o : Outcome) (j k : ℕ) → j ≤ k → EndsBefore j o → EndsBefore k o
ends_more o j k h e = grind (arith, common_steps)

proceed_ends : (s : Step) (p k : ℕ) (f : List Entry → Turn → Outcome) → p < k → ((es : List Entry) (t : Turn) → EndsBefore k (f es t)) → EndsBefore k (proceed s p f)
proceed_ends s p k f h e = grind (arith, common_steps)

walk_ends : (ls : List Line) (p : ℕ) (es : List Entry) (t : Turn) → EndsBefore (p + length ls) (walk p es t ls)
walk_ends [] p es t = tt
walk_ends (l ∷ ls) p es t =
    proceed_ends (judge es t l) p (p + length (l ∷ ls)) (λ es t. walk (p + 1) es t ls) (omega arith)
    (λ es t. ends_more (walk (p + 1) es t ls) (p + 1 + length ls) (p + length (l ∷ ls)) (omega arith) (walk_ends ls (p + 1) es t))

pub head_ends : (ls : List Line) → EndsBefore (1 + length ls) (head ls)
head_ends ls = walk_ends ls 1 [] counts

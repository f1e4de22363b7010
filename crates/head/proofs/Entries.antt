-- The records of an entry, and the last marks. Assumes nothing.
use Rattle.std.proofs.Common.{◌≡◌, ℕ, ◌+◌, true, false, List, [], ◌∷◌, ◌++◌, IsErrAnd, Some, Ok, Err, Option, Result, sym, ap, ◌∙◌, subst, arith}
use Rattle.std.specs.Option.{ok_or, option_map}
use Rattle.std.proofs.lemmas.Bool.{cond-true, cond-false}
use Rattle.std.proofs.lemmas.Grind.{common_steps}
use Rattle.std.proofs.lemmas.Result.{err_from_is_err_and}
use Rattle.std.specs.Str.{bytes_eq}
use Rattle.lines.specs.declared.fault.Cause.TheVariants.{HeadForm, HeadContent}
use Rattle.lines.specs.declared.fault.Fault.{Fault}
use Rattle.lines.specs.Faults.{placed}
use Rattle.lines.specs.Lines.{Line}
use Rattle.sets.specs.declared.set.SerialSet.{SerialSet}
use Rattle.sets.specs.Serials.{unlisted}
use Rattle.records.specs.declared.delta_record.DeltaRecord.{DeltaRecord}
use Rattle.records.specs.DeltaRecords.{delta_record}
use Rattle.records.specs.HeadRecords.{counts_record, comment_record}
use Rattle.head.specs.declared.table.Entry.{Entry}
use Rattle.head.specs.Heads.{Outcome, walk, proceed, on_delta, sound, counts, delta, lists, excludes, comment, close, opened, including, excluding, includes_mark, excludes_mark, end_mark, after_entry}
use Rattle.head.specs.Reading.{Ahead, rest, taken, take_as, demand, list_at, Fills, Adds}

-- what is read after a record, or its fault
abbrev pub carried : {A : Type 0} → Result A Fault → (A → Outcome) → Outcome
carried (Ok x) f = f x
carried (Err g) f = Err g

-- what a `?` hands on
pub handed_on : {T : Type 0} (r : Result T Fault) (f : Fault) → IsErrAnd r (λ y. y ≡ f) → r ≡ Err f
handed_on r f h = let b = err_from_is_err_and r h in b.1 ∙ ap Err b.2

module _ (a b : Ahead) (es : List Entry) where
  pub to_delta : (r : Result Unit Fault) → taken r b ≡ demand counts_record a → rest a es counts ≡ carried r (λ u. rest b es delta)
  to_delta r h = grind (arith, common_steps)

  pub to_excludes : (d : DeltaRecord) (r : Result SerialSet Fault) → taken r b ≡ list_at includes_mark d.serial unlisted a
      → rest a es (lists (opened d)) ≡ carried r (λ m. rest b es (excludes (including m (opened d))))
  to_excludes d r h = grind (arith, common_steps)

  pub to_comment : (e : Entry) (r : Result SerialSet Fault) → e.lists.excludes ≡ unlisted → taken r b ≡ list_at excludes_mark e.serial e.lists.includes a
      → rest a es (excludes e) ≡ carried r (λ m. rest b es (comment (excluding m e)))
  to_comment e r z h = grind (arith, common_steps)

  pub to_close : (e : Entry) (r : Result Unit Fault) → taken r b ≡ demand comment_record a → rest a es (comment e) ≡ carried r (λ u. rest b es (close e))
  to_close e r h = grind (arith, common_steps)

  pub to_next : (e : Entry) (r : Result Unit Fault) → taken r b ≡ demand (λ l. bytes_eq l end_mark) a → rest a es (close e) ≡ carried r (λ u. rest b (es ++ e ∷ []) (after_entry e.serial))
  to_next e r h = grind (arith, common_steps)

said : (b : Ahead) (p : ℕ) (ls : List Line) (es : List Entry) (o : Option DeltaRecord) (r : Result DeltaRecord Fault) → taken r b ≡ ok_or (option_map (λ x. (x, (p + 1, ls))) o) (placed HeadForm p)
    → proceed (on_delta es o) p (λ es t. walk (p + 1) es t ls) ≡ carried r (λ d. proceed (on_delta es (Some d)) p (rest b))
said b p ls es o r h = grind (arith, common_steps)

module _ (b : Ahead) (es : List Entry) where
  pub to_sound : (a : Ahead) (r : Result DeltaRecord Fault) → taken r b ≡ take_as delta_record a → rest a es delta ≡ carried r (λ d. proceed (on_delta es (Some d)) a.0 (rest b))
  to_sound (p, []) r h = grind (arith, common_steps)
  to_sound (p, l ∷ ls) r h = said b p ls es (delta_record l) r h

  -- the delta record d was read
  module _ (a : Ahead) (d : DeltaRecord) (h : taken (Ok d) b ≡ take_as delta_record a) where
    pub refused : sound es d ≡ false → rest a es delta ≡ Err (placed HeadContent a.0)
    refused bad = to_sound a (Ok d) h ∙ ap (λ s. proceed s a.0 (rest b)) (cond-false _ _ _ bad)

    pub to_lists : sound es d ≡ true → rest a es delta ≡ rest b es (lists (opened d))
    to_lists good = to_sound a (Ok d) h ∙ ap (λ s. proceed s a.0 (rest b)) (cond-true _ _ _ good)

pub fills_err : (a : Ahead) (d : DeltaRecord) (e : Entry) (r : Result Unit Fault) (b : Ahead) (f : Fault) → r ≡ Err f → ((es : List Entry) → rest a es (lists (opened d)) ≡ Err f) → Fills a d e r b
fills_err a d e r b f q h = subst (λ r. Fills a d e r b) (sym q) h

pub filled : (a : Ahead) (d : DeltaRecord) (e : Entry) (r : Result Unit Fault) (b : Ahead) → e.serial ≡ d.serial → ((es : List Entry) → rest a es (lists (opened d)) ≡ carried r (λ u. rest b (es ++ e ∷ []) (after_entry d.serial))) → Fills a d e r b
filled a d e (Ok u) b s h = (s, h)
filled a d e (Err f) b s h = h

pub adds_err : (a : Ahead) (es : List Entry) (r : Result Unit Fault) (b : Ahead) (fs : List Entry) (f : Fault) → r ≡ Err f → rest a es counts ≡ Err f → Adds a es r b fs
adds_err a es r b fs f q h = subst (λ r. Adds a es r b fs) (sym q) h

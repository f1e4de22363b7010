-- What a block with two sheets means, whatever its bytes and numbers are. Assumes nothing.
--
-- Meaning            the first n lines of a sheet, of its limit of lines, its bytes and n; each layout has its own
-- Size               the bytes of a sheet, of its limit of lines and that of bytes; each layout has its own
-- firsts f n         the lines f 0, f 1, .., n of them
-- fits size L B k    the limits are at most 4,000 and 24,000, and a block of k bytes has both sheets
-- b, m               the block's bytes, the store's numbers
-- size_of size m     the size of a sheet
-- stands size b m    the limits fit the block, and the counts the limits
-- sheet_of k b h     the bytes of the sheet on the half h, where a sheet has k bytes
-- list_of, draft_of  the current list, and the draft: it lies on the other half
-- Tallied .. t       the store stands, and t has its limits
-- Listed, Drafted    the same, and t has the count of the list, or of the draft
-- Listless           the store does not stand, and the refusal f says that there is no such line
-- Draftless          the store does not stand or has no draft, and the refusal f says so
-- limits_of          the limits: those of the numbers, or 0 and 0 where the store does not stand
-- health_of          the health: a block store is always whole
-- store_of .. k b m  list, health, draft and limits as one line store, with the bottom kind k
-- block_refusal ..   the refusal of the check before the making
-- Laid               these lines lie at the front of a sheet, of its limit of lines, its bytes and the lines; each layout
--                    has its own
-- LaidOut ..         the current list and the draft lie on their sheets as the layout has them
-- Begins l d h       the list l, the draft d and the health h of a store that was made: no lines, no draft, health 0
use Rattle.std.specs.Prelude.{◌≡◌, ℕ, zero, suc, ◌*◌, Bool, true, false, cond, ◌⊎◌, not, ◌&&◌, List, [], ◌∷◌, ◌++◌, length, take, drop, Some, None, Option, option_map, nat_le}
use Rattle.lines.specs.declared.fault.Cause.TheVariants.{NoSuchLine, NoDraft, BlockForm}
use Rattle.lines.specs.declared.fault.Fault.{Fault}
use Rattle.lines.specs.Faults.{Refusal, accepted, plain, when}
use Rattle.lines.specs.Lines.{Line, draft_lines}
use Rattle.lines.specs.Stores.{Store}
use Rattle.blocks.specs.declared.marks.Half.{Half}
use Rattle.blocks.specs.declared.marks.Marks.{Marks}
use Rattle.blocks.specs.declared.tally.Tally.{Tally}
use Rattle.blocks.specs.Numbers.{other, base, within}

abbrev pub Meaning : Type 0
Meaning = ℕ → List ℕ → ℕ → List Line

abbrev pub Size : Type 0
Size = ℕ → ℕ → ℕ

abbrev pub firsts : (ℕ → Line) → ℕ → List Line
firsts f zero = []
firsts f (suc n) = firsts f n ++ (f n ∷ [])

abbrev pub fits : Size → ℕ → ℕ → ℕ → Bool
fits size L B k = nat_le L 4000 && (nat_le B 24000 && nat_le (2 * size L B) k)

abbrev pub size_of : Size → Marks → ℕ
size_of size m = size m.lines m.bytes

abbrev pub stands : Size → List ℕ → Marks → Bool
stands size b m = fits size m.lines m.bytes (length b) && within m

pub record Tallied (size : Size) (b : List ℕ) (m : Marks) (t : Tally) : Type 0 where
  pub stood : stands size b m ≡ true
  pub lines : t.lines ≡ m.lines
  pub bytes : t.bytes ≡ m.bytes

abbrev pub Listed : Size → List ℕ → Marks → Tally → Type 0
Listed size b m t = Tallied size b m t × (t.count ≡ m.count)

abbrev pub Listless : Size → List ℕ → Marks → Fault → Type 0
Listless size b m f = (stands size b m ≡ false) × (f ≡ plain NoSuchLine)

abbrev pub Drafted : Size → List ℕ → Marks → Tally → Type 0
Drafted size b m t = Tallied size b m t × (m.draft ≡ Some t.count)

abbrev pub Draftless : Size → List ℕ → Marks → Fault → Type 0
Draftless size b m f = ((stands size b m ≡ false) ⊎ (m.draft ≡ None)) × (f ≡ plain NoDraft)

abbrev pub sheet_of : ℕ → List ℕ → Half → List ℕ
sheet_of k b h = take k (drop (base k h) b)

abbrev pub list_of : Meaning → Size → List ℕ → Marks → List Line
list_of lines size b m = cond (stands size b m) (lines m.lines (sheet_of (size_of size m) b m.list) m.count) []

abbrev pub draft_of : Meaning → Size → List ℕ → Marks → Option (List Line)
draft_of lines size b m =
    cond (stands size b m) (option_map (lines m.lines (sheet_of (size_of size m) b (other m.list))) m.draft) None

abbrev pub limits_of : Size → List ℕ → Marks → ℕ × ℕ
limits_of size b m = cond (stands size b m) (m.lines, m.bytes) (0, 0)

abbrev pub health_of : Marks → ℕ
health_of m = 0

abbrev pub store_of : Meaning → Size → ℕ → List ℕ → Marks → Store
store_of lines size k b m =
    record { lines = list_of lines size b m; health = health_of m; draft = draft_of lines size b m; limits = limits_of size b m; bottom = k }

abbrev pub block_refusal : Size → ℕ → ℕ → ℕ → Refusal
block_refusal size L B k = when (not (fits size L B k)) (plain BlockForm) accepted

pub record Begins (list : List Line) (draft : Option (List Line)) (health : ℕ) : Type 0 where
  pub empty : list ≡ []
  pub absent : draft ≡ None
  pub whole : health ≡ 0

abbrev pub Laid : Type 1
Laid = ℕ → List ℕ → List Line → Type 0

pub record LaidOut (laid : Laid) (lines : Meaning) (size : Size) (b : List ℕ) (m : Marks) : Type 0 where
  pub list : laid m.lines (sheet_of (size_of size m) b m.list) (list_of lines size b m)
  pub draft : laid m.lines (sheet_of (size_of size m) b (other m.list)) (draft_lines (draft_of lines size b m))

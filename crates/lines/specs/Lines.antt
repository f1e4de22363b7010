-- Lines, and what the calls of a line source and of a line store answer and leave. Assumes nothing.
--
-- Line            the bytes of a line, a list of numbers
-- no_lf l         no byte of l is LF (10)
-- is_line l       at most 240 bytes, none of them LF (10)
-- Lawful ls       at most 4,000 lines, each a line: so is a source's list
-- LawfulDraft d   the draft is absent, or such a list
-- LawfulLimits l  limits of at most 4,000 lines and 24,000 bytes
-- LawfulKind k    a kind, 1 to 255
-- line_of ls n    line n, counted from 1
-- lacks ls n      there is no line n
-- fetched ls n    line n, if there is one
-- total ls        the bytes of all lines, LF not counted
-- fronted l buf   the line at the front of the buffer, the rest kept
-- draft_lines d   the lines of a draft; none where it is absent
-- room lim d l    the line l more in the draft d passes no limit; lim is the pair (lines, bytes)
-- put_refusal ..  the refusal of putting a line of some length into a buffer
-- x_refusal ..    the refusal of the call x; its checks stand in their order
use Rattle.std.specs.Prelude.{◌≡◌, ℕ, ◌+◌, ◌-◌, ◌≤◌, Bool, true, cond, not, ◌&&◌, ◌||◌, List, [], ◌∷◌, ◌++◌, length, drop, Some, None, Option, ◌==◌, nat_le, nat_lt, slice_index_or}
use Rattle.std.specs.List.{AllByRecursion}
use Rattle.lines.specs.declared.fault.Cause.TheVariants.{NoSuchLine, ReadBufferShort, NotALine, NoRoom, OtherLength, NoDraft}
use Rattle.lines.specs.Faults.{Refusal, accepted, plain, when}

abbrev pub Line : Type 0
Line = List ℕ

abbrev pub no_lf : Line → Bool
no_lf [] = true
no_lf (b ∷ bs) = not (b == 10) && no_lf bs

abbrev pub is_line : Line → Bool
is_line l = nat_le (length l) 240 && no_lf l

abbrev pub Lawful : List Line → Type 0
Lawful ls = (length ls ≤ 4000) × AllByRecursion (λ l. is_line l ≡ true) ls

abbrev pub LawfulDraft : Option (List Line) → Type 0
LawfulDraft None = Unit {0}
LawfulDraft (Some d) = Lawful d

abbrev pub LawfulLimits : ℕ × ℕ → Type 0
LawfulLimits lim = (lim.0 ≤ 4000) × (lim.1 ≤ 24000)

abbrev pub LawfulKind : ℕ → Type 0
LawfulKind k = (1 ≤ k) × (k ≤ 255)

abbrev pub line_of : List Line → ℕ → Line
line_of ls n = slice_index_or ls (n - 1) []

abbrev pub lacks : List Line → ℕ → Bool
lacks ls n = n == 0 || nat_lt (length ls) n

abbrev pub fetched : List Line → ℕ → Option Line
fetched ls n = cond (lacks ls n) None (Some (line_of ls n))

abbrev pub total : List Line → ℕ
total [] = 0
total (l ∷ ls) = length l + total ls

abbrev pub fronted : Line → List ℕ → List ℕ
fronted l buf = l ++ drop (length l) buf

abbrev pub draft_lines : Option (List Line) → List Line
draft_lines None = []
draft_lines (Some d) = d

abbrev pub room : ℕ × ℕ → List Line → Line → Bool
room lim d l = nat_lt (length d) lim.0 && nat_le (total d + length l) lim.1

-- a line of this length into a buffer of `space` bytes
abbrev pub put_refusal : ℕ → ℕ → Refusal
put_refusal len space = when (nat_lt space len) (plain ReadBufferShort) accepted

abbrev pub read_refusal : List Line → ℕ → ℕ → Refusal
read_refusal ls n space = when (lacks ls n) (plain NoSuchLine) (put_refusal (length (line_of ls n)) space)

abbrev pub begin_refusal : ℕ × ℕ → Refusal
begin_refusal lim = when (lim.0 == 0) (plain NoRoom) accepted

abbrev pub add_refusal : Option (List Line) → ℕ × ℕ → Line → Refusal
add_refusal None lim l = Some (plain NoDraft)
add_refusal (Some d) lim l = when (not (is_line l)) (plain NotALine) (when (not (room lim d l)) (plain NoRoom) accepted)

abbrev pub look_refusal : Option (List Line) → ℕ → ℕ → Refusal
look_refusal None n space = Some (plain NoDraft)
look_refusal (Some d) n space = read_refusal d n space

abbrev pub patch_refusal : Option (List Line) → ℕ → Line → Refusal
patch_refusal None n l = Some (plain NoDraft)
patch_refusal (Some d) n l =
    when (not (is_line l)) (plain NotALine) (when (lacks d n) (plain NoSuchLine) (when (not (length l == length (line_of d n))) (plain OtherLength) accepted))

abbrev pub keep_refusal : Option (List Line) → Refusal
keep_refusal None = Some (plain NoDraft)
keep_refusal (Some d) = accepted

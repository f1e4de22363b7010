-- Refusals: the number of each cause, and what a call answers and leaves that may be refused. Assumes nothing.
--
-- number_of c        the number of the cause c
-- causes             all causes, by rising number
-- among cs n         the first of the causes cs with the number n
-- cause_of n         the cause with the number n (asked only of numbers that a cause has)
-- plain c            the fault of cause c that names nothing else
-- placed c p         the fault of cause c that names the place p
-- layered c k        the fault of cause c that names the layer of kind k
-- numbered c n       the fault of cause c that names the serial n
-- four_numbers f     how the fault f is printed: number, place, serial and layer, one blank between
-- Refusal            none, or the fault that a call is refused with
-- accepted           no refusal
-- when b f r         one check of a call: refused with f where b holds, else r, the checks after it
-- first_refusal r q  the refusal r, or q where r is none: checks in their order
-- verdict r a        what the call answers: a where it is accepted, else the fault
-- left r new old     what it leaves: `new` where it is accepted, else `old`
use Rattle.std.specs.Prelude.{ℕ, Bool, cond, List, [], ◌∷◌, ◌++◌, codes, Some, None, Ok, Err, Option, Result, ◌==◌}
use Rattle.std.specs.Fmt.{decimal}
use Rattle.lines.specs.declared.fault.Fault.{Fault}
use Rattle.lines.specs.declared.fault.Cause.{Cause}
use Rattle.lines.specs.declared.fault.Cause.TheVariants.{NotWhole, HeadForm, HeadContent, BodyRule, NoSuchVersion, ListedSerial, UserName, SidTooHigh, GrantsFull, GrantMismatch, BufferTooSmall, TooManyDeltas, NotEmpty, NotGranted, OtherUser, InHand, DateOrTime, Comment, Script, FirstText, NoSuchLine, ReadBufferShort, NotALine, NoRoom, OtherLength, NoDraft, TextForm, BlockForm}

abbrev pub number_of : Cause → ℕ
number_of NotWhole = 10
number_of HeadForm = 11
number_of HeadContent = 12
number_of BodyRule = 13
number_of NoSuchVersion = 14
number_of ListedSerial = 15
number_of UserName = 16
number_of SidTooHigh = 17
number_of GrantsFull = 18
number_of GrantMismatch = 19
number_of BufferTooSmall = 20
number_of TooManyDeltas = 21
number_of NotEmpty = 22
number_of NotGranted = 23
number_of OtherUser = 24
number_of InHand = 25
number_of DateOrTime = 26
number_of Comment = 27
number_of Script = 28
number_of FirstText = 29
number_of NoSuchLine = 31
number_of ReadBufferShort = 32
number_of NotALine = 33
number_of NoRoom = 34
number_of OtherLength = 35
number_of NoDraft = 36
number_of TextForm = 37
number_of BlockForm = 38

abbrev pub causes : List Cause
causes =
    NotWhole ∷ HeadForm ∷ HeadContent ∷ BodyRule ∷ NoSuchVersion ∷ ListedSerial ∷ UserName ∷ SidTooHigh ∷ GrantsFull ∷ GrantMismatch ∷ BufferTooSmall ∷ TooManyDeltas ∷ NotEmpty ∷ NotGranted ∷ OtherUser ∷ InHand ∷ DateOrTime ∷ Comment ∷ Script ∷ FirstText ∷ NoSuchLine ∷ ReadBufferShort ∷ NotALine ∷ NoRoom ∷ OtherLength ∷ NoDraft ∷ TextForm ∷ BlockForm ∷ []

-- the first of these causes with the number n
abbrev pub among : List Cause → ℕ → Cause
among [] n = BlockForm
among (c ∷ cs) n = cond (number_of c == n) c (among cs n)

abbrev pub cause_of : ℕ → Cause
cause_of n = among causes n

abbrev pub plain : Cause → Fault
plain c = record { cause = c; place = 0; serial = 0; layer = 0 }

abbrev pub placed : Cause → ℕ → Fault
placed c p = record { cause = c; place = p; serial = 0; layer = 0 }

abbrev pub layered : Cause → ℕ → Fault
layered c k = record { cause = c; place = 0; serial = 0; layer = k }

abbrev pub numbered : Cause → ℕ → Fault
numbered c n = record { cause = c; place = 0; serial = n; layer = 0 }

abbrev pub four_numbers : Fault → List ℕ
four_numbers f =
    decimal (number_of f.cause) ++ (codes " " ++ (decimal f.place ++ (codes " " ++ (decimal f.serial ++ (codes " " ++ decimal f.layer)))))

abbrev pub Refusal : Type 0
Refusal = Option Fault

abbrev pub accepted : Refusal
accepted = None

abbrev pub when : Bool → Fault → Refusal → Refusal
when b f r = cond b (Some f) r

abbrev pub first_refusal : Refusal → Refusal → Refusal
first_refusal None q = q
first_refusal (Some f) q = Some f

abbrev pub verdict : {A : Type 0} → Refusal → A → Result A Fault
verdict None a = Ok a
verdict (Some f) a = Err f

abbrev pub left : {A : Type 0} → Refusal → A → A → A
left None new old = new
left (Some f) new old = old

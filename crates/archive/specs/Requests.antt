-- What a call asks for: a version with lists. Assumes nothing.
--
-- lists_of r            the includes and excludes of the request r; serial n is bit n of a mask
-- is_bad top l k        the serial k is listed and is 0, above `top`, or in both lists
-- first_bad top l       the smallest bad serial of the lists, of the serials 0 to 63
-- list_refusal top l    15 with that serial
-- request_refusal es r  the refusal of a request: 14 where no delta has the SID, then 15
-- version_of es s       the serial of the delta of the SID s; 0 for none
-- request_set es r      the set that a request asks for
use Rattle.std.specs.Prelude.{ℕ, Bool, ◌&&◌, ◌||◌, List, length, Some, None, Option, ◌==◌, nat_lt}
use Rattle.std.specs.List.{find, range_with_len}
use Rattle.std.specs.Option.{unwrap_or}
use Rattle.lines.specs.declared.fault.Cause.TheVariants.{NoSuchVersion, ListedSerial}
use Rattle.lines.specs.Faults.{Refusal, plain, numbered}
use Rattle.sets.specs.Bits.{Serials, bit}
use Rattle.records.specs.declared.sid.Sid.{Sid}
use Rattle.head.specs.declared.table.Entry.{Entry}
use Rattle.head.specs.Tables.{serial_of}
use Rattle.weave.specs.Versions.{Lists, set_of}
use Rattle.weave.specs.Tables.{deltas}
use Rattle.archive.specs.declared.request.Request.{Request}

abbrev pub lists_of : Request → Lists
lists_of r = record { includes = bit r.includes; excludes = bit r.excludes }

abbrev pub is_bad : ℕ → Lists → ℕ → Bool
is_bad top l k = (l.includes k || l.excludes k) && (k == 0 || (nat_lt top k || (l.includes k && l.excludes k)))

abbrev pub first_bad : ℕ → Lists → Option ℕ
first_bad top l = find (is_bad top l) (range_with_len 0 64)

abbrev pub listed : Option ℕ → Refusal
listed None = None
listed (Some k) = Some (numbered ListedSerial k)

abbrev pub list_refusal : ℕ → Lists → Refusal
list_refusal top l = listed (first_bad top l)

abbrev pub known_refusal : Option ℕ → Refusal → Refusal
known_refusal None q = Some (plain NoSuchVersion)
known_refusal (Some v) q = q

abbrev pub request_refusal : List Entry → Request → Refusal
request_refusal es r = known_refusal (serial_of es r.sid) (list_refusal (length es) (lists_of r))

abbrev pub version_of : List Entry → Sid → ℕ
version_of es s = unwrap_or (serial_of es s) 0

abbrev pub request_set : List Entry → Request → Serials
request_set es r = set_of (deltas es) (version_of es r.sid) (lists_of r)

-- The record of a delta: its six words, and what they say. Assumes nothing.
--
-- six ws           the words ws if they are six
-- field_words f    the six words that the code holds, as a list
-- said s real n p  what a delta record says: SID, whether date and time are real, serial and predecessor
-- delta_from ws    what the words SID, yy/mm/dd, hh:mm:ss, user, serial and predecessor say
-- delta_record l   ^d D, then the six words, one blank (32) between
use Rattle.std.specs.Prelude.{ℕ, Bool, cond, ◌&&◌, List, [], ◌∷◌, length, Some, None, Option, ◌==◌, slice_index_or}
use Rattle.records.specs.declared.delta_record.Fields.{Fields}
use Rattle.records.specs.declared.delta_record.DeltaRecord.{DeltaRecord}
use Rattle.records.specs.declared.sid.Sid.{Sid}
use Rattle.records.specs.Calendar.{triple, real_day, real_time}
use Rattle.records.specs.HeadRecords.{after}
use Rattle.records.specs.Names.{user}
use Rattle.records.specs.Numerals.{and_then, serial_number}
use Rattle.records.specs.Pieces.{cut}
use Rattle.records.specs.Sids.{sid}

abbrev pub six : List (List ℕ) → Option (List (List ℕ))
six ws = cond (length ws == 6) (Some ws) None

abbrev pub field_words : Fields → List (List ℕ)
field_words f =
    f.sid.now ∷ f.date.now ∷ f.time.now ∷ f.user.now ∷ f.serial.now ∷ f.predecessor.now ∷ []

abbrev pub said : Sid → Bool → ℕ → ℕ → DeltaRecord
said s real n p = record { sid = s; real = real; serial = n; predecessor = p }

abbrev pub delta_from : List (List ℕ) → Option DeltaRecord
delta_from ws =
    and_then (sid (slice_index_or ws 0 [])) (λ s.
    and_then (triple 47 (slice_index_or ws 1 [])) (λ d.
    and_then (triple 58 (slice_index_or ws 2 [])) (λ t.
    cond (user (slice_index_or ws 3 []))
    (and_then (serial_number (slice_index_or ws 4 [])) (λ n. and_then (serial_number (slice_index_or ws 5 [])) (λ p. Some (said s (real_day d.0 d.1 d.2 && real_time t.0 t.1 t.2) n p))))
    None)))

abbrev pub delta_record : List ℕ → Option DeltaRecord
delta_record l = and_then (after (1 ∷ 100 ∷ 32 ∷ 68 ∷ 32 ∷ []) l) (λ rest. and_then (six (cut 32 rest)) delta_from)

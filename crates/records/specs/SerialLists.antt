-- Lists of serials in the entry of a delta. Assumes nothing.
--
-- numbers ws                     the serials that the words ws are
-- allowed n last own other       n rises above `last`, is lower than the delta's own serial, and is not in the set `other`
-- all_allowed last own other ns  each serial of ns is allowed after the one before it, the first after `last`
-- worth own other o              the set of the serials in o: HeadForm where there are none, HeadContent where one is not allowed
-- serial_list own other bs       what the bytes bs are worth as a list of the delta `own`, a single blank (32) between serials,
--                                with the serials of `other` taken
use Rattle.std.specs.Prelude.{ℕ, Bool, true, cond, not, ◌&&◌, List, [], ◌∷◌, Some, None, Ok, Err, Option, Result, nat_lt}
use Rattle.std.specs.Option.{option_map}
use Rattle.lines.specs.declared.fault.Cause.{Cause}
use Rattle.lines.specs.declared.fault.Cause.TheVariants.{HeadForm, HeadContent}
use Rattle.sets.specs.declared.set.SerialSet.{SerialSet}
use Rattle.sets.specs.Serials.{serials, unlisted, gathered}
use Rattle.records.specs.Numerals.{and_then, serial_number}
use Rattle.records.specs.Pieces.{cut}

abbrev pub numbers : List (List ℕ) → Option (List ℕ)
numbers [] = Some []
numbers (w ∷ ws) = and_then (serial_number w) (λ n. option_map (λ ns. n ∷ ns) (numbers ws))

abbrev pub allowed : ℕ → ℕ → ℕ → SerialSet → Bool
allowed n last own other = nat_lt last n && (nat_lt n own && not (serials other n))

abbrev pub all_allowed : ℕ → ℕ → SerialSet → List ℕ → Bool
all_allowed last own other [] = true
all_allowed last own other (n ∷ ns) = allowed n last own other && all_allowed n own other ns

abbrev pub worth : ℕ → SerialSet → Option (List ℕ) → Result SerialSet Cause
worth own other None = Err HeadForm
worth own other (Some ns) = cond (all_allowed 0 own other ns) (Ok (gathered unlisted ns)) (Err HeadContent)

abbrev pub serial_list : ℕ → SerialSet → List ℕ → Result SerialSet Cause
serial_list own other bs = worth own other (numbers (cut 32 bs))

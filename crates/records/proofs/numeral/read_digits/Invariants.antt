use Rattle.std.proofs.Common.{◌≡◌, ◌^◌, ◌<◌, drop}
use Rattle.records.specs.Numerals.{reads}
use Rattle.records.proofs.numeral.read_digits.Given as goal

abbrev pub invariant-loop-b : goal.invariant-loop-b
invariant-loop-b l = (l.n < 10 ^ l.b-index) × (reads l.n (drop l.b-index l.word) ≡ reads 0 l.word)

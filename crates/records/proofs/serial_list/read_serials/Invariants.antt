use Rattle.std.proofs.Common.{◌≡◌, length, drop}
use Rattle.records.specs.Pieces.{cut}
use Rattle.records.specs.SerialLists.{numbers, serial_list}
use Rattle.records.proofs.ListLaws.{judged}
use Rattle.records.proofs.serial_list.read_serials.Given as goal

abbrev pub invariant-loop-word : goal.invariant-loop-word
invariant-loop-word l =
    judged l.last l.list l.own l.other (numbers (drop (length l.yielded) (cut 32 l.rest))) ≡ serial_list l.own l.other l.rest

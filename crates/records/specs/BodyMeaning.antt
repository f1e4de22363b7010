-- What a record that the code took apart means. Assumes nothing.
--
-- meaning o  the record in o; wrong where there is none
use Rattle.std.specs.Prelude.{Some, None, Option}
use Rattle.records.specs.declared.body_record.BodyRecord.{BodyRecord}
use Rattle.records.specs.declared.body_record.BodyRecord.TheVariants.{Insert, Delete, End, Text}
use Rattle.records.specs.BodyRecords.{Record, insertion, deletion, opens, ends, text, wrong}

abbrev pub meaning : Option BodyRecord → Record
meaning None = wrong
meaning (Some (Insert n)) = opens (insertion n)
meaning (Some (Delete n)) = opens (deletion n)
meaning (Some (End n)) = ends n
meaning (Some (Text t)) = text t.now

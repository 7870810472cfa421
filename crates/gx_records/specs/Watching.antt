-- What stands in front of the last record.
use Rattle.std.specs.Prelude.{◌-◌, List, length, take}
use Rattle.gx_history.specs.declared.record.RecordData.{RecordData}

-- all records but the last
abbrev pub earlier_of : List RecordData → List RecordData
earlier_of records = take (length records - 1) records

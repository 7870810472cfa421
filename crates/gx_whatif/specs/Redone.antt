-- The day that another policy makes of the steps of a day.
use Rattle.std.specs.{Prelude.{ℕ, zero, suc, ◌+◌, ◌-◌, Bool, true, false, List, [], ◌∷◌, ◌++◌, length, fold}}
use Rattle.gx_access_gate.specs.Gates.{GateData}
use Rattle.gx_policy.specs.{declared.policy.PolicyData.PolicyData, Lists.each_with_earlier}
use Rattle.gx_history.specs.{declared.record.RecordData.RecordData, Live.waiting, Settling.settled_records, Verdicts.after_step}

-- a day under another policy: its records, and of each number, from 0 on, the number of the day's record whose step its
-- record came of; 0 is none's
pub record Redone : Type 0 where
  pub records : List RecordData
  pub sources : List ℕ

-- before any step
abbrev pub nothing_redone : Redone
nothing_redone = record { records = []; sources = 0 ∷ [] }

-- there is none
abbrev pub is_none : {X : Type 0} → List X → Bool
is_none [] = true
is_none (x ∷ xs) = false

-- no order waits after these records
abbrev pub is_at_rest : PolicyData → List RecordData → Bool
is_at_rest policy records = is_none (waiting policy records)

-- with matching steps at this moment until no order waits, where the day is at rest
abbrev pub settled_where : Bool → PolicyData → List RecordData → ℕ → List RecordData
settled_where true policy records moment = settled_records policy records moment
settled_where false policy records moment = records

-- so many times more this number
abbrev pub with_more : ℕ → ℕ → List ℕ → List ℕ
with_more zero number sources = sources
with_more (suc n) number sources = with_more n number (sources ++ number ∷ [])

-- the day with these records, of which all that it had not come of the step of the record of this number
abbrev pub redone_with : ℕ → Redone → List RecordData → Redone
redone_with number day records = record { records = records; sources = with_more (length records + 1 - length day.sources) number day.sources }

-- the records under the policy, once the step of this record was handed in: with the one that it leaves there, if it leaves
-- one; and where the day is at rest behind that record, none is left waiting here
abbrev pub records_behind : Bool → PolicyData → List RecordData → RecordData → List RecordData
records_behind at_rest policy records r = settled_where at_rest policy (after_step policy records r.step) r.moment

-- and the day
abbrev pub redo_where : Bool → PolicyData → Redone → RecordData → Redone
redo_where at_rest policy day r = redone_with r.number day (records_behind at_rest policy day.records r)

-- one more record of a day under the old policy, with those before it, made again under the new one
abbrev pub redone_next : PolicyData → PolicyData → Redone → List RecordData × RecordData → Redone
redone_next old new day entry = redo_where (is_at_rest old (entry.0 ++ entry.1 ∷ [])) new day entry.1

-- the records of a gate, and where each came of
abbrev pub the_day : GateData → List ℕ → Redone
the_day gate sources = record { records = gate.records; sources = sources }

-- the day that the new policy makes of the steps of these records of a day under the old one
unfoldable pub redone_under : PolicyData → PolicyData → List RecordData → Redone
redone_under old new records = fold (redone_next old new) nothing_redone (each_with_earlier records)

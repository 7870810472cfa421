-- What the new policy tells of each record of a day, and where that is another verdict.
use Rattle.std.specs.{Prelude.{ℕ, Bool, true, false, ◌&&◌, ◌==◌, List, Option, Some, None, option_map, unwrap_or, if◌then◌else◌}, List.{filter_map, slice_get}}
use Rattle.gx_units.specs.{Names.same_rule, declared.names.UserName.UserName}
use Rattle.gx_policy.specs.{declared.policy.PolicyData.PolicyData, Lists.each_with_earlier, RuleNames.rule_id}
use Rattle.gx_history.specs.{declared.record.{Fill.Fill, RecordData.RecordData, Step.Step, Verdict.Verdict}, Verdicts.next}
use Rattle.gx_whatif.specs.{declared.change.VerdictChange.VerdictChange, Redone.{Redone, redone_under}}

-- the number that the order of this one has in the day: that of the record whose step it came of
abbrev pub source_of : List ℕ → ℕ → ℕ
source_of sources number = unwrap_or (slice_get sources number) number

-- the verdict, with each order by its number in the day
abbrev pub in_day : List ℕ → Verdict → Verdict
in_day sources Verdict.Granted = Verdict.Granted
in_day sources (Verdict.Denied rule) = Verdict.Denied rule
in_day sources (Verdict.Filled f) =
    Verdict.Filled (record { taker = source_of sources f.taker; maker = source_of sources f.maker; shares = f.shares; price = f.price })
in_day sources (Verdict.Rested number) = Verdict.Rested (source_of sources number)
in_day sources (Verdict.Expired number) = Verdict.Expired (source_of sources number)

-- the verdict on this step behind the redone day, if it leaves a record there
abbrev pub verdict_behind : PolicyData → Redone → Step → Option Verdict
verdict_behind new day step = option_map (λ (r : RecordData). in_day day.sources r.verdict) (next new day.records step)

-- what the new policy tells of a record that stands behind these
abbrev pub verdict_under : PolicyData → PolicyData → List RecordData → RecordData → Option Verdict
verdict_under old new earlier r = verdict_behind new (redone_under old new earlier) r.step

-- the same orders, as many shares and the same price
abbrev pub same_fill : Fill → Fill → Bool
same_fill f g = f.taker == g.taker && f.maker == g.maker && f.shares == g.shares && f.price == g.price

-- granted both, denied by rules of one name, the same fill, or the same order that rests or expires
abbrev pub same_verdict : Verdict → Verdict → Bool
same_verdict Verdict.Granted Verdict.Granted = true
same_verdict (Verdict.Denied rule) (Verdict.Denied other) = same_rule (rule_id rule) (rule_id other)
same_verdict (Verdict.Filled f) (Verdict.Filled g) = same_fill f g
same_verdict (Verdict.Rested number) (Verdict.Rested other) = number == other
same_verdict (Verdict.Expired number) (Verdict.Expired other) = number == other
same_verdict one other = false

-- the same is told as stands in the record
abbrev pub is_as_told : Verdict → Option Verdict → Bool
is_as_told recorded None = false
is_as_told recorded (Some told) = same_verdict recorded told

-- who asked for the step
abbrev pub asker : Step → Option UserName
asker (Step.Asked a) = Some a.user
asker (Step.Matching handed) = None

-- a record of which this is told, where that is another verdict or none
abbrev pub change_where : RecordData → Option Verdict → Option VerdictChange
change_where r told =
    if is_as_told r.verdict told then None else Some (record { number = r.number; user = asker r.step; recorded = r.verdict; told = told })

-- what verdict_changes of a record that stands behind these
abbrev pub change_of : PolicyData → PolicyData → List RecordData → RecordData → Option VerdictChange
change_of old new earlier r = change_where r (verdict_under old new earlier r)

-- each record whose verdict verdict_changes, in their order
abbrev pub verdict_changes : PolicyData → PolicyData → List RecordData → List VerdictChange
verdict_changes old new records = filter_map (λ (entry : List RecordData × RecordData). change_of old new entry.0 entry.1) (each_with_earlier records)

-- How a day's records lie in rows.
use Rattle.std.specs.{Prelude.{ℕ, ◌+◌, ◌<◌, ◌≤◌, ⊤, List, [], ◌∷◌, ◌++◌, length, map, slice_get, IsTrue}, Option.option_map_or, List.AllByRecursion}
use Rattle.gx_policy.specs.declared.rule_name.RuleName.{RuleName}
use Rattle.gx_history.specs.{declared.{«record».{Asked.Asked, Step.Step, Fill.Fill, Verdict.Verdict, RecordData.RecordData}, rows.{RowContent.RowContent, RecordRow.RecordRow}}, Showing.is_showable}

-- what is long in the records, each kind in the order of its records
pub record Lists : Type 0 where
  pub asked : List Asked
  pub rules : List RuleName
  pub fills : List Fill

-- none of either
abbrev pub no_lists : Lists
no_lists = record { asked = []; rules = []; fills = [] }

-- such lists, and of how many more records they can take what is long without memory
pub record KeptLists : Type 0 where
  pub lists : Lists
  pub reserved : ℕ

-- the request at this place
abbrev pub step_at : List Asked → ℕ → Step
step_at asked place = option_map_or (λ (a : Asked). Step.Asked a) (slice_get asked place) (Step.Matching 0)

abbrev pub step_in : List Asked → RowContent → Step
step_in asked (RowContent.Granted place) = step_at asked place
step_in asked (RowContent.Denied place rule) = step_at asked place
step_in asked (RowContent.Filled handed place) = Step.Matching handed
step_in asked (RowContent.Rested handed order) = Step.Matching handed
step_in asked (RowContent.Expired handed order) = Step.Matching handed

abbrev pub verdict_in : List RuleName → List Fill → RowContent → Verdict
verdict_in rules fills (RowContent.Granted place) = Verdict.Granted
verdict_in rules fills (RowContent.Denied place rule) = option_map_or (λ (r : RuleName). Verdict.Denied r) (slice_get rules rule) Verdict.Granted
verdict_in rules fills (RowContent.Filled handed place) = option_map_or (λ (f : Fill). Verdict.Filled f) (slice_get fills place) Verdict.Granted
verdict_in rules fills (RowContent.Rested handed order) = Verdict.Rested order
verdict_in rules fills (RowContent.Expired handed order) = Verdict.Expired order

-- the record that a row stands for
abbrev pub record_in : Lists → RecordRow → RecordData
record_in lists row = record { number = row.number; moment = row.moment; step = step_in lists.asked row.event; verdict = verdict_in lists.rules lists.fills row.event }

-- the records that rows stand for
abbrev pub records_in : Lists → List RecordRow → List RecordData
records_in lists rows = map (record_in lists) rows

-- what the event names is there
abbrev pub IsThere : Lists → RowContent → Type 0
IsThere lists (RowContent.Granted place) = place < length lists.asked
IsThere lists (RowContent.Denied place rule) = (place < length lists.asked) × (rule < length lists.rules)
IsThere lists (RowContent.Filled handed place) = place < length lists.fills
IsThere lists other = ⊤

-- what the rows name is there
abbrev pub AllThere : Lists → List RecordRow → Type 0
AllThere lists rows = AllByRecursion (λ (row : RecordRow). IsThere lists row.event) rows

-- the audit has a place for all that the records say
abbrev pub AllShowable : List RecordData → Type 0
AllShowable records = AllByRecursion (λ (r : RecordData). IsTrue (is_showable r)) records

-- what is put last for a step
abbrev pub asked_of : Step → List Asked
asked_of (Step.Asked a) = a ∷ []
asked_of (Step.Matching handed) = []

abbrev pub rules_of : Verdict → List RuleName
rules_of (Verdict.Denied rule) = rule ∷ []
rules_of other = []

abbrev pub fills_of : Verdict → List Fill
fills_of (Verdict.Filled fill) = fill ∷ []
fills_of other = []

-- with what is long in one more record
abbrev pub with_details : Step → Verdict → Lists → Lists
with_details step verdict lists = record { asked = lists.asked ++ asked_of step; rules = lists.rules ++ rules_of verdict; fills = lists.fills ++ fills_of verdict }

-- what each row names is there, each record can be shown, and there is room for the rows of those that places are reserved for
pub record AreKept (kept : KeptLists) (rows : List RecordRow) (used capacity : ℕ) : Type 0 where
  pub there : AllThere kept.lists rows
  pub showable : AllShowable (records_in kept.lists rows)
  pub room : used + kept.reserved ≤ capacity

-- What seats know, and what splits and joins make of it.
use Rattle.gx_history.specs.{Requests.line_asked, declared.«record».{RecordData.RecordData, Step.Step, Verdict.Verdict}, Logins.blank_session}
use Rattle.std.specs.{Prelude.{ℕ, ◌+◌, ◌==◌, List, [], ◌∷◌, cond, fold, length, map, max}, List.filter}
use Rattle.atomic_table.specs.Seated.{TableId}
use Rattle.gx_policy.specs.declared.policy.{PolicyData.PolicyData, Lifters.TheVariants.One}
use Rattle.gx_pass.specs.declared.view.{KeeperView.KeeperView, LineView.LineView, View.{View, TheVariants.{Keeping, Meeting, Holding, Consumed}}}

-- the name of no table
abbrev pub no_table : TableId
no_table = record { words = 0; slots = 0; views_name = 0; atom = 0; block = 0; offset = 0; slot_names = [] }

-- the policy of nobody
abbrev pub no_policy : PolicyData
no_policy = record { session = blank_session; lifters = One; accounts = []; stocks = []; users = []; rules = [] }

-- the record of nothing
abbrev pub no_record : RecordData
no_record = record { number = 0; moment = 0; step = Step.Matching 0; verdict = Verdict.Granted }

-- the line of a record's step
abbrev pub line_in : RecordData → ℕ
line_in r = line_asked r.step

-- the highest line of the records, 0 where none has one
abbrev pub highest_line : List RecordData → ℕ
highest_line records = fold max 0 (map line_in records)

-- the records of a line
abbrev pub of_line : ℕ → List RecordData → List RecordData
of_line line log = filter (λ r. line_in r == line) log

abbrev pub keeper_view : List RecordData → List ℕ → ℕ → KeeperView
keeper_view list entered issued = record { list = list; entered = entered; issued = issued }

abbrev pub line_view : ℕ → List RecordData → ℕ → LineView
line_view line front told = record { line = line; front = front; told = told }

-- the pass's own records
abbrev pub mine : LineView → List RecordData
mine h = of_line h.line h.front

abbrev pub first_view : View
first_view = Keeping (keeper_view [] [] 0)

-- what the view knows as the keeper's
abbrev pub keeper_view_of : View → KeeperView
keeper_view_of (Keeping k) = k
keeper_view_of (Meeting k h) = k
keeper_view_of (Holding h) = keeper_view [] [] 0
keeper_view_of Consumed = keeper_view [] [] 0

-- what the view knows as a pass's
abbrev pub line_view_of : View → LineView
line_view_of (Keeping k) = line_view 0 [] 0
line_view_of (Meeting k h) = h
line_view_of (Holding h) = h
line_view_of Consumed = line_view 0 [] 0

-- the lines but this one
abbrev pub without_line : ℕ → List ℕ → List ℕ
without_line line [] = []
without_line line (l ∷ ls) = cond (l == line) ls (l ∷ without_line line ls)

-- one more line is issued
abbrev pub with_line_issued : View → View
with_line_issued v = let k = keeper_view_of v in Keeping (keeper_view k.list k.entered (k.issued + 1))

-- the pass with that line
abbrev pub view_of_issued : View → View
view_of_issued v = let k = keeper_view_of v in Holding (line_view (k.issued + 1) k.list (length k.list))

-- the entered line leaves
abbrev pub view_without_line : ℕ → View → View
view_without_line line v = let k = keeper_view_of v in Keeping (keeper_view k.list (without_line line k.entered) k.issued)

-- the pass with that line
abbrev pub view_of_line : ℕ → View → View
view_of_line line v = let k = keeper_view_of v in Holding (line_view line k.list (length k.list))

-- the keeper has a pass to compare, whose line is entered
abbrev pub view_of_meeting : View → View → View
view_of_meeting v w = let k = keeper_view_of v in let h = line_view_of w in Meeting (keeper_view k.list (h.line ∷ k.entered) k.issued) h

-- the pass was told the length
abbrev pub with_told : LineView → ℕ → LineView
with_told h n = line_view h.line h.front n

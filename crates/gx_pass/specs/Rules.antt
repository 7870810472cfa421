-- The rule of the table, and what its steps tell.
use Rattle.std.specs.Prelude.{◌≡◌, ◌≢◌, ℕ, ◌<◌, ◌≤◌, ◌⊎◌, List, [], ◌∷◌, ◌++◌, length}
use mathlib.Core.Option.{some}
use mathlib.Core.List.{IsPrefix}
use lib.ListN.{get_elem?}
use Rattle.atomic_table.specs.Table.{Me}
use Rattle.gx_history.specs.declared.record.RecordData.{RecordData}
use Rattle.gx_pass.specs.{declared.view.{KeeperView.KeeperView, LineView.LineView, View.{View, TheVariants.{Keeping, Meeting, Holding, Consumed}}}, Views.{line_in, of_line, mine, keeper_view, keeper_view_of, line_view_of, with_told}}

-- what a pass knows is so of this history
pub record IsMet (log : List RecordData) (h : LineView) : Type 0 where
  pub front : IsPrefix h.front log
  pub told : h.told ≤ length log
  pub mine : of_line h.line log ≡ mine h

abbrev pub IsAbsent : ℕ → List ℕ → Type 0
IsAbsent line [] = Unit {0}
IsAbsent line (l ∷ ls) = (line ≢ l) × IsAbsent line ls

abbrev pub Has : List ℕ → ℕ → Type 0
Has [] line = ⊥
Has (l ∷ ls) line = (line ≡ l) ⊎ Has ls line

-- a record of this line may be noted
abbrev pub MayNote : List ℕ → ℕ → Type 0
MayNote entered line = (line ≡ 0) ⊎ Has entered line

-- the entered lines all differ, were issued, and no pass has them (the number of the pass that has a line, or 0, is `holder` of it)
abbrev pub AreEntered : ℕ → (ℕ → ℕ) → List ℕ → Type 0
AreEntered issued holder [] = Unit {0}
AreEntered issued holder (l ∷ ls) = (holder l ≡ 0) × (0 < l) × (l ≤ issued) × IsAbsent l ls × AreEntered issued holder ls

-- each record's line is 0 or one that was issued
abbrev pub IsNumbered : ℕ → List RecordData → Type 0
IsNumbered issued [] = Unit {0}
IsNumbered issued (r ∷ rs) = (line_in r ≤ issued) × IsNumbered issued rs

-- what the rule says of the view of one seat
abbrev pub Fits : KeeperView → (ℕ → ℕ) → ℕ → View → Type 0
Fits k holder seat (Keeping c) = (seat ≡ 0) × (c ≡ k)
Fits k holder seat (Meeting c h) = (seat ≡ 0) × (c ≡ k) × IsMet k.list h
Fits k holder seat (Holding h) = (0 < seat) × (holder h.line ≡ seat) × (0 < h.line) × (h.line ≤ k.issued) × IsMet k.list h
Fits k holder seat Consumed = Unit {0}

-- the word is the length of the keeper's history; each pass has met a beginning of it, and no two have one line
pub record IsKeptBy (keeper : KeeperView) (words : List ℕ) (views : List View) : Type 0 where
  pub holder : ℕ → ℕ
  pub word : words ≡ length keeper.list ∷ []
  pub each : (seat : ℕ) (v : View) → get_elem? views seat ≡ some v → Fits keeper holder seat v
  pub entered : AreEntered keeper.issued holder keeper.entered
  pub numbered : IsNumbered keeper.issued keeper.list

abbrev pub IsKept : List ℕ → List View → Type 0
IsKept words views = (k : KeeperView) × IsKeptBy k words views

-- the pass was told n
abbrev pub HasTold : Me ℕ View → ℕ → Me ℕ View → Type 0
HasTold m n w = (w ≡ (Holding (with_told (line_view_of m.0) n), m.1)) × ((line_view_of m.0).told ≤ n) × (length (line_view_of m.0).front ≤ n)

-- the keeper compared the pass that it took in
abbrev pub HasMet : Me ℕ View → Me ℕ View → Type 0
HasMet m w = (w ≡ (Keeping (keeper_view_of m.0), m.1)) × IsMet (keeper_view_of m.0).list (line_view_of m.0) × AreEntered (keeper_view_of m.0).issued (λ _. 0) (keeper_view_of m.0).entered

-- the keeper saw that each line of the history was issued
abbrev pub HasLooked : Me ℕ View → Me ℕ View → Type 0
HasLooked m w = (w ≡ m) × IsNumbered (keeper_view_of m.0).issued (keeper_view_of m.0).list

-- the history took the record
abbrev pub HasTaken : RecordData → Me ℕ View → Me ℕ View → Type 0
HasTaken r m w = let k = keeper_view_of m.0 in w ≡ (Keeping (keeper_view (k.list ++ r ∷ []) k.entered k.issued), m.1)

-- Where a fault stops a run, which makes records and writes text.
use Rattle.std.specs.Prelude.{◌≡◌, ℕ, ◌⊎◌, List, [], ◌∷◌, ◌++◌}

-- the first of all these
pub record AreFirst {T : Type 0} (first all : List T) : Type 0 where
  pub others : List T
  pub whole : all ≡ first ++ others

-- the first of all these, and one at least is left
pub record AreFewer {T : Type 0} (first all : List T) : Type 0 where
  pub next : T
  pub others : List T
  pub whole : all ≡ first ++ next ∷ others

-- where a run stands: the records that were made, the text that was written, and what else is known there
pub record Mark (R K : Type 0) : Type 0 where
  pub records : List R
  pub text : List ℕ
  pub known : K

-- why a run stops: a growth was refused, the day is full, the writer failed, or no more can be read
pub data Cause : Type 0 where
  Memory : Cause
  Full : Cause
  Writing : Cause
  Reading : Cause

-- Between one mark and the next the records are made first, and then the text is written.
-- A step was refused: some of the records were not made, and nothing was written.
pub record IsRefused {R K : Type 0} (here next stop : Mark R K) : Type 0 where
  pub made : AreFirst here.records stop.records
  pub left : AreFewer stop.records next.records
  pub text : stop.text ≡ here.text
  pub known : stop.known ≡ here.known

-- what was not sent: a front was written where the writer failed, nothing where a growth was refused
abbrev pub IsOfSending : Cause → (nothing : Type 0) → Type 0
IsOfSending Memory nothing = nothing
IsOfSending Writing nothing = Unit {0}
IsOfSending other nothing = ⊥

-- All the records were made, and a front of the text was written.
pub record IsUnsent {R K : Type 0} (cause : Cause) (here next stop : Mark R K) : Type 0 where
  pub records : stop.records ≡ next.records
  pub known : stop.known ≡ next.known
  pub begun : AreFirst here.text stop.text
  pub left : AreFirst stop.text next.text
  pub sending : IsOfSending cause (stop.text ≡ here.text)

-- on the way from one mark to the next; of the records where a step was refused, `Refused` holds
abbrev pub IsBetween : {R K : Type 0} → (Cause → List R → Type 0) → Cause → (here next stop : Mark R K) → Type 0
IsBetween Refused cause here next stop = (Refused cause stop.records × IsRefused here next stop) ⊎ IsUnsent cause here next stop

-- what stops a run at a mark with others behind it: a growth that no step asked for
abbrev pub MayPause : Cause → Type 0
MayPause Memory = Unit {0}
MayPause other = ⊥

-- what stops it at the last mark
abbrev pub MayEnd : Cause → Type 0
MayEnd Memory = Unit {0}
MayEnd Reading = Unit {0}
MayEnd other = ⊥

-- where a run stops that stands at a mark and goes through these: where no more can be read, at the last of them
abbrev pub Stops : {R K : Type 0} → (Cause → List R → Type 0) → Cause → Mark R K → List (Mark R K) → Mark R K → Type 0
Stops Refused cause here [] stop = MayEnd cause × (stop ≡ here)
Stops Refused cause here (next ∷ marks) stop =
    (MayPause cause × (stop ≡ here)) ⊎ (IsBetween Refused cause here next stop ⊎ Stops Refused cause next marks stop)

-- the marks of a run over items, each of which has marks of its own
abbrev pub trail : {S I M : Type 0} → (S → I → List M) → (S → I → S) → S → List I → List M
trail marks then run [] = []
trail marks then run (item ∷ items) = marks run item ++ trail marks then (then run item) items

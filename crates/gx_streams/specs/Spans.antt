-- What a reader is told, from the spans of fills in which one mask was in force.
use Rattle.std.specs.{Map.values_of, Prelude.{IsTrue, ◌≡◌, ◌≤◌, ℕ, Bool, Some, if◌then◌else◌, ◌+◌, ◌*◌, ◌-◌, List, [], ◌∷◌, ◌++◌, length, take, drop}, List.{AllByRecursion, flat_map}}
use Rattle.gx_units.specs.{Names.same_user, declared.names.UserName.UserName}
use Rattle.gx_policy.specs.{declared.policy.{User.User, PolicyData.PolicyData}, People.is_reader}
use Rattle.gx_history.specs.{Masks.has_account, declared.report.Report.{Report}}
use Rattle.gx_streams.specs.{declared.{fill.ReportedFill.ReportedFill, span.Span.Span}, Fills.{fill_copies, copies_of_all}}

-- a reader's spans, and how many reports he has
pub record ReaderSpans : Type 0 where
  pub user : UserName
  pub earlier : List Span
  pub current : Span
  pub count : ℕ

-- the first of the later spans, or the current one
abbrev pub next_of : List Span → Span → Span
next_of [] current = current
next_of (s ∷ later) current = s

-- the items from one place up to another
abbrev pub items_between : {X : Type 0} → ℕ → ℕ → List X → List X
items_between from until items = take (until - from) (drop from items)

-- the drop copies of a span, which ends where the next begins
abbrev pub copies_before : List ReportedFill → Span → List Span → Span → List Report
copies_before fills s later current = copies_of_all s.mask (items_between s.first_fill (next_of later current).first_fill fills)

-- the drop copies of the earlier spans, and those of the current one
abbrev pub copies_in : List ReportedFill → List Span → Span → List Report
copies_in fills [] current = copies_of_all current.mask (drop current.first_fill fills)
copies_in fills (s ∷ later) current = copies_before fills s later current ++ copies_in fills later current

-- each span says the number that its first report has, by those of the spans before it
abbrev pub AreNumbered : List ReportedFill → ℕ → List Span → Span → Type 0
AreNumbered fills number [] current = current.first_report ≡ number
AreNumbered fills number (s ∷ later) current =
    (s.first_report ≡ number) × AreNumbered fills (number + length (copies_before fills s later current)) later current

-- the reader has the copies of one more fill
abbrev pub with_copies_counted : ReportedFill → ReaderSpans → ReaderSpans
with_copies_counted f r = record { user = r.user; earlier = r.earlier; current = r.current; count = r.count + length (fill_copies r.current.mask f) }

-- another mask is in force from this fill on
abbrev pub entitled_from : ℕ → ℕ → ReaderSpans → ReaderSpans
entitled_from mask fill r = record { user = r.user; earlier = r.earlier ++ r.current ∷ []; current = record { first_fill = fill; mask = mask; first_report = r.count + 1 }; count = r.count }

-- no span begins past the fills, and the reports are counted and numbered
pub record IsSound (fills : List ReportedFill) (r : ReaderSpans) : Type 0 where
  pub begun : AllByRecursion (λ (s : Span). s.first_fill ≤ length fills) r.earlier
  pub now_begun : r.current.first_fill ≤ length fills
  pub count_is : r.count ≡ length (copies_in fills r.earlier r.current)
  pub numbered : AreNumbered fills 1 r.earlier r.current
  pub few : r.count ≤ 2 * length fills

-- a reader without accounts, before any fill
abbrev pub no_spans : UserName → ReaderSpans
no_spans user = record { user = user; earlier = []; current = record { first_fill = 0; mask = 0; first_report = 1 }; count = 0 }

-- the policy's readers, before any fill
abbrev pub spans_for : User → List ReaderSpans
spans_for u = if is_reader (Some u.role) then no_spans u.name ∷ [] else []

-- the readers of the policy, before any fill
abbrev pub first_spans : PolicyData → List ReaderSpans
first_spans policy = flat_map spans_for policy.users

-- the reader has this name
abbrev pub is_named : UserName → ReaderSpans → Bool
is_named user r = same_user user r.user

-- each reader stands under his name
abbrev pub AreNamed : List (UserName × ReaderSpans) → Type 0
AreNamed entries = AllByRecursion (λ (e : UserName × ReaderSpans). e.1.user ≡ e.0) entries

-- the other mask has each account of the mask
abbrev pub IsWithin : ℕ → ℕ → Type 0
IsWithin other mask = (place : ℕ) → IsTrue (has_account mask place) → IsTrue (has_account other place)

-- it has each account that a reader is told of now
abbrev pub AreWithin : ℕ → List ReaderSpans → Type 0
AreWithin other readers = AllByRecursion (λ (r : ReaderSpans). IsWithin other r.current.mask) readers

-- the readers under their names, and a mask that has all their accounts
pub record AreHeld (read : ℕ) (entries : List (UserName × ReaderSpans)) : Type 0 where
  pub named : AreNamed entries
  pub within : AreWithin read (values_of entries)

-- What is kept of the records that were followed.
use Rattle.std.specs.Prelude.{◌≡◌, ◌≤◌, ℕ, length, take, Bool, List, [], ◌∷◌, ◌++◌, map, filter, Option, IfSome, if◌then◌else◌}
use Rattle.circular_buffer.specs.Buffer.{Buffer, buffer, keep_last}
use Rattle.gx_policy.specs.declared.policy.PolicyData.{PolicyData}
use Rattle.gx_history.specs.declared.record.RecordData.{RecordData}
use Rattle.gx_overview.specs.Commands.{granted_commands}
use Rattle.gx_board.specs.{declared.summary.Summary.Summary, Counting.{commands, counts_with, counts_of, denied_rows, denies, row_counted}}

-- so many denials are shown, and so many commands
abbrev pub most_recent : ℕ
most_recent = 100

-- the last of these
abbrev pub recent_records : List RecordData → Buffer RecordData
recent_records found = buffer (keep_last most_recent found) most_recent

-- the ring with one more item, where the condition holds
abbrev pub pushed_if : Bool → RecordData → Buffer RecordData → Buffer RecordData
pushed_if is r ring = if is then buffer (keep_last ring.capacity (ring.items ++ r ∷ [])) ring.capacity else ring

-- all but the commands of the summary is that of these records
pub record IsCounted (policy : PolicyData) (records : List RecordData) (d : Summary) : Type 0 where
  pub counts : d.counts ≡ counts_of records
  pub denied : d.denied.items ≡ denied_rows policy records
  pub last_denied : d.last_denied ≡ recent_records (filter denies records)
  pub last_commands : d.last_commands ≡ recent_records (filter commands records)

-- the summary is that of these records
pub record IsSummary (policy : PolicyData) (records : List RecordData) (d : Summary) : Type 0 where
  pub counted : IsCounted policy records d
  pub commands : d.commands.items ≡ granted_commands records

-- it counts these further records, whatever records it was that of
abbrev pub Counted : List RecordData → Summary → Summary → Type 0
Counted more old new = (policy : PolicyData) (records : List RecordData) → IsCounted policy records old → IsCounted policy (records ++ more) new

-- and follows them
abbrev pub FollowsSummary : List RecordData → Summary → Summary → Type 0
FollowsSummary more old new = (policy : PolicyData) (records : List RecordData) → IsSummary policy records old → IsSummary policy (records ++ more) new

-- what the record changes but for the commands
pub record Notes (r : RecordData) (old new : Summary) : Type 0 where
  pub counts : new.counts ≡ counts_with r old.counts
  pub denied : new.denied.items ≡ map (row_counted r) old.denied.items
  pub last_denied : new.last_denied ≡ pushed_if (denies r) r old.last_denied
  pub last_commands : new.last_commands ≡ pushed_if (commands r) r old.last_commands
  pub commands_kept : new.commands.items ≡ old.commands.items

-- what the record, if there is one, changes but for the commands
abbrev pub IsNoted : Option RecordData → Summary → Summary → Type 0
IsNoted found old new = IfSome found (λ (r : RecordData). Notes r old new)

-- it is that of the same records, whatever records these were
abbrev pub Stays : Summary → Summary → Type 0
Stays old new = (policy : PolicyData) (records : List RecordData) → IsSummary policy records old → IsSummary policy records new

-- the summary is that of the first of these records, as many as it counts
pub record IsSummaryBehind (policy : PolicyData) (records : List RecordData) (d : Summary) : Type 0 where
  pub few : d.counts.records ≤ length records
  pub first : IsSummary policy (take d.counts.records records) d

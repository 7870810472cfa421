-- Whose fills each reader gets, and the fill that a record makes as it is told.
use Rattle.std.specs.{Prelude.{◌≡◌, ℕ, IsFalse, List, [], ◌∷◌, Option, Some, None, is_some, option_map, if◌then◌else◌}, List.slice_get}
use Rattle.gx_units.specs.declared.names.UserName.{UserName}
use Rattle.gx_policy.specs.{declared.policy.{Account.Account, PolicyData.PolicyData}, People.{is_reader, role_in}}
use Rattle.gx_history.specs.{declared.record.{Fill.Fill, RecordData.RecordData, Verdict.Verdict}, Executions.{Execution, sides}, InForce.is_entitled, Masks.mask_by, Streams.executed_message}
use Rattle.gx_streams.specs.{declared.fill.{FillRole.FillRole, ReportedFill.ReportedFill}, Fills.{executed_of_fill, fill_side}, Streams.{AllStreams, mask_of}}

-- the accounts that are the user's by these records, if he is a reader
abbrev pub mask_in_force : PolicyData → List RecordData → UserName → Option ℕ
mask_in_force policy history user =
    if is_reader (role_in policy.users user) then Some (mask_by (is_entitled policy history user) policy.accounts) else None

-- each reader gets the fills of the accounts that are his by these records
abbrev pub AreSent : PolicyData → List RecordData → AllStreams → Type 0
AreSent policy history streams = (user : UserName) → mask_of streams user ≡ mask_in_force policy history user

-- the readers are the policy's
abbrev pub KnowsReaders : PolicyData → AllStreams → Type 0
KnowsReaders policy streams = (user : UserName) → is_some (mask_of streams user) ≡ is_reader (role_in policy.users user)

-- a party's side of the told fill is this side of the record's, for an order of one who is no reader
pub record IsSide (policy : PolicyData) (r : RecordData) (e : Execution) (f : ReportedFill) (party : FillRole) : Type 0 where
  pub user : (fill_side f party).user ≡ e.order.user
  pub account : (fill_side f party).account ≡ e.order.account
  pub side : (fill_side f party).side ≡ e.order.terms.side
  pub executed : executed_of_fill f party ≡ executed_message r e
  pub place : option_map (λ (a : Account). a.name) (slice_get policy.accounts (fill_side f party).account_place) ≡ Some e.order.account
  pub reads_not : IsFalse (is_reader (role_in policy.users e.order.user))

-- the told fill is the one that the record makes, after these
pub record IsMadeBy (policy : PolicyData) (history : List RecordData) (r : RecordData) (f : ReportedFill) : Type 0 where
  pub made : Fill
  pub taker : Execution
  pub maker : Execution
  pub fills : r.verdict ≡ Verdict.Filled made
  pub sides_are : sides policy history r.verdict ≡ taker ∷ maker ∷ []
  pub takers : IsSide policy r taker f FillRole.Taker
  pub makers : IsSide policy r maker f FillRole.Maker
  pub moment : f.moment ≡ r.moment

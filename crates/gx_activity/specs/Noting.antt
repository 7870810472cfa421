-- What one more record changes in the rows of the accounts.
use Rattle.gx_overview.specs.{Accounts.{one_more, capped_count}, declared.owners.{Owner.Owner, Owners.Owners}, Executed.KnowOrders}
use Rattle.std.specs.{Prelude.{◌≡◌, ℕ, ◌+◌, List, [], ◌++◌, map, fold, Option, option_to_list, unwrap_or, if◌then◌else◌}, Option.option_map_or, Map.lookup}
use Rattle.indexmap.specs.IndexMap.{insert_entry}
use Rattle.gx_units.specs.{Names.same_account, declared.names.AccountName.AccountName}
use Rattle.gx_policy.specs.{declared.policy.{Account.Account, PolicyData.PolicyData}, People.account_of}
use Rattle.gx_history.specs.{declared.record.{Asked.Asked, RecordData.RecordData, Request.Request, Step.Step, Verdict.Verdict}, Orders.{Order, order_numbered, orders_added}, Requests.asked_of}
use Rattle.gx_activity.specs.{declared.{activity.{ActivityRow.ActivityRow, OrderRequests.OrderRequests}, deeds.Deed.Deed}, Activity.{activity_of, idle, is_cancel, is_enter, is_replace}}

-- with the request counted as what it is
abbrev pub requests_with : Request → OrderRequests → OrderRequests
requests_with q counts = record {
  enters = one_more (is_enter q) counts.enters;
  replaces = one_more (is_replace q) counts.replaces;
  cancels = one_more (is_cancel q) counts.cancels;
}

-- the row, once this is done by its account
abbrev pub row_with : Deed → ActivityRow → ActivityRow
row_with (Deed.Granted q) row = record { account = row.account; granted = requests_with q row.granted; denied = row.denied; fills = row.fills; rested = row.rested; expired = row.expired }
row_with (Deed.Denied q) row = record { account = row.account; granted = row.granted; denied = requests_with q row.denied; fills = row.fills; rested = row.rested; expired = row.expired }
row_with Deed.Filled row = record { account = row.account; granted = row.granted; denied = row.denied; fills = capped_count (row.fills + 1); rested = row.rested; expired = row.expired }
row_with Deed.Rested row = record { account = row.account; granted = row.granted; denied = row.denied; fills = row.fills; rested = capped_count (row.rested + 1); expired = row.expired }
row_with Deed.Expired row = record { account = row.account; granted = row.granted; denied = row.denied; fills = row.fills; rested = row.rested; expired = capped_count (row.expired + 1) }

-- the row, once this is done by the account, if it is that row's
abbrev pub row_done : AccountName → Deed → ActivityRow → ActivityRow
row_done account deed row = if same_account row.account account then row_with deed row else row

-- the row of the account, that of one that did nothing where there is none
abbrev pub row_in : List (AccountName × ActivityRow) → AccountName → ActivityRow
row_in entries account = unwrap_or (lookup (same_account account) entries) (idle account)

-- the rows by their accounts, once this is done by the account
abbrev pub entries_done : AccountName → Deed → List (AccountName × ActivityRow) → List (AccountName × ActivityRow)
entries_done account deed entries = insert_entry same_account entries account (row_with deed (row_in entries account))

-- and once it is done by the account, or by none
abbrev pub entries_told : List (AccountName × ActivityRow) → Option AccountName → Deed → List (AccountName × ActivityRow)
entries_told entries account deed = option_map_or (λ (name : AccountName). entries_done name deed entries) account entries

-- and once it is done to an order of this owner, or to none
abbrev pub entries_of_number : List (AccountName × ActivityRow) → Option Owner → Deed → List (AccountName × ActivityRow)
entries_of_number entries owner deed = option_map_or (λ (o : Owner). entries_done o.account deed entries) owner entries

-- the request of a user of the account, granted or denied
abbrev pub deed_asked : PolicyData → (Request → Deed) → Step → List (AccountName × Deed)
deed_asked policy became step =
    option_map_or (λ (a : Asked). map (λ (account : AccountName). (account, became a.request)) (option_to_list (account_of policy a.user))) (asked_of step) []

-- what was done to the order of this number, if it is known
abbrev pub deed_of : List Order → Deed → ℕ → List (AccountName × Deed)
deed_of known deed number = map (λ (o : Order). (o.account, deed)) (option_to_list (order_numbered known number))

-- what a record tells, where these orders are known
abbrev pub deeds_in : PolicyData → List Order → Step → Verdict → List (AccountName × Deed)
deeds_in policy known step Verdict.Granted = deed_asked policy Deed.Granted step
deeds_in policy known step (Verdict.Denied rule) = deed_asked policy Deed.Denied step
deeds_in policy known step (Verdict.Filled f) = deed_of known Deed.Filled f.taker ++ deed_of known Deed.Filled f.maker
deeds_in policy known step (Verdict.Rested number) = deed_of known Deed.Rested number
deeds_in policy known step (Verdict.Expired number) = deed_of known Deed.Expired number

-- the rows by their accounts, once this is done
abbrev pub entries_after : List (AccountName × ActivityRow) → AccountName × Deed → List (AccountName × ActivityRow)
entries_after entries d = entries_done d.0 d.1 entries

-- the record's order is known too, and what it tells is counted
pub record AreDeedsNoted (policy : PolicyData) (r : RecordData) (known : List Order) (owners : Owners) (before after : List (AccountName × ActivityRow)) : Type 0 where
  pub knows : KnowOrders owners (known ++ orders_added policy known r)
  pub rows : after ≡ fold entries_after before (deeds_in policy known r.step r.verdict)

-- of any orders that were known
abbrev pub NoteDeeds : PolicyData → RecordData → Owners → Owners → List (AccountName × ActivityRow) → List (AccountName × ActivityRow) → Type 0
NoteDeeds policy r old new before after = (known : List Order) → KnowOrders old known → AreDeedsNoted policy r known new before after

-- the counts, where each stops at 64 bits
abbrev pub capped_requests : OrderRequests → OrderRequests
capped_requests counts = record { enters = capped_count counts.enters; replaces = capped_count counts.replaces; cancels = capped_count counts.cancels }

-- the row, where each count stops at 64 bits
abbrev pub capped_row : ActivityRow → ActivityRow
capped_row row = record {
  account = row.account;
  granted = capped_requests row.granted;
  denied = capped_requests row.denied;
  fills = capped_count row.fills;
  rested = capped_count row.rested;
  expired = capped_count row.expired;
}

-- the row of an account after these records
abbrev pub so_far : PolicyData → List RecordData → Account → ActivityRow
so_far policy records a = capped_row (activity_of policy records a.name)

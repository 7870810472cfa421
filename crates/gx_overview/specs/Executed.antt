-- What each account has executed, by side, and whose orders there were.
use Rattle.std.specs.{Prelude.{◌≡◌, ℕ, ◌+◌, Bool, true, false, ◌&&◌, List, ◌++◌, fold, map, Option, option_map, sum_by, nat_eq, if◌then◌else◌}, List.filter, Option.option_map_or, Map.lookup}
use Rattle.gx_units.specs.{Money.{value, capped_at_128_bits}, Names.{same_account, same_token, same_user}, declared.names.{AccountName.AccountName, Token.Token, UserName.UserName}}
use Rattle.gx_ouch.specs.declared.outbound.OrderTerms.{OrderTerms}
use Rattle.gx_policy.specs.declared.policy.{Account.Account, PolicyData.PolicyData}
use Rattle.gx_history.specs.{declared.{live_order.UserToken.UserToken, «record».{Fill.Fill, RecordData.RecordData}}, Book.is_buy, Executions.{Execution, executions, sides_in}, Figures.done_of_chosen, Orders.{Order, order_numbered, order_under, orders_added}}
use Rattle.gx_overview.specs.{declared.{executed.{ExecutedTotals.ExecutedTotals, ExecutedRow.ExecutedRow}, owners.{Owner.Owner, Owners.Owners}}, Accounts.is_account_side}

-- the value, at the prices of the fills, that orders which are chosen executed
abbrev pub value_of_chosen : List Execution → (AccountName → OrderTerms → Bool) → ℕ
value_of_chosen made chosen =
    sum_by (λ (e : Execution). value e.fill.shares e.fill.price) (filter (λ (e : Execution). chosen e.order.account e.order.terms) made)

-- what the account executed on this side
abbrev pub executed_on : List Execution → AccountName → Bool → ExecutedTotals
executed_on made account buys = record {
  shares = capped_at_128_bits (done_of_chosen made (is_account_side account buys));
  value = capped_at_128_bits (value_of_chosen made (is_account_side account buys));
}

-- what the account has executed
abbrev pub executed_of_account : List Execution → AccountName → ExecutedRow
executed_of_account made account = record { account = account; bought = executed_on made account true; sold = executed_on made account false }

abbrev pub executed_row : PolicyData → List RecordData → Account → ExecutedRow
executed_row policy records a = executed_of_account (executions policy records) a.name

-- before any fill
abbrev pub no_executions : Account → ExecutedRow
no_executions a = record { account = a.name; bought = record { shares = 0; value = 0 }; sold = record { shares = 0; value = 0 } }

-- whose order it is, in which stock and on which side
abbrev pub owner_of : Order → Owner
owner_of o = record { account = o.account; stock = o.terms.stock; buys = is_buy o.terms.side }

-- with so many more shares at this price
abbrev pub with_fill : Fill → ExecutedTotals → ExecutedTotals
with_fill f done = record { shares = capped_at_128_bits (done.shares + f.shares); value = capped_at_128_bits (done.value + value f.shares f.price) }

-- the row, once shares of it were bought, or sold, so
abbrev pub side_filled : Bool → Fill → ExecutedRow → ExecutedRow
side_filled true f row = record { account = row.account; bought = with_fill f row.bought; sold = row.sold }
side_filled false f row = record { account = row.account; bought = row.bought; sold = with_fill f row.sold }

-- the row, once an order of this owner was filled so, if it is one of its account
abbrev pub row_filled : Owner → Fill → ExecutedRow → ExecutedRow
row_filled owner f row = if same_account row.account owner.account then side_filled owner.buys f row else row

-- the rows, once an order was filled so whose owner is known, or is not
abbrev pub rows_filled : Fill → List ExecutedRow → Option Owner → List ExecutedRow
rows_filled f rows owner = option_map_or (λ (o : Owner). map (row_filled o f) rows) owner rows

-- the rows, once this side of a fill was executed
abbrev pub rows_after : List ExecutedRow → Execution → List ExecutedRow
rows_after rows e = map (row_filled (owner_of e.order) e.fill) rows

-- the key of a user's token
abbrev pub is_key : UserName → Token → UserToken → Bool
is_key user token key = same_user user key.user && same_token token key.token

-- each order's owner is known by its number, and by the token that it was last asked for under
pub record KnowOrders (owners : Owners) (known : List Order) : Type 0 where
  pub numbered : (n : ℕ) → lookup (nat_eq n) owners.by_number.entries ≡ option_map owner_of (order_numbered known n)
  pub under : (user : UserName) (token : Token) → lookup (is_key user token) owners.by_token.entries ≡ option_map owner_of (order_under known user token)

-- and once the record's order and its fill, where it has one, are noted too
pub record AreNoted (policy : PolicyData) (r : RecordData) (known : List Order) (owners : Owners) (before after : List ExecutedRow) : Type 0 where
  pub knows : KnowOrders owners (known ++ orders_added policy known r)
  pub rows : after ≡ fold rows_after before (sides_in known r.verdict)

-- of any orders that were known
abbrev pub NoteRecord : PolicyData → RecordData → Owners → Owners → List ExecutedRow → List ExecutedRow → Type 0
NoteRecord policy r old new before after = (known : List Order) → KnowOrders old known → AreNoted policy r known new before after

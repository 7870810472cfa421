-- What one more fill changes in the table of positions.
use Rattle.std.specs.{Prelude.{◌≡◌, List, ◌++◌, map, fold, Option, unwrap_or}, Option.option_map_or, Map.lookup}
use Rattle.indexmap.specs.IndexMap.{insert_entry}
use Rattle.gx_policy.specs.{declared.policy.PolicyData.PolicyData, Lists.once}
use Rattle.gx_history.specs.{declared.record.{Fill.Fill, RecordData.RecordData}, Executions.{Execution, executions, sides_in}, Orders.{Order, orders_added}}
use Rattle.gx_overview.specs.{declared.owners.{Owner.Owner, Owners.Owners}, Executed.{KnowOrders, owner_of}}
use Rattle.gx_activity.specs.{declared.positions.{Position.Position, PositionRow.PositionRow}, Positions.{no_position, position_of, position_row, position_with, same_position}}

-- the account and the stock of an order of this owner
abbrev pub owned_position : Owner → Position
owned_position owner = record { account = owner.account; stock = owner.stock }

-- the rows by what they are of, once an order of this owner was filled so
abbrev pub position_entries_with : Owner → Fill → List (Position × PositionRow) → List (Position × PositionRow)
position_entries_with owner f entries =
    insert_entry same_position entries (owned_position owner)
    (position_with owner.buys f (unwrap_or (lookup (same_position (owned_position owner)) entries) (no_position (owned_position owner))))

-- and once an order was filled so whose owner is known, or is not
abbrev pub entries_filled : Fill → List (Position × PositionRow) → Option Owner → List (Position × PositionRow)
entries_filled f entries owner = option_map_or (λ (o : Owner). position_entries_with o f entries) owner entries

-- and once this side of a fill was executed
abbrev pub entries_after : List (Position × PositionRow) → Execution → List (Position × PositionRow)
entries_after entries e = position_entries_with (owner_of e.order) e.fill entries

-- the rows of what was executed, by what they are of
abbrev pub table_of : List Execution → List (Position × PositionRow)
table_of made = map {B = Position × PositionRow} (λ (p : Position). (p, position_row made p)) (once same_position (map position_of made))

-- of what was executed by the records
abbrev pub position_table : PolicyData → List RecordData → List (Position × PositionRow)
position_table policy records = table_of (executions policy records)

-- the record's order is known too, and its fill is noted
pub record AreNotedSo (policy : PolicyData) (r : RecordData) (known : List Order) (owners : Owners) (before after : List (Position × PositionRow)) : Type 0 where
  pub knows : KnowOrders owners (known ++ orders_added policy known r)
  pub rows : after ≡ fold entries_after before (sides_in known r.verdict)

-- of any orders that were known
abbrev pub NotePositions : PolicyData → RecordData → Owners → Owners → List (Position × PositionRow) → List (Position × PositionRow) → Type 0
NotePositions policy r old new before after = (known : List Order) → KnowOrders old known → AreNotedSo policy r known new before after

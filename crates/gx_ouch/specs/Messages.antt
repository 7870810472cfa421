-- The messages of OUCH 4.2, as in the standard's tables: type, length, and the offset and length of each field.
use Rattle.std.specs.Prelude.{List, [], ◌∷◌, ◌++◌}
use Rattle.gx_ouch.specs.Layout.{Field, Layout, field}

-- Enter Order, `O`
abbrev pub enter_order : Layout
enter_order = record {
  kind = 79;
  size = 49;
  fields =
      field 1 14 ∷  -- Order Token
      field 15 1 ∷  -- Buy/Sell Indicator
      field 16 4 ∷  -- Shares
      field 20 8 ∷  -- Stock
      field 28 4 ∷  -- Price
      field 32 4 ∷  -- Time in Force
      field 36 4 ∷  -- Firm
      field 40 1 ∷  -- Display
      field 41 1 ∷  -- Capacity
      field 42 1 ∷  -- Intermarket Sweep Eligibility
      field 43 4 ∷  -- Minimum Quantity
      field 47 1 ∷  -- Cross Type
      field 48 1 ∷  -- Customer Type
      [];
}

-- Replace Order, `U`
abbrev pub replace_order : Layout
replace_order = record {
  kind = 85;
  size = 47;
  fields =
      field 1 14 ∷  -- Existing Order Token
      field 15 14 ∷  -- Replacement Order Token
      field 29 4 ∷  -- Shares
      field 33 4 ∷  -- Price
      field 37 4 ∷  -- Time in Force
      field 41 1 ∷  -- Display
      field 42 1 ∷  -- Intermarket Sweep Eligibility
      field 43 4 ∷  -- Minimum Quantity
      [];
}

-- Cancel Order, `X`
abbrev pub cancel_order : Layout
cancel_order = record {
  kind = 88;
  size = 19;
  fields =
      field 1 14 ∷  -- Order Token
      field 15 4 ∷  -- Shares
      [];
}

-- System Event, `S`
abbrev pub system_event : Layout
system_event = record {
  kind = 83;
  size = 10;
  fields =
      field 1 8 ∷  -- Timestamp
      field 9 1 ∷  -- Event Code
      [];
}

-- what Accepted and Replaced say alike of an order
abbrev pub order_fields : List Field
order_fields =
    field 23 1 ∷  -- Buy/Sell Indicator
    field 24 4 ∷  -- Shares
    field 28 8 ∷  -- Stock
    field 36 4 ∷  -- Price
    field 40 4 ∷  -- Time in Force
    field 44 4 ∷  -- Firm
    field 48 1 ∷  -- Display
    field 49 8 ∷  -- Order Reference Number
    field 57 1 ∷  -- Capacity
    field 58 1 ∷  -- Intermarket Sweep Eligibility
    field 59 4 ∷  -- Minimum Quantity
    field 63 1 ∷  -- Cross Type
    field 64 1 ∷  -- Order State
    []

-- Accepted, `A`
abbrev pub accepted_layout : Layout
accepted_layout = record {
  kind = 65;
  size = 66;
  fields =
      field 1 8 ∷  -- Timestamp
      field 9 14 ∷  -- Order Token
      order_fields ++
      field 65 1 ∷  -- BBO Weight Indicator
      [];
}

-- Replaced, `U`
abbrev pub replaced_layout : Layout
replaced_layout = record {
  kind = 85;
  size = 80;
  fields =
      field 1 8 ∷  -- Timestamp
      field 9 14 ∷  -- Replacement Order Token
      order_fields ++
      field 65 14 ∷  -- Previous Order Token
      field 79 1 ∷  -- BBO Weight Indicator
      [];
}

-- Canceled, `C`
abbrev pub canceled_layout : Layout
canceled_layout = record {
  kind = 67;
  size = 28;
  fields =
      field 1 8 ∷  -- Timestamp
      field 9 14 ∷  -- Order Token
      field 23 4 ∷  -- Decrement Shares
      field 27 1 ∷  -- Reason
      [];
}

-- Executed, `E`
abbrev pub executed_layout : Layout
executed_layout = record {
  kind = 69;
  size = 40;
  fields =
      field 1 8 ∷  -- Timestamp
      field 9 14 ∷  -- Order Token
      field 23 4 ∷  -- Executed Shares
      field 27 4 ∷  -- Execution Price
      field 31 1 ∷  -- Liquidity Flag
      field 32 8 ∷  -- Match Number
      [];
}

-- Rejected, `J`
abbrev pub rejected_layout : Layout
rejected_layout = record {
  kind = 74;
  size = 24;
  fields =
      field 1 8 ∷  -- Timestamp
      field 9 14 ∷  -- Order Token
      field 23 1 ∷  -- Reason
      [];
}

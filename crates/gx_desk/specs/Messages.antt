-- The messages from officers, and to officers and readers: type, length, and the offset and length of each field.
use Rattle.std.specs.Prelude.{ℕ, [], ◌∷◌, ◌++◌}
use Rattle.gx_ouch.specs.{Layout.{Layout, field}, Messages.executed_layout}

-- a command about an account: Kill and Lift
abbrev pub account_command : ℕ → Layout
account_command kind = record {
  kind = kind;
  size = 23;
  fields =
      field 1 14 ∷  -- tag
      field 15 8 ∷  -- account
      [];
}

-- a command about a rule: Set Limit, Restrict and Unrestrict
abbrev pub rule_command : ℕ → Layout
rule_command kind = record {
  kind = kind;
  size = 31;
  fields =
      field 1 14 ∷  -- tag
      field 15 8 ∷  -- rule
      field 23 8 ∷  -- limit, or stock
      [];
}

-- a command about a reader: Grant and Revoke
abbrev pub reader_command : ℕ → Layout
reader_command kind = record {
  kind = kind;
  size = 29;
  fields =
      field 1 14 ∷  -- tag
      field 15 6 ∷  -- reader
      field 21 8 ∷  -- account
      [];
}

-- Kill `K`, Lift `L`, Set Limit `M`, Restrict `R`, Unrestrict `N`, Grant `G`, Revoke `V`
abbrev pub kill : Layout
kill = account_command 75

abbrev pub lift : Layout
lift = account_command 76

abbrev pub set_limit : Layout
set_limit = rule_command 77

abbrev pub restrict : Layout
restrict = rule_command 82

abbrev pub unrestrict : Layout
unrestrict = rule_command 78

abbrev pub grant : Layout
grant = reader_command 71

abbrev pub revoke : Layout
revoke = reader_command 86

-- Close Day, `Z`
abbrev pub close_day : Layout
close_day = record {
  kind = 90;
  size = 15;
  fields = field 1 14 ∷  -- tag
      [];
}

-- Answer, `Q`
abbrev pub answer : Layout
answer = record {
  kind = 81;
  size = 34;
  fields =
      field 1 8 ∷  -- timestamp
      field 9 14 ∷  -- tag
      field 23 1 ∷  -- command type
      field 24 2 ∷  -- code
      field 26 8 ∷  -- record number
      [];
}

-- drop copy: that side's Executed, and what only a reader is told
abbrev pub drop_copy : Layout
drop_copy = record {
  kind = executed_layout.kind;
  size = 49;
  fields =
      executed_layout.fields ++
      field 40 8 ∷  -- account
      field 48 1 ∷  -- side of the order
      [];
}

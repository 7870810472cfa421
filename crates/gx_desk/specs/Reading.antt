-- The command that some bytes are. Numbers are unsigned, the highest byte first.
use Rattle.std.specs.{Prelude.{ℕ, ◌≡◌, List, [], ◌∷◌, Option, Some, None, slice_index, if◌then◌else◌}, Int.{w64, from_be_bytes}}
use Rattle.gx_units.specs.declared.names.{AccountName.AccountName, RuleId.RuleId, Symbol.Symbol}
use Rattle.gx_ouch.specs.Layout.{is_of, field_bytes}
use Rattle.gx_desk.specs.{declared.{Action.Action, Command.Command, WrittenName.WrittenName}, Names.command_type, Messages.{kill, lift, set_limit, restrict, unrestrict, grant, revoke, close_day}}

-- what is asked for under this tag
abbrev pub tagged_command : List ℕ → Action → Command
tagged_command tag action = record { tag = record { bytes = tag }; action = action }

-- the command about an account, of these fields
abbrev pub account_command_of : (AccountName → Action) → List (List ℕ) → Option Command
account_command_of asks (tag ∷ account ∷ []) = Some (tagged_command tag (asks (record { bytes = account })))
account_command_of asks _ = None

-- Set Limit, of these fields
abbrev pub limit_command_of : List (List ℕ) → Option Command
limit_command_of (tag ∷ rule ∷ limit ∷ []) =
    Some (tagged_command tag (Action.SetLimit (record { bytes = rule }) (from_be_bytes w64 limit)))
limit_command_of _ = None

-- the command about a rule's stocks, of these fields
abbrev pub stock_command_of : (RuleId → Symbol → Action) → List (List ℕ) → Option Command
stock_command_of asks (tag ∷ rule ∷ stock ∷ []) =
    Some (tagged_command tag (asks (record { bytes = rule }) (record { bytes = stock })))
stock_command_of asks _ = None

-- the command about a reader, of these fields
abbrev pub reader_command_of : (WrittenName → AccountName → Action) → List (List ℕ) → Option Command
reader_command_of asks (tag ∷ reader ∷ account ∷ []) =
    Some (tagged_command tag (asks (record { bytes = reader }) (record { bytes = account })))
reader_command_of asks _ = None

-- Close Day, of its one field
abbrev pub close_of : List (List ℕ) → Option Command
close_of (tag ∷ []) = Some (tagged_command tag Action.CloseDay)
close_of _ = None

-- the command whose type and length are those of the bytes, with the fields that stand at its places
unfoldable pub command_of : List ℕ → Option Command
command_of bytes =
    if is_of kill bytes then account_command_of Action.Kill (field_bytes kill bytes)
    else (if is_of lift bytes then account_command_of Action.Lift (field_bytes lift bytes)
    else (if is_of set_limit bytes then limit_command_of (field_bytes set_limit bytes)
    else (if is_of restrict bytes then stock_command_of Action.Restrict (field_bytes restrict bytes)
    else (if is_of unrestrict bytes then stock_command_of Action.Unrestrict (field_bytes unrestrict bytes)
    else (if is_of grant bytes then reader_command_of Action.Grant (field_bytes grant bytes)
    else (if is_of revoke bytes then reader_command_of Action.Revoke (field_bytes revoke bytes)
    else (if is_of close_day bytes then close_of (field_bytes close_day bytes)
    else None)))))))

-- the type of a command that was read is the first byte
abbrev pub KeepTheirType : Type 0
KeepTheirType = (bytes : List ℕ) (c : Command) → command_of bytes ≡ Some c → command_type c.action ≡ slice_index bytes 0

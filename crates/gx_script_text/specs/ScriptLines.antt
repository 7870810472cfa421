-- What a line of a script means.
use Rattle.std.specs.Prelude.{ℕ, ◌-◌, Bool, ◌&&◌, ◌||◌, ◌==◌, nat_lt, if◌then◌else◌, List, length, take, codes, bytes_eq, slice_index, Option, Some, None, option_map, IsTrue}
use Rattle.gx_units.specs.declared.names.{AccountName.AccountName, RuleId.RuleId, Symbol.Symbol, UserName.UserName}
use Rattle.gx_desk.specs.declared.{Action.Action, Command.Command, Tag.Tag, WrittenName.WrittenName}
use Rattle.gx_ouch.specs.declared.inbound.{EnterOrder.EnterOrder, ReplaceOrder.ReplaceOrder}
use Rattle.gx_history.specs.{Payloads.request_of, Showing.has_its_first}
use Rattle.gx_script_text.specs.{declared.line.{ScriptStep.ScriptStep, ScriptLine.{ScriptLine, TheVariants.{Skipped, Step, Match, Settle, Stream}}}, Words.{◌>>=◌, words_of, first, alone, is_done, itself, is_empty, padded_name, user_of, number_of_bits, byte_of, bytes_of}}

-- `PASSWORD NUMBER`: the first report wanted, 0 for the last one
unfoldable pub login_form : List (List ℕ) → Option ScriptStep
login_form words = do
  given ← first (padded_name 10) words
  wanted ← first (number_of_bits 64) given.1
  alone (ScriptStep.Login (record { bytes = given.0 }) wanted.0) wanted.1

-- an order with a blank firm, displayed, by an agency, in no sweep, of any quantity, in no cross, for no retail customer
abbrev pub plain_order : List ℕ → ℕ → ℕ → List ℕ → ℕ → ℕ → EnterOrder
plain_order token side shares stock price time_in_force = record {
  token = record { bytes = token };
  side = side;
  shares = shares;
  stock = record { bytes = stock };
  price = price;
  time_in_force = time_in_force;
  firm = record { bytes = codes "    " };
  display = 89;
  capacity = 65;
  intermarket_sweep = 78;
  minimum_quantity = 0;
  cross_type = 78;
  customer_type = 78;
}

-- `TOKEN SIDE SHARES STOCK PRICE TIF`
unfoldable pub enter_form : List (List ℕ) → Option ScriptStep
enter_form words = do
  token ← first (padded_name 14) words
  side ← first byte_of token.1
  shares ← first (number_of_bits 32) side.1
  stock ← first (padded_name 8) shares.1
  price ← first (number_of_bits 32) stock.1
  time_in_force ← first (number_of_bits 32) price.1
  alone (ScriptStep.Enter (plain_order token.0 side.0 shares.0 stock.0 price.0 time_in_force.0)) time_in_force.1

-- what is asked for in the place of an order: displayed, in no sweep, of any quantity
abbrev pub plain_replace : (old new : List ℕ) → ℕ → ℕ → ℕ → ReplaceOrder
plain_replace old new shares price time_in_force = record {
  existing_token = record { bytes = old };
  replacement_token = record { bytes = new };
  shares = shares;
  price = price;
  time_in_force = time_in_force;
  display = 89;
  intermarket_sweep = 78;
  minimum_quantity = 0;
}

-- `OLD NEW SHARES PRICE TIF`
unfoldable pub replace_form : List (List ℕ) → Option ScriptStep
replace_form words = do
  old ← first (padded_name 14) words
  new ← first (padded_name 14) old.1
  shares ← first (number_of_bits 32) new.1
  price ← first (number_of_bits 32) shares.1
  time_in_force ← first (number_of_bits 32) price.1
  alone (ScriptStep.Replace (plain_replace old.0 new.0 shares.0 price.0 time_in_force.0)) time_in_force.1

-- `TOKEN SHARES`: the shares are the new size of the order
unfoldable pub cancel_form : List (List ℕ) → Option ScriptStep
cancel_form words = do
  token ← first (padded_name 14) words
  shares ← first (number_of_bits 32) token.1
  alone (ScriptStep.Cancel (record { token = record { bytes = token.0 }; shares = shares.0 })) shares.1

-- `TAG ACCOUNT`
unfoldable pub account_form : List (List ℕ) → Option (Tag × AccountName)
account_form words = do
  tag ← first (padded_name 14) words
  account ← first (padded_name 8) tag.1
  alone (record { bytes = tag.0 }, record { bytes = account.0 }) account.1

-- `TAG RULE VALUE`
unfoldable pub limit_form : List (List ℕ) → Option (Tag × (RuleId × ℕ))
limit_form words = do
  tag ← first (padded_name 14) words
  rule ← first (padded_name 8) tag.1
  limit ← first (number_of_bits 64) rule.1
  alone (record { bytes = tag.0 }, (record { bytes = rule.0 }, limit.0)) limit.1

-- `TAG RULE STOCK`
unfoldable pub stock_form : List (List ℕ) → Option (Tag × (RuleId × Symbol))
stock_form words = do
  tag ← first (padded_name 14) words
  rule ← first (padded_name 8) tag.1
  stock ← first (padded_name 8) rule.1
  alone (record { bytes = tag.0 }, (record { bytes = rule.0 }, record { bytes = stock.0 })) stock.1

-- `TAG READER ACCOUNT`: the reader as he is written, in either case of letters
unfoldable pub reader_form : List (List ℕ) → Option (Tag × (WrittenName × AccountName))
reader_form words = do
  tag ← first (padded_name 14) words
  reader ← first (padded_name 6) tag.1
  account ← first (padded_name 8) reader.1
  alone (record { bytes = tag.0 }, (record { bytes = reader.0 }, record { bytes = account.0 })) account.1

-- `TAG`: Close Day
unfoldable pub close_form : List (List ℕ) → Option Command
close_form words = do
  tag ← first (padded_name 14) words
  alone (record { tag = record { bytes = tag.0 }; action = Action.CloseDay }) tag.1

-- what is asked for under the tag, of what else is named
abbrev pub command_under : {A : Type 0} → (A → Action) → Option (Tag × A) → Option Command
command_under action = option_map (λ named. record { tag = named.0; action = action named.1 })

-- what is asked for of two names
abbrev pub of_both : {A B : Type 0} → (A → B → Action) → A × B → Action
of_both action named = action named.0 named.1

-- the command that the word names, of the words behind it
unfoldable pub command_form : List ℕ → List (List ℕ) → Option Command
command_form name words =
    if bytes_eq name (codes "kill") then command_under Action.Kill (account_form words)
    else (if bytes_eq name (codes "lift") then command_under Action.Lift (account_form words)
    else (if bytes_eq name (codes "limit") then command_under (of_both Action.SetLimit) (limit_form words)
    else (if bytes_eq name (codes "restrict") then command_under (of_both Action.Restrict) (stock_form words)
    else (if bytes_eq name (codes "unrestrict") then command_under (of_both Action.Unrestrict) (stock_form words)
    else (if bytes_eq name (codes "grant") then command_under (of_both Action.Grant) (reader_form words)
    else (if bytes_eq name (codes "revoke") then command_under (of_both Action.Revoke) (reader_form words)
    else (if bytes_eq name (codes "close") then close_form words
    else None)))))))

-- `HEX`: what these bytes ask for as the payload of Unsequenced Data
unfoldable pub raw_form : List (List ℕ) → Option ScriptStep
raw_form words = do
  payload ← first bytes_of words
  alone (ScriptStep.Raw (request_of payload.0)) payload.1

-- the form that the word names, of the words behind it: a command's, where no other has this name
unfoldable pub step_form : List ℕ → List (List ℕ) → Option ScriptStep
step_form name words =
    if bytes_eq name (codes "login") then login_form words
    else (if bytes_eq name (codes "logout") then alone ScriptStep.Logout words
    else (if bytes_eq name (codes "enter") then enter_form words
    else (if bytes_eq name (codes "replace") then replace_form words
    else (if bytes_eq name (codes "cancel") then cancel_form words
    else (if bytes_eq name (codes "raw") then raw_form words
    else option_map ScriptStep.Command (command_form name words))))))

-- what the user asks for at this moment, by the words behind the name
unfoldable pub user_line : ℕ → UserName → List (List ℕ) → Option ScriptLine
user_line moment user words = do
  name ← first itself words
  step ← step_form name.0 name.1
  Some (Step moment user step)

-- `USER ..`, USER being the first word: what the user asks for at this moment
unfoldable pub asked_line : ℕ → List ℕ → List (List ℕ) → Option ScriptLine
asked_line moment word words = do
  user ← user_of word
  user_line moment user words

-- `match`, `settle` or `USER ..` at this moment; a user of either name is one where more words follow
unfoldable pub timed_line : ℕ → List (List ℕ) → Option ScriptLine
timed_line moment words = do
  name ← first itself words
  if is_done name.1 && bytes_eq name.0 (codes "match") then Some (Match moment)
      else (if is_done name.1 && bytes_eq name.0 (codes "settle") then Some (Settle moment)
      else asked_line moment name.0 name.1)

-- `M match`, `M settle` or `M USER ..`, M being the first word
unfoldable pub step_line : List ℕ → List (List ℕ) → Option ScriptLine
step_line word words = do
  moment ← number_of_bits 64 word
  timed_line moment words

-- `match` or `settle` at this moment, by the word in its field of six bytes
unfoldable pub last_line : ℕ → List ℕ → Option ScriptLine
last_line moment field =
    if bytes_eq field (codes "match ") then Some (Match moment)
    else (if bytes_eq field (codes "settle") then Some (Settle moment)
    else None)

-- `stream USER`, without its first word
unfoldable pub stream_line : List (List ℕ) → Option ScriptLine
stream_line words = do
  user ← first user_of words
  alone (Stream user.0) user.1

-- a line by its words
unfoldable pub line_of_words : List (List ℕ) → Option ScriptLine
line_of_words words = do
  word ← first itself words
  if bytes_eq word.0 (codes "stream") then stream_line word.1 else step_line word.0 word.1

-- the line without the CR that may stand at its end
abbrev pub without_cr : List ℕ → List ℕ
without_cr line = if slice_index line (length line - 1) == 13 then take (length line - 1) line else line

-- more bytes than a line may have
abbrev pub is_too_long : List ℕ → Bool
is_too_long line = nat_lt 1024 (length (without_cr line))

-- an empty line, or a comment: it begins with `#`
abbrev pub is_skipped : List ℕ → Bool
is_skipped line = is_empty line || slice_index line 0 == 35

abbrev pub line_within : List ℕ → Option ScriptLine
line_within line = if is_skipped line then Some Skipped else line_of_words (words_of line)

-- what a line means, or None where it is bad: its bytes without the LF, at most 1,024 without the CR at its end
unfoldable pub script_line : List ℕ → Option ScriptLine
script_line line = if is_too_long line then None else line_within (without_cr line)

-- a request that can be put to the gate
abbrev pub IsAskable : ScriptStep → Type 0
IsAskable (ScriptStep.Raw request) = IsTrue (has_its_first request)
IsAskable (ScriptStep.Login given wanted) = Unit {0}
IsAskable ScriptStep.Logout = Unit {0}
IsAskable (ScriptStep.Enter order) = Unit {0}
IsAskable (ScriptStep.Replace order) = Unit {0}
IsAskable (ScriptStep.Cancel order) = Unit {0}
IsAskable (ScriptStep.Command command) = Unit {0}

abbrev pub IsAskableLine : ScriptLine → Type 0
IsAskableLine (Step moment user step) = IsAskable step
IsAskableLine Skipped = Unit {0}
IsAskableLine (Match moment) = Unit {0}
IsAskableLine (Settle moment) = Unit {0}
IsAskableLine (Stream user) = Unit {0}

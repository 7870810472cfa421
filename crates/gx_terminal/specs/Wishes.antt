-- What the words of a line ask for.
use Rattle.std.specs.Prelude.{ℕ, ◌+◌, Bool, ◌==◌, if◌then◌else◌, List, [], ◌∷◌, ◌++◌, drop, codes, bytes_eq, slice_index, Option, Some, None, is_some, Result, Ok, Err}
use Rattle.gx_units.specs.declared.names.{AccountName.AccountName, RuleId.RuleId, Symbol.Symbol, Token.Token}
use Rattle.gx_desk.specs.declared.{Action.Action, Command.Command, Tag.Tag, WrittenName.WrittenName}
use Rattle.gx_ouch.specs.declared.inbound.{EnterOrder.EnterOrder, ReplaceOrder.ReplaceOrder, Inbound.Inbound}
use Rattle.gx_history.specs.OuchValues.{side_buy, side_sell, immediate_or_cancel, system_hours}
use Rattle.gx_script_text.specs.{Words.{padded_name, number_of_bits, itself}, ScriptLines.{without_cr, plain_order, plain_replace}}
use Rattle.gx_terminal.specs.{declared.{wrong.{ExpectedInput.ExpectedInput, WrongWord.WrongWord}, wish.{Side.Side, Lifetime.Lifetime, NewOrder.NewOrder, NewTerms.NewTerms, Wish.Wish}}, Cursor.{Left, left_of, words_between, wrong_at, ◌>>=◌, word_meaning, next_word, next_or, value_at_end}, Prices.price_of, Amounts.limit_typed}

-- the wish, where no word is left; else a Kill of each account, where each word that is left is one
unfoldable pub with_more : Wish → ℕ → List (List ℕ) → Result Wish WrongWord
with_more kill taken [] = Ok kill
with_more kill taken (word ∷ words) =
    if is_some (padded_name 8 word) then with_more Wish.KillEach (taken + 1) words
    else Err (wrong_at (taken + 1) ExpectedInput.Account)

-- a Kill of the account that the word taken is, and of those behind it
abbrev pub accounts_wish : List ℕ → Left → Result Wish WrongWord
accounts_wish word left = do
  account ← word_meaning ExpectedInput.AccountOrAll (padded_name 8 word) left
  with_more (Wish.Ask (Action.Kill (record { bytes = account.0 }))) account.1.taken account.1.words

-- `ACCOUNT`, `ACCOUNT ACCOUNT ..`, or `--all`
unfoldable pub kill_wish : Left → Result Wish WrongWord
kill_wish left = do
  word ← next_word ExpectedInput.AccountOrAll itself left
  if bytes_eq word.0 (codes "--all") then value_at_end Wish.KillAll word.1 else accounts_wish word.0 word.1

-- the account that a word is, if it is one
abbrev pub account_in : Option (List ℕ) → List AccountName
account_in None = []
account_in (Some bytes) = record { bytes = bytes } ∷ []

unfoldable pub accounts_in : List (List ℕ) → List AccountName
accounts_in [] = []
accounts_in (word ∷ words) = account_in (padded_name 8 word) ++ accounts_in words

-- the accounts that a line names behind its first word
abbrev pub accounts_named : List ℕ → List AccountName
accounts_named line = accounts_in (drop 1 (words_between (without_cr line)))

-- `ACCOUNT`
unfoldable pub lift_wish : Left → Result Wish WrongWord
lift_wish left = do
  account ← next_word ExpectedInput.Account (padded_name 8) left
  value_at_end (Wish.Ask (Action.Lift (record { bytes = account.0 }))) account.1

-- `RULE VALUE`
unfoldable pub limit_wish : Left → Result Wish WrongWord
limit_wish left = do
  rule ← next_word ExpectedInput.Rule (padded_name 8) left
  limit ← next_word ExpectedInput.Value limit_typed rule.1
  value_at_end (Wish.Limit (record { bytes = rule.0 }) limit.0) limit.1

-- `RULE STOCK`
unfoldable pub stock_wish : Left → Result (RuleId × Symbol) WrongWord
stock_wish left = do
  rule ← next_word ExpectedInput.Rule (padded_name 8) left
  stock ← next_word ExpectedInput.Stock (padded_name 8) rule.1
  value_at_end (record { bytes = rule.0 }, record { bytes = stock.0 }) stock.1

-- `READER ACCOUNT`: the reader as he is written, in either case of letters
unfoldable pub reader_wish : Left → Result (WrittenName × AccountName) WrongWord
reader_wish left = do
  reader ← next_word ExpectedInput.Reader (padded_name 6) left
  account ← next_word ExpectedInput.Account (padded_name 8) reader.1
  value_at_end (record { bytes = reader.0 }, record { bytes = account.0 }) account.1

-- `--yes`
unfoldable pub close_confirmed : List ℕ → Option Wish
close_confirmed word = if bytes_eq word (codes "--yes") then Some (Wish.Ask Action.CloseDay) else None

-- `--yes`: without it the day is not closed
unfoldable pub close_wish : Left → Result Wish WrongWord
close_wish left = do
  close ← next_word ExpectedInput.Yes close_confirmed left
  value_at_end close.0 close.1

-- the command of an officer that the word names, of the words behind it
unfoldable pub command_wish : List ℕ → Left → Result Wish WrongWord
command_wish name left =
    if bytes_eq name (codes "kill") then kill_wish left
    else (if bytes_eq name (codes "lift") then lift_wish left
    else (if bytes_eq name (codes "limit") then limit_wish left
    else (if bytes_eq name (codes "restrict") then (stock_wish left >>= λ named. Ok (Wish.Ask (Action.Restrict named.0 named.1)))
    else (if bytes_eq name (codes "unrestrict") then (stock_wish left >>= λ named. Ok (Wish.Ask (Action.Unrestrict named.0 named.1)))
    else (if bytes_eq name (codes "grant") then (reader_wish left >>= λ named. Ok (Wish.Ask (Action.Grant named.0 named.1)))
    else (if bytes_eq name (codes "revoke") then (reader_wish left >>= λ named. Ok (Wish.Ask (Action.Revoke named.0 named.1)))
    else (if bytes_eq name (codes "close") then close_wish left
    else Err (wrong_at left.taken ExpectedInput.Form))))))))

-- `day`: the order rests until the day is closed; `ioc`: what is not executed at once is canceled
abbrev pub lifetime_of : List ℕ → Option Lifetime
lifetime_of word =
    if bytes_eq word (codes "day") then Some Lifetime.Day
    else (if bytes_eq word (codes "ioc") then Some Lifetime.ImmediateOrCancel
    else None)

-- `SHARES STOCK PRICE`, and `day` or `ioc`; without either it is `day`
unfoldable pub enter_wish : Side → Left → Result Wish WrongWord
enter_wish side left = do
  shares ← next_word ExpectedInput.Shares (number_of_bits 32) left
  stock ← next_word ExpectedInput.Stock (padded_name 8) shares.1
  price ← next_word ExpectedInput.Price price_of stock.1
  lifetime ← next_or Lifetime.Day ExpectedInput.Lifetime lifetime_of price.1
  value_at_end (Wish.Enter (record { side = side; shares = shares.0; stock = record { bytes = stock.0 }; price = price.0; lifetime = lifetime.0 })) lifetime.1

-- `TOKEN SHARES PRICE`, and `day` or `ioc`; without either it is `day`
unfoldable pub replace_wish : Left → Result Wish WrongWord
replace_wish left = do
  token ← next_word ExpectedInput.Token (padded_name 14) left
  shares ← next_word ExpectedInput.Shares (number_of_bits 32) token.1
  price ← next_word ExpectedInput.Price price_of shares.1
  lifetime ← next_or Lifetime.Day ExpectedInput.Lifetime lifetime_of price.1
  value_at_end (Wish.Replace (record { token = record { bytes = token.0 }; shares = shares.0; price = price.0; lifetime = lifetime.0 })) lifetime.1

-- `TOKEN`, and the new size of the order; without it nothing stays open
unfoldable pub cancel_wish : Left → Result Wish WrongWord
cancel_wish left = do
  token ← next_word ExpectedInput.Token (padded_name 14) left
  shares ← next_or 0 ExpectedInput.Shares (number_of_bits 32) token.1
  value_at_end (Wish.Cancel (record { token = record { bytes = token.0 }; shares = shares.0 })) shares.1

-- what a trader asks for, or else the command of an officer
unfoldable pub order_form : List ℕ → Left → Result Wish WrongWord
order_form name left =
    if bytes_eq name (codes "buy") then enter_wish Side.Buy left
    else (if bytes_eq name (codes "sell") then enter_wish Side.Sell left
    else (if bytes_eq name (codes "replace") then replace_wish left
    else (if bytes_eq name (codes "cancel") then cancel_wish left
    else command_wish name left)))

-- what the word names, of the words behind it
unfoldable pub wish_form : List ℕ → Left → Result Wish WrongWord
wish_form name left =
    if bytes_eq name (codes "watch") then value_at_end Wish.Watch left
    else (if bytes_eq name (codes "help") then value_at_end Wish.Help left
    else (if bytes_eq name (codes "quit") then value_at_end Wish.Quit left
    else order_form name left))

-- a first word that makes its line a comment begins with `#`
abbrev pub is_comment : List ℕ → Bool
is_comment word = slice_index word 0 == 35

-- a line by its words
abbrev pub wish_of_words : List (List ℕ) → Result Wish WrongWord
wish_of_words [] = Ok Wish.Nothing
wish_of_words (word ∷ words) = if is_comment word then Ok Wish.Nothing else wish_form word (left_of 1 words)

-- what a line asks for, its bytes without the LF; or which of its words is wrong, and what was wanted there
unfoldable pub wish_of : List ℕ → Result Wish WrongWord
wish_of line = wish_of_words (words_between (without_cr line))

-- the command that is wished, under this tag
abbrev pub command_wished : Tag → Wish → Option Command
command_wished tag (Wish.Ask action) = Some (record { tag = tag; action = action })
command_wished tag (Wish.Limit rule limit) = Some (record { tag = tag; action = Action.SetLimit rule limit.amount })
command_wished tag Wish.Nothing = None
command_wished tag Wish.KillAll = None
command_wished tag Wish.KillEach = None
command_wished tag (Wish.Enter order) = None
command_wished tag (Wish.Replace order) = None
command_wished tag (Wish.Cancel order) = None
command_wished tag Wish.Watch = None
command_wished tag Wish.Help = None
command_wished tag Wish.Quit = None

-- the Buy/Sell Indicator
abbrev pub indicator_of : Side → ℕ
indicator_of Side.Buy = side_buy
indicator_of Side.Sell = side_sell

-- the Time in Force
abbrev pub time_in_force_of : Lifetime → ℕ
time_in_force_of Lifetime.Day = system_hours
time_in_force_of Lifetime.ImmediateOrCancel = immediate_or_cancel

-- the new order under this token
abbrev pub wished_order : Token → NewOrder → EnterOrder
wished_order token order =
    plain_order token.bytes (indicator_of order.side) order.shares order.stock.bytes order.price (time_in_force_of order.lifetime)

-- the order of these terms under this token, in the place of another
abbrev pub wished_replace : Token → NewTerms → ReplaceOrder
wished_replace token terms =
    plain_replace terms.token.bytes token.bytes terms.shares terms.price (time_in_force_of terms.lifetime)

-- the message of a trader that is wished, a new order under this token
abbrev pub order_of : Token → Wish → Option Inbound
order_of token (Wish.Enter order) = Some (Inbound.Enter (wished_order token order))
order_of token (Wish.Replace terms) = Some (Inbound.Replace (wished_replace token terms))
order_of token (Wish.Cancel order) = Some (Inbound.Cancel order)
order_of token (Wish.Ask action) = None
order_of token (Wish.Limit rule limit) = None
order_of token Wish.Nothing = None
order_of token Wish.KillAll = None
order_of token Wish.KillEach = None
order_of token Wish.Watch = None
order_of token Wish.Help = None
order_of token Wish.Quit = None

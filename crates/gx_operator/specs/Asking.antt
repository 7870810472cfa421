-- What is asked of the gate, and under which serials.
use Rattle.std.specs.Prelude.{ℕ, ◌+◌, ◌*◌, ◌/◌, ◌%◌, min, List, [], ◌∷◌, Option, Some, None}
use Rattle.gx_units.specs.declared.names.AccountName.{AccountName}
use Rattle.gx_desk.specs.declared.{Action.Action, Command.Command}
use Rattle.gx_ouch.specs.declared.inbound.Inbound.{Inbound}
use Rattle.gx_soup.specs.Login.{greatest}
use Rattle.gx_client.specs.Sending.{CarriesCommand, CarriesInbound}
use Rattle.gx_terminal.specs.{declared.wish.Wish.Wish, Wishes.{command_wished, order_of}}
use Rattle.gx_operator.specs.declared.asked.ClientRequest.{ClientRequest}

-- the digit of a number whose unit this is
abbrev pub digit_of : ℕ → ℕ → ℕ
digit_of number unit = 48 + number / unit % 10

-- the number in 14 digits: the tag of a command, or the token of an order
unfoldable pub serial_of : ℕ → List ℕ
serial_of number =
    digit_of number 10000000000000 ∷ digit_of number 1000000000000 ∷ digit_of number 100000000000 ∷ digit_of number 10000000000
    ∷ digit_of number 1000000000 ∷ digit_of number 100000000 ∷ digit_of number 10000000 ∷ digit_of number 1000000
    ∷ digit_of number 100000 ∷ digit_of number 10000 ∷ digit_of number 1000 ∷ digit_of number 100 ∷ digit_of number 10
    ∷ digit_of number 1 ∷ []

-- the first serial of a run that began so many milliseconds past midnight: a million of them are its own
abbrev pub first_of : ℕ → ℕ
first_of start = start * 1000000

abbrev pub either : Option Command → Option Inbound → Option ClientRequest
either (Some command) order = Some (ClientRequest.Command command)
either None (Some order) = Some (ClientRequest.Order order)
either None None = None

-- the command or the order that is wished, under the serial of this number
abbrev pub request_wished : ℕ → Wish → Option ClientRequest
request_wished number wish =
    either (command_wished (record { bytes = serial_of number }) wish) (order_of (record { bytes = serial_of number }) wish)

-- a Kill of the account, under the serial of this number
abbrev pub kill_of : ℕ → AccountName → ClientRequest
kill_of number account = ClientRequest.Command (record { tag = record { bytes = serial_of number }; action = Action.Kill account })

abbrev pub account_killed : Action → Option AccountName
account_killed (Action.Kill account) = Some account
account_killed (Action.Lift account) = None
account_killed (Action.SetLimit rule limit) = None
account_killed (Action.Restrict rule stock) = None
account_killed (Action.Unrestrict rule stock) = None
account_killed (Action.Grant reader account) = None
account_killed (Action.Revoke reader account) = None
account_killed Action.CloseDay = None

-- the account that a request asks to kill, if it is a Kill
abbrev pub killed_account : ClientRequest → Option AccountName
killed_account (ClientRequest.Command command) = account_killed command.action
killed_account (ClientRequest.Order order) = None

-- the serial behind this one
abbrev pub next_serial : ℕ → ℕ
next_serial number = min (number + 1) greatest

-- a Kill of each account, in this order, the first under the serial of this number, and each under the serial behind the one before
unfoldable pub kills_of : ℕ → List AccountName → List ClientRequest
kills_of number [] = []
kills_of number (account ∷ rest) = kill_of number account ∷ kills_of (next_serial number) rest

-- one packet, in which what was asked is read
abbrev pub Carries : List ℕ → ClientRequest → Type 0
Carries bytes (ClientRequest.Command command) = CarriesCommand bytes command
Carries bytes (ClientRequest.Order order) = CarriesInbound bytes order

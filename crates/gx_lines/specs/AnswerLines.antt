-- The line that an officer is shown of an answer to a command of his.
use Rattle.gx_desk.specs.{Names.command_word, declared.{Action.Action, Answer.Answer, AnswerCode.AnswerCode}, Messages.{kill, lift, set_limit, restrict, unrestrict, grant, revoke, close_day}, Writing.answer_code}
use Rattle.std.specs.Prelude.{ℕ, Bool, ◌&&◌, ◌==◌, if◌then◌else◌, List, [], ◌∷◌, ◌++◌, codes, decimal, Option, Some, None, unwrap_or}
use Rattle.gx_units.specs.Names.{has_no_lower_case}
use Rattle.gx_script_text.specs.Printing.{line_end}
use Rattle.gx_text.specs.{declared.{form.Form.{Form, TheVariants.{Text, Json}}, moments.Decimals.TheVariants.Nine}, Moments.moment_text, Shown.{shown_text, shown_name}}
use Rattle.gx_money.specs.Amounts.{dollars_text}
use Rattle.gx_lines.specs.{Showing.{text_field, name_field, json_number_field, json_line}, declared.limits.LimitForm.LimitForm}

-- a limit, as it is told
abbrev pub limit_text : LimitForm → ℕ → List ℕ
limit_text LimitForm.Number limit = decimal limit
limit_text LimitForm.Dollars limit = dollars_text limit
limit_text (LimitForm.DollarsFrom before) limit = dollars_text limit

-- an amount of money in the place of another
abbrev pub change_text : ℕ → ℕ → List ℕ
change_text before limit = dollars_text before ++ codes " -> " ++ dollars_text limit

abbrev pub limit_is_text : LimitForm → List ℕ → ℕ → List ℕ
limit_is_text told rule limit = shown_name rule ++ codes " limit is " ++ limit_text told limit

-- which limit a rule has now, and where it is told, which it had
abbrev pub limit_set_text : LimitForm → List ℕ → ℕ → List ℕ
limit_set_text LimitForm.Number rule limit = limit_is_text LimitForm.Number rule limit
limit_set_text LimitForm.Dollars rule limit = limit_is_text LimitForm.Dollars rule limit
limit_set_text (LimitForm.DollarsFrom before) rule limit = shown_name rule ++ codes " " ++ change_text before limit

-- what a granted command has done
unfoldable pub done_text : LimitForm → Action → List ℕ
done_text told (Action.Kill account) = shown_name account.bytes ++ codes " killed"
done_text told (Action.Lift account) = shown_name account.bytes ++ codes " lifted"
done_text told (Action.SetLimit rule limit) = limit_set_text told rule.bytes limit
done_text told (Action.Restrict rule stock) = shown_name rule.bytes ++ codes " lists " ++ shown_name stock.bytes
done_text told (Action.Unrestrict rule stock) =
    shown_name rule.bytes ++ codes " lists " ++ shown_name stock.bytes ++ codes " no longer"
done_text told (Action.Grant reader account) = shown_name reader.bytes ++ codes " sees " ++ shown_name account.bytes
done_text told (Action.Revoke reader account) =
    shown_name reader.bytes ++ codes " sees " ++ shown_name account.bytes ++ codes " no longer"
done_text told Action.CloseDay = codes "day closed"

-- what a Lift has done that leaves its account killed: no other command is answered so
unfoldable pub partly_text : LimitForm → Action → List ℕ
partly_text told (Action.Lift account) = shown_name account.bytes ++ codes " partly lifted"
partly_text told other = done_text told other ++ codes " in part"

-- a hint for who wrote a name of the policy in small letters
unfoldable pub capitals_hint : Bool → List ℕ
capitals_hint in_capitals = if in_capitals then [] else codes "; names are in capitals"

-- Q1: what the policy does not have
unfoldable pub unknown_text : Action → List ℕ
unknown_text (Action.Kill account) =
    codes "the policy has no account " ++ shown_name account.bytes ++ capitals_hint (has_no_lower_case account.bytes)
unknown_text (Action.Lift account) =
    codes "the policy has no account " ++ shown_name account.bytes ++ capitals_hint (has_no_lower_case account.bytes)
unknown_text (Action.SetLimit rule limit) =
    codes "the policy has no rule " ++ shown_name rule.bytes ++ codes " with a limit to set" ++ capitals_hint (has_no_lower_case rule.bytes)
unknown_text (Action.Restrict rule stock) =
    codes "the policy has no rule " ++ shown_name rule.bytes ++ codes " with a list, or no stock " ++ shown_name stock.bytes
    ++ capitals_hint (has_no_lower_case rule.bytes && has_no_lower_case stock.bytes)
unknown_text (Action.Unrestrict rule stock) =
    codes "the policy has no rule " ++ shown_name rule.bytes ++ codes " with a list, or no stock " ++ shown_name stock.bytes
    ++ capitals_hint (has_no_lower_case rule.bytes && has_no_lower_case stock.bytes)
unknown_text (Action.Grant reader account) =
    codes "the policy has no reader " ++ shown_name reader.bytes ++ codes ", or no account " ++ shown_name account.bytes
    ++ capitals_hint (has_no_lower_case account.bytes)
unknown_text (Action.Revoke reader account) =
    codes "the policy has no reader " ++ shown_name reader.bytes ++ codes ", or no account " ++ shown_name account.bytes
    ++ capitals_hint (has_no_lower_case account.bytes)
unknown_text Action.CloseDay = codes "a name is unknown"

-- the power, as a policy names it, that a command asks for
unfoldable pub power_word : Action → List ℕ
power_word (Action.Kill account) = codes "kill"
power_word (Action.Lift account) = codes "lift"
power_word (Action.SetLimit rule limit) = codes "limits"
power_word (Action.Restrict rule stock) = codes "symbols"
power_word (Action.Unrestrict rule stock) = codes "symbols"
power_word (Action.Grant reader account) = codes "people"
power_word (Action.Revoke reader account) = codes "people"
power_word Action.CloseDay = codes "close"

-- Q2: the power that is missing
unfoldable pub powerless_text : Action → List ℕ
powerless_text action = codes "you have not the power `" ++ power_word action ++ codes "`"

-- Q3: the account that is not the officer's
unfoldable pub foreign_text : Action → List ℕ
foreign_text (Action.Kill account) = shown_name account.bytes ++ codes " is not an account of yours"
foreign_text (Action.Lift account) = shown_name account.bytes ++ codes " is not an account of yours"
foreign_text (Action.SetLimit rule limit) = shown_name rule.bytes ++ codes " is for an account that is not yours"
foreign_text (Action.Restrict rule stock) = shown_name rule.bytes ++ codes " is for an account that is not yours"
foreign_text (Action.Unrestrict rule stock) = shown_name rule.bytes ++ codes " is for an account that is not yours"
foreign_text (Action.Grant reader account) = shown_name account.bytes ++ codes " is not an account of yours"
foreign_text (Action.Revoke reader account) = shown_name account.bytes ++ codes " is not an account of yours"
foreign_text Action.CloseDay = codes "an account is not yours"

-- Q4: what is so already
unfoldable pub unchanged_text : LimitForm → Action → List ℕ
unchanged_text told (Action.Kill account) = shown_name account.bytes ++ codes " is killed already"
unchanged_text told (Action.Lift account) =
    shown_name account.bytes ++ codes " is not killed, or you have lifted it already"
unchanged_text told (Action.SetLimit rule limit) = limit_is_text told rule.bytes limit ++ codes " already"
unchanged_text told (Action.Restrict rule stock) =
    shown_name rule.bytes ++ codes " lists " ++ shown_name stock.bytes ++ codes " already"
unchanged_text told (Action.Unrestrict rule stock) =
    shown_name rule.bytes ++ codes " does not list " ++ shown_name stock.bytes
unchanged_text told (Action.Grant reader account) =
    shown_name reader.bytes ++ codes " sees " ++ shown_name account.bytes ++ codes " already"
unchanged_text told (Action.Revoke reader account) =
    shown_name reader.bytes ++ codes " does not see " ++ shown_name account.bytes
unchanged_text told Action.CloseDay = codes "the day is closed already"

-- where a granted command stands in the day's history
abbrev pub record_text : ℕ → ℕ → List ℕ
record_text moment number = codes ": record " ++ decimal number ++ codes " at " ++ moment_text Nine moment

-- why a command was denied
abbrev pub reason_text : LimitForm → Action → AnswerCode → List ℕ
reason_text told action AnswerCode.Done = []
reason_text told action AnswerCode.PartlyLifted = []
reason_text told action AnswerCode.UnknownName = unknown_text action
reason_text told action AnswerCode.NoPower = powerless_text action
reason_text told action AnswerCode.NotHisAccount = foreign_text action
reason_text told action AnswerCode.NoChange = unchanged_text told action

-- that a command was denied, and why
unfoldable pub denied_text : LimitForm → Action → AnswerCode → List ℕ
denied_text told action code = codes "gate: denied " ++ answer_code code ++ codes ": " ++ reason_text told action code

-- what an answer of this moment says, with the number of the command's record
unfoldable pub answered_text : LimitForm → ℕ → Action → ℕ → AnswerCode → List ℕ
answered_text told moment action number AnswerCode.Done = done_text told action ++ record_text moment number
answered_text told moment action number AnswerCode.PartlyLifted =
    partly_text told action ++ record_text moment number ++ codes "; another officer has to lift it too"
answered_text told moment action number AnswerCode.UnknownName = denied_text told action AnswerCode.UnknownName
answered_text told moment action number AnswerCode.NoPower = denied_text told action AnswerCode.NoPower
answered_text told moment action number AnswerCode.NotHisAccount = denied_text told action AnswerCode.NotHisAccount
answered_text told moment action number AnswerCode.NoChange = denied_text told action AnswerCode.NoChange

-- the names of a command, each a field of a JSON line
abbrev pub account_field : List ℕ → List ℕ
account_field account = name_field (codes "account") account

abbrev pub rule_field : List ℕ → List ℕ
rule_field rule = name_field (codes "rule") rule

abbrev pub stock_field : List ℕ → List ℕ
stock_field stock = name_field (codes "stock") stock

abbrev pub reader_field : List ℕ → List ℕ
reader_field reader = name_field (codes "reader") reader

-- what a command names
unfoldable pub named_fields : Action → List ℕ
named_fields (Action.Kill account) = account_field account.bytes
named_fields (Action.Lift account) = account_field account.bytes
named_fields (Action.SetLimit rule limit) = rule_field rule.bytes ++ json_number_field (codes "limit") (decimal limit)
named_fields (Action.Restrict rule stock) = rule_field rule.bytes ++ stock_field stock.bytes
named_fields (Action.Unrestrict rule stock) = rule_field rule.bytes ++ stock_field stock.bytes
named_fields (Action.Grant reader account) = reader_field reader.bytes ++ account_field account.bytes
named_fields (Action.Revoke reader account) = reader_field reader.bytes ++ account_field account.bytes
named_fields Action.CloseDay = []

-- what an answer says, behind its event
unfoldable pub answer_fields : Action → Answer → List ℕ
answer_fields action answer =
    text_field (codes "command") (command_word action) ++ named_fields action ++ text_field (codes "code") (answer_code answer.code)
    ++ name_field (codes "tag") answer.tag.bytes ++ json_number_field (codes "record") (decimal answer.record_number)

-- the line of an answer of this moment to a command that asked for this
abbrev pub answer_line : Form → LimitForm → ℕ → Action → Answer → List ℕ
answer_line Text told moment action answer = answered_text told moment action answer.record_number answer.code ++ line_end
answer_line Json told moment action answer = json_line moment (codes "answer") (answer_fields action answer)

-- the word of a command by its type byte, where there is such a command
unfoldable pub type_word : ℕ → Option (List ℕ)
type_word kind =
    if kind == kill.kind then Some (codes "kill")
    else (if kind == lift.kind then Some (codes "lift")
    else (if kind == set_limit.kind then Some (codes "limit")
    else (if kind == restrict.kind then Some (codes "restrict")
    else (if kind == unrestrict.kind then Some (codes "unrestrict")
    else (if kind == grant.kind then Some (codes "grant")
    else (if kind == revoke.kind then Some (codes "revoke")
    else (if kind == close_day.kind then Some (codes "close")
    else None)))))))

-- a command by its type byte, where it is not known what it asked for
abbrev pub type_text : ℕ → List ℕ
type_text kind = unwrap_or (type_word kind) (codes "command " ++ shown_text (kind ∷ []))

-- the same as a field of a JSON line
abbrev pub type_field : ℕ → List ℕ
type_field kind = text_field (codes "command") (unwrap_or (type_word kind) (codes "command " ++ kind ∷ []))

-- what an answer says to a command of which its type and its tag alone are known
unfoldable pub earlier_text : Answer → List ℕ
earlier_text answer =
    type_text answer.command_type ++ codes " with tag " ++ shown_name answer.tag.bytes ++ codes " answered "
    ++ answer_code answer.code

-- the same as fields of a JSON line
unfoldable pub earlier_fields : Answer → List ℕ
earlier_fields answer =
    type_field answer.command_type ++ text_field (codes "code") (answer_code answer.code)
    ++ name_field (codes "tag") answer.tag.bytes ++ json_number_field (codes "record") (decimal answer.record_number)

-- the line of an answer of this moment to a command that was sent before this run
abbrev pub earlier_answer_line : Form → ℕ → Answer → List ℕ
earlier_answer_line Text moment answer = earlier_text answer ++ record_text moment answer.record_number ++ line_end
earlier_answer_line Json moment answer = json_line moment (codes "answer") (earlier_fields answer)

-- Why a request was denied, in words.
use Rattle.gx_policy.specs.{Kinds.{kind_name, kind_meaning}, declared.{policy.{FileRule.FileRule, PolicyData.PolicyData}, rule_name.RuleName.RuleName}, People.rule_in}
use Rattle.std.specs.Prelude.{ℕ, List, Option, Some, codes, option_map}
use Rattle.gx_fields.specs.declared.reasons.Reason.{Reason}

-- why the rule forbids; none where it is no rule
abbrev pub reason_of : PolicyData → RuleName → Option Reason
reason_of policy (RuleName.File name) = option_map (λ (rule : FileRule). Reason.OfKind (kind_name rule.kind)) (rule_in policy.rules name)
reason_of policy other = Some (Reason.BuiltIn other)

-- what a built-in rule forbids
abbrev pub built_in_words : RuleName → List ℕ
built_in_words RuleName.L1 = codes "user unknown or password wrong"
built_in_words RuleName.L2 = codes "user is logged in"
built_in_words RuleName.L3 = codes "session or number not available"
built_in_words RuleName.G1 = codes "user is not logged in on this line"
built_in_words RuleName.G2 = codes "not of the user's role"
built_in_words RuleName.G3 = codes "payload is no message"
built_in_words RuleName.I1 = codes "token is used"
built_in_words RuleName.I2 = codes "no live order under the token"
built_in_words RuleName.I3 = codes "no fewer shares than the present total"
built_in_words RuleName.P1 = codes "day is closed"
built_in_words RuleName.P2 = codes "account is killed"
built_in_words RuleName.P3 = codes "firm is not the account's"
built_in_words RuleName.P4 = codes "stock is not listed"
built_in_words RuleName.P5 = codes "no shares, or too many"
built_in_words RuleName.P6 = codes "no order may have this price"
built_in_words RuleName.P7 = codes "no such display"
built_in_words RuleName.P8 = codes "no such time in force"
built_in_words RuleName.P9 = codes "minimum quantity is not taken"
built_in_words RuleName.P10 = codes "crosses are not taken"
built_in_words RuleName.P11 = codes "no such side"
built_in_words RuleName.P12 = codes "no more shares than are executed"
built_in_words RuleName.Q1 = codes "a name is unknown, or the rule has no such setting"
built_in_words RuleName.Q2 = codes "officer lacks the power"
built_in_words RuleName.Q3 = codes "account is not the officer's"
built_in_words RuleName.Q4 = codes "nothing would change"
built_in_words (RuleName.File name) = codes "rule of the policy"

-- the words of a reason
abbrev pub reason_words : Reason → List ℕ
reason_words (Reason.BuiltIn rule) = built_in_words rule
reason_words (Reason.OfKind kind) = kind_meaning kind

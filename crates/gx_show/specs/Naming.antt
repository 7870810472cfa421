-- What a name stands for that is asked for.
use Rattle.std.specs.Prelude.{ℕ, Bool, ◌||◌, List, Option, Some, None, nat_le, length, is_some, option_and_then, option_map, if◌then◌else◌}
use Rattle.gx_units.specs.{declared.names.{AccountName.AccountName, RuleId.RuleId, Symbol.Symbol, UserName.UserName}, Spelling.{folded_user, padded_to}}
use Rattle.gx_policy.specs.{declared.policy.{PolicyData.PolicyData, User.User}, Lists.where_true, People.{account_named, rule_in, stock_named, user_in}, RuleNames.is_built_in}

-- the text as a field of so many bytes, if it has room there
abbrev pub field_of : ℕ → List ℕ → Option (List ℕ)
field_of size text = if nat_le (length text) size then Some (padded_to size text) else None

-- the account of the policy that the text names
abbrev pub account_in : PolicyData → List ℕ → Option AccountName
account_in policy text = option_and_then (λ (bytes : List ℕ). where_true (is_some (account_named policy (record { bytes = bytes }))) (record { bytes = bytes })) (field_of 8 text)

-- the stock of the policy that the text names
abbrev pub stock_in : PolicyData → List ℕ → Option Symbol
stock_in policy text = option_and_then (λ (bytes : List ℕ). where_true (is_some (stock_named policy (record { bytes = bytes }))) (record { bytes = bytes })) (field_of 8 text)

-- the user of the policy that the text names, in upper case or not
abbrev pub user_known : PolicyData → List ℕ → Option UserName
user_known policy text =
    option_and_then (λ (bytes : List ℕ). option_map (λ (u : User). u.name) (user_in policy.users (folded_user (record { bytes = bytes })))) (field_of 6 text)

-- the rule is one of the policy, or a built-in one
abbrev pub is_rule : PolicyData → RuleId → Bool
is_rule policy rule = is_built_in rule || is_some (rule_in policy.rules rule)

-- the rule that the text names
abbrev pub rule_known : PolicyData → List ℕ → Option RuleId
rule_known policy text = option_and_then (λ (bytes : List ℕ). where_true (is_rule policy (record { bytes = bytes })) (record { bytes = bytes })) (field_of 8 text)

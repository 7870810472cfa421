-- How many changes come under each heading.
use Rattle.std.specs.{Prelude.{Bool, true, false, List, [], ◌∷◌, ◌++◌, count_by, map, Option, Some, None, option_and_then}, List.flat_map}
use Rattle.gx_units.specs.{Names.{same_account, same_rule}, declared.names.AccountName.AccountName}
use Rattle.gx_policy.specs.{declared.{policy.PolicyData.PolicyData, rule_name.RuleName.RuleName}, Lists.once, People.account_of, RuleNames.rule_id}
use Rattle.gx_history.specs.Requests.{denied_by}
use Rattle.gx_whatif.specs.declared.{change.VerdictChange.VerdictChange, heading.{Heading.Heading, HeadingRow.HeadingRow}}

-- the same sort of heading, of the same rule or account
abbrev pub same_heading : Heading → Heading → Bool
same_heading (Heading.DeniedNow rule) (Heading.DeniedNow other) = same_rule rule other
same_heading (Heading.DeniedNoMore rule) (Heading.DeniedNoMore other) = same_rule rule other
same_heading (Heading.OfAccount account) (Heading.OfAccount other) = same_account account other
same_heading Heading.OfNoAccount Heading.OfNoAccount = true
same_heading one other = false

-- that of a rule which denies under the other policy
abbrev pub denied_now : Option RuleName → List Heading
denied_now None = []
denied_now (Some rule) = Heading.DeniedNow (rule_id rule) ∷ []

-- that of a rule which denied in the day
abbrev pub denied_no_more : Option RuleName → List Heading
denied_no_more None = []
denied_no_more (Some rule) = Heading.DeniedNoMore (rule_id rule) ∷ []

-- that of an account, or of none
abbrev pub heading_of_account : Option AccountName → Heading
heading_of_account None = Heading.OfNoAccount
heading_of_account (Some account) = Heading.OfAccount account

-- the headings of a change: the rule that denies now, the rule that denied, and the account that the asker trades for
abbrev pub headings : PolicyData → VerdictChange → List Heading
headings policy c =
    denied_now (option_and_then denied_by c.told) ++ denied_no_more (denied_by c.recorded) ++ heading_of_account (option_and_then (account_of policy) c.user) ∷ []

-- those of all changes, in their order
abbrev pub all_headings : PolicyData → List VerdictChange → List Heading
all_headings policy found = flat_map (headings policy) found

-- how often a heading came
abbrev pub heading_row : List Heading → Heading → HeadingRow
heading_row came h = record { heading = h; count = count_by (λ (x : Heading). same_heading x h) came }

-- a row for each heading that came, in the order in which they first did
abbrev pub heading_rows : PolicyData → List VerdictChange → List HeadingRow
heading_rows policy found = map (heading_row (all_headings policy found)) (once same_heading (all_headings policy found))

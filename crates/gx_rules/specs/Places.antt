-- The rules of the file that an account is under, by their places.
use Rattle.std.specs.{Prelude.{◌≡◌, ◌≤◌, ℕ, suc, Bool, false, List, [], ◌∷◌, map, length, slice_get, Option, option_map, if◌then◌else◌}, Option.option_map_or, Map.{keys_of, values_of}}
use Rattle.gx_units.specs.{declared.names.{AccountName.AccountName, RuleId.RuleId}}
use Rattle.gx_history.specs.{declared.facts.{ProposedOrder.ProposedOrder, RuleFigures.RuleFigures}, Rules.kind_forbids}
use Rattle.gx_policy.specs.{declared.{policy.{Account.Account, FileRule.FileRule}, rule_name.RuleName.{RuleName, TheVariants.File}}, People.covers}
use Rattle.gx_rules.specs.{declared.book_rule.BookRule.BookRule, Books.{book_kind, rules_of_entries}}

-- the places, from this one on, of the rules whose scope has the account
abbrev pub covering_from : AccountName → ℕ → List FileRule → List ℕ
covering_from account place [] = []
covering_from account place (rule ∷ rules) =
    if covers rule.scope account then place ∷ covering_from account (suc place) rules else covering_from account (suc place) rules

-- the places of the rules that the account is under
abbrev pub places_covering : List FileRule → AccountName → List ℕ
places_covering rules account = covering_from account 0 rules

-- each account with the places of the rules that it is under
abbrev pub places_of : List FileRule → List Account → List (AccountName × List ℕ)
places_of rules accounts = map (λ (a : Account). (a.name, places_covering rules a.name)) accounts

-- the rule at the place forbids the order, by the figures that are told of the place
abbrev pub forbids_at : (ℕ → RuleFigures) → List (RuleId × BookRule) → ProposedOrder → ℕ → Bool
forbids_at told entries w place = option_map_or (λ (e : RuleId × BookRule). kind_forbids (book_kind e.1) (told place) w) (slice_get entries place) false

-- the name of the rule at the place
abbrev pub named_at : List (RuleId × BookRule) → ℕ → Option RuleName
named_at entries place = option_map (λ (e : RuleId × BookRule). File e.0) (slice_get entries place)

-- there are few rules, and the table has the places of those that each of its accounts is under
pub record AreTied (entries : List (RuleId × BookRule)) (table : List (AccountName × List ℕ)) : Type 0 where
  pub few : length entries ≤ 128
  pub places : values_of table ≡ map (places_covering (rules_of_entries entries)) (keys_of table)

-- The sample policy of the documents, and the names in it.
use Rattle.std.specs.Prelude.{true, false, List, [], ◌∷◌, codes}
use Rattle.gx_units.specs.declared.names.{AccountName.AccountName, UserName.UserName, Symbol.Symbol}
use Rattle.gx_policy.specs.declared.{kinds.{ExposureLimit.ExposureLimit, OrderLimit.OrderLimit}, policy.{RuleKind.RuleKind, PolicyData.PolicyData, Lifters.TheVariants.One, Role.Role, Scope.Scope, Count.Count, FileRule.FileRule}}

-- the account that ALICE trades for
abbrev pub alfa : AccountName
alfa = record { bytes = codes "ALFA    " }

-- the account that BOB trades for
abbrev pub beta : AccountName
beta = record { bytes = codes "BETA    " }

-- the trader for ALFA
abbrev pub alice : UserName
alice = record { bytes = codes "ALICE " }

-- the trader for BETA
abbrev pub bob : UserName
bob = record { bytes = codes "BOB   " }

-- an officer with all powers
abbrev pub olga : UserName
olga = record { bytes = codes "OLGA  " }

-- an officer who may kill and not lift
abbrev pub otto : UserName
otto = record { bytes = codes "OTTO  " }

-- a reader, at first of no account
abbrev pub rita : UserName
rita = record { bytes = codes "RITA  " }

-- the listed stock
abbrev pub test_stock : Symbol
test_stock = record { bytes = codes "TEST    " }

-- SIZE: at most 500,000 shares in an order
abbrev pub rule_size : FileRule
rule_size = record { name = record { bytes = codes "SIZE    " }; kind = RuleKind.Order OrderLimit.Shares 500000; scope = Scope.All }

-- GROSS: at most 1,000 dollars of open and executed shares for each account
abbrev pub rule_gross : FileRule
rule_gross = record { name = record { bytes = codes "GROSS   " }; kind = RuleKind.Exposure ExposureLimit.GrossValue 10000000 Count.Each; scope = Scope.All }

-- the sample policy with these rules
abbrev pub with_rules : List FileRule → PolicyData
with_rules rules = record {
  session = record { bytes = codes "GATE01    " };
  lifters = One;
  accounts = record { name = alfa; firm = record { bytes = codes "ALF " } } ∷ record { name = beta; firm = record { bytes = codes "BET " } } ∷ [];
  stocks = record { name = test_stock; reference = 100000 } ∷ [];
  users =
      record { name = alice; password = record { bytes = codes "APPLE     " }; role = Role.Trader alfa }
      ∷ record { name = bob; password = record { bytes = codes "BANANA    " }; role = Role.Trader beta }
      ∷ record { name = olga; password = record { bytes = codes "ORANGE    " }; role = Role.Officer (record { kill = true; lift = true; limits = true; symbols = true; people = true; close = true }) Scope.All }
      ∷ record { name = otto; password = record { bytes = codes "OLIVE     " }; role = Role.Officer (record { kill = true; lift = false; limits = false; symbols = false; people = false; close = false }) Scope.All }
      ∷ record { name = rita; password = record { bytes = codes "RAISIN    " }; role = Role.Reader [] }
      ∷ [];
  rules = rules;
}

-- the sample policy
abbrev pub sample : PolicyData
sample = with_rules (rule_size ∷ rule_gross ∷ [])

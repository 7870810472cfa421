-- What a policy file says: in each place the keys in the order in which they are checked.
use Rattle.std.specs.Prelude.{ℕ, List, [], ◌∷◌, codes, Result, Ok}
use Rattle.toml.specs.Data.{Members}
use Rattle.gx_units.specs.Names.{same_account, same_stock, same_user, same_rule}
use Rattle.gx_policy.specs.declared.policy.{Lifters.Lifters, PolicyData.PolicyData, Account.Account, Stock.Stock, User.User, FileRule.FileRule}
use Rattle.gx_policyfile.specs.{Version.{version_number, version, top_keys, lifters}, Users.user, Rules.rule, declared.version.FileVersion.FileVersion, Place.place_of}
use Rattle.gx_policyvalues.specs.{declared.fault.{FaultKind.FaultKind, Letters.TheVariants.{Plain, Visible}}, Field.{◌>>=◌, number_at, field_at, only_keys}, Parsing.tree, Tables.tables_at}

-- the keys of an account
abbrev pub account_keys : List (List ℕ)
account_keys = codes "name" ∷ codes "firm" ∷ []

-- the keys of a stock
abbrev pub stock_keys : List (List ℕ)
stock_keys = codes "name" ∷ codes "reference" ∷ []

-- what an entry of the place `account` says
unfoldable pub account : Members → Result Account FaultKind
account entry = do
  known ← only_keys account_keys entry
  name ← field_at (codes "name") Plain 8 entry
  firm ← field_at (codes "firm") Plain 4 entry
  Ok (record { name = record { bytes = name }; firm = record { bytes = firm } })

-- what an entry of the place `stock` says
unfoldable pub stock : Members → Result Stock FaultKind
stock entry = do
  known ← only_keys stock_keys entry
  name ← field_at (codes "name") Visible 8 entry
  reference ← number_at (codes "reference") 1 1999999900 entry
  Ok (record { name = record { bytes = name }; reference = reference })

-- at most 64 accounts, no two of one name
unfoldable pub accounts : List Members → Result (List Account) FaultKind
accounts entries = place_of 64 (λ (a b : Account). same_account a.name b.name) account entries

-- at most 1,024 stocks, no two of one name
unfoldable pub stocks : List Members → Result (List Stock) FaultKind
stocks entries = place_of 1024 (λ (a b : Stock). same_stock a.name b.name) stock entries

-- at most 256 users, no two of one name
unfoldable pub users : List Account → List Members → Result (List User) FaultKind
users known entries = place_of 256 (λ (a b : User). same_user a.name b.name) (user known) entries

-- at most 128 rules, no two of one name
unfoldable pub rules : FileVersion → List Account → List Stock → List Members → Result (List FileRule) FaultKind
rules version known stocks entries = place_of 128 (λ (a b : FileRule). same_rule a.name b.name) (rule version known stocks) entries

-- what the entries of the four places say, behind the keys at the top: the accounts, the stocks, the users and the rules
abbrev pub of_entries : FileVersion → List ℕ → Lifters → List Members → List Members → List Members → List Members → Result PolicyData FaultKind
of_entries version session lifting account_tables stock_tables user_tables rule_tables = do
  found_accounts ← accounts account_tables
  found_stocks ← stocks stock_tables
  found_users ← users found_accounts user_tables
  found_rules ← rules version found_accounts found_stocks rule_tables
  Ok (record { session = record { bytes = session }; lifters = lifting; accounts = found_accounts; stocks = found_stocks; users = found_users; rules = found_rules })

-- what the four places say, behind the keys at the top
abbrev pub of_places : FileVersion → List ℕ → Lifters → Members → Result PolicyData FaultKind
of_places version session lifting top = do
  account_tables ← tables_at (codes "account") top
  stock_tables ← tables_at (codes "stock") top
  user_tables ← tables_at (codes "user") top
  rule_tables ← tables_at (codes "rule") top
  of_entries version session lifting account_tables stock_tables user_tables rule_tables

-- what the whole file says: the keys at the top, and then its places
unfoldable pub policy : Members → Result PolicyData FaultKind
policy top = do
  known ← only_keys (top_keys (version top)) top
  numbered ← version_number top
  session ← field_at (codes "session") Visible 10 top
  lifting ← lifters (version top) top
  of_places (version top) session lifting top

-- what the bytes of a policy file mean: a policy, or their first fault
unfoldable pub means : List ℕ → Result PolicyData FaultKind
means bytes = tree bytes >>= policy

-- the version_number that the bytes of a policy file give themselves
unfoldable pub version_of : List ℕ → Result ℕ FaultKind
version_of bytes = tree bytes >>= version_number

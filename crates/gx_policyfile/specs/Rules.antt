-- What an entry of the place `rule` says.
use Rattle.gx_policy.specs.{declared.{kinds.KindName.KindName, policy.{Account.Account, Stock.Stock, Count.{Count, TheVariants.{Each, Together}}, RuleKind.RuleKind, FileRule.FileRule}}, Kinds.{first_kind_words, later_kind_words}, RuleNames.is_built_in, Soundness.greatest}
use Rattle.std.specs.Prelude.{ℕ, List, [], ◌∷◌, ◌++◌, codes, Option, Some, None, Result, Ok, Err, if◌then◌else◌}
use Rattle.toml.specs.Data.{Data, Members}
use Rattle.gx_units.specs.declared.names.{RuleId.RuleId, Symbol.Symbol}
use Rattle.gx_policyvalues.specs.{declared.fault.{FaultKind.{FaultKind, TheVariants.BadValue}, Letters.TheVariants.Plain}, Field.{◌>>=◌, value_at, number_at, field, choice_at, word_at, only_keys}}
use Rattle.gx_policyfile.specs.{declared.version.FileVersion.{FileVersion, TheVariants.{One, Two}}, Known.{known_stocks, scope}}

-- the words of the key `kind` in a file of this version
unfoldable pub kinds_of_version : FileVersion → List (List ℕ × KindName)
kinds_of_version One = first_kind_words
kinds_of_version Two = first_kind_words ++ later_kind_words

-- the keys of a rule of this kind, and those of all kinds where it is none
abbrev pub rule_keys : Option KindName → List (List ℕ)
rule_keys (Some (KindName.Listed kind)) = codes "name" ∷ codes "kind" ∷ codes "stocks" ∷ codes "accounts" ∷ []
rule_keys (Some (KindName.Plain kind)) = codes "name" ∷ codes "kind" ∷ codes "accounts" ∷ []
rule_keys (Some (KindName.Order kind)) = codes "name" ∷ codes "kind" ∷ codes "limit" ∷ codes "accounts" ∷ []
rule_keys (Some (KindName.Exposure kind)) = codes "name" ∷ codes "kind" ∷ codes "limit" ∷ codes "count" ∷ codes "accounts" ∷ []
rule_keys (Some KindName.Rate) = codes "name" ∷ codes "kind" ∷ codes "limit" ∷ codes "window" ∷ codes "count" ∷ codes "accounts" ∷ []
rule_keys (Some KindName.Repeat) = codes "name" ∷ codes "kind" ∷ codes "limit" ∷ codes "span" ∷ codes "count" ∷ codes "accounts" ∷ []
rule_keys None = codes "name" ∷ codes "kind" ∷ codes "stocks" ∷ codes "limit" ∷ codes "window" ∷ codes "span" ∷ codes "count" ∷ codes "accounts" ∷ []

-- the keys that this rule may have in a file of this version
abbrev pub keys_of_rule : FileVersion → Members → List (List ℕ)
keys_of_rule version entry = rule_keys (word_at (codes "kind") (kinds_of_version version) entry)

-- the words of the key `count`
abbrev pub count_words : List (List ℕ × Count)
count_words = (codes "each", Each) ∷ (codes "together", Together) ∷ []

-- a name that no built-in rule has
unfoldable pub rule_name : Data → Result RuleId FaultKind
rule_name value = do
  bytes ← field Plain 8 value
  if is_built_in (record { bytes = bytes }) then Err BadValue else Ok (record { bytes = bytes })

-- the limit of a rule that counts no orders
abbrev pub limit : Members → Result ℕ FaultKind
limit entry = number_at (codes "limit") 0 greatest entry

-- whether each account is counted, or all together
abbrev pub count : Members → Result Count FaultKind
count entry = choice_at (codes "count") count_words entry

-- the stocks of a rule
abbrev pub stocks_of_entry : List Stock → Members → Result (List Symbol) FaultKind
stocks_of_entry stocks entry = value_at (codes "stocks") entry >>= known_stocks stocks

-- the kind of this word, with its own keys
unfoldable pub kind : List Stock → KindName → Members → Result RuleKind FaultKind
kind stocks (KindName.Listed why) entry = do
  names ← stocks_of_entry stocks entry
  Ok (RuleKind.Listed why names)
kind stocks (KindName.Plain what) entry = Ok (RuleKind.Plain what)
kind stocks (KindName.Order what) entry = do
  most ← limit entry
  Ok (RuleKind.Order what most)
kind stocks (KindName.Exposure what) entry = do
  most ← limit entry
  each ← count entry
  Ok (RuleKind.Exposure what most each)
kind stocks KindName.Rate entry = do
  most ← number_at (codes "limit") 1 4096 entry
  window ← number_at (codes "window") 1 greatest entry
  each ← count entry
  Ok (RuleKind.Rate (record { limit = most; window = window }) each)
kind stocks KindName.Repeat entry = do
  most ← number_at (codes "limit") 1 4096 entry
  span ← number_at (codes "span") most 4096 entry
  each ← count entry
  Ok (RuleKind.Repeat (record { limit = most; span = span }) each)

-- what the entry says in a file of this version, beside the file's accounts and stocks
unfoldable pub rule : FileVersion → List Account → List Stock → Members → Result FileRule FaultKind
rule version accounts stocks entry = do
  known ← only_keys (keys_of_rule version entry) entry
  name ← value_at (codes "name") entry >>= rule_name
  word ← choice_at (codes "kind") (kinds_of_version version) entry
  of_kind ← kind stocks word entry
  for_accounts ← scope accounts entry
  Ok (record { name = name; kind = of_kind; scope = for_accounts })

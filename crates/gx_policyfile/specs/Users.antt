-- What an entry of the place `user` says.
use Rattle.std.specs.{Prelude.{ℕ, true, false, List, [], ◌∷◌, codes, Option, Some, None, Result, Ok}, Option.ok_or}
use Rattle.toml.specs.Data.{Data, Members, as_array}
use Rattle.gx_units.specs.Spelling.{folded_user, folded_password}
use Rattle.gx_policy.specs.declared.policy.{Account.Account, Powers.Powers, Role.Role, User.User}
use Rattle.gx_policyvalues.specs.{declared.fault.{FaultKind.{FaultKind, TheVariants.BadValue}, Letters.TheVariants.Visible}, Field.{◌>>=◌, value_at, field_at, choice, choice_at, word_at, optional, each_item, only_keys}}
use Rattle.gx_policyfile.specs.{declared.user.{RoleWord.{RoleWord, TheVariants.{Trader, Officer, Reader}}, PowerWord.{PowerWord, TheVariants.{Kill, Lift, Limits, Symbols, People, Close}}}, Known.{known_account, known_accounts, scope}}

-- the words of the key `role`
abbrev pub role_words : List (List ℕ × RoleWord)
role_words = (codes "trader", Trader) ∷ (codes "officer", Officer) ∷ (codes "reader", Reader) ∷ []

-- the keys of a user of this role, and those of all roles where it is none
abbrev pub user_keys : Option RoleWord → List (List ℕ)
user_keys (Some Trader) = codes "name" ∷ codes "password" ∷ codes "role" ∷ codes "account" ∷ []
user_keys (Some Officer) = codes "name" ∷ codes "password" ∷ codes "role" ∷ codes "powers" ∷ codes "accounts" ∷ []
user_keys (Some Reader) = codes "name" ∷ codes "password" ∷ codes "role" ∷ codes "accounts" ∷ []
user_keys None = codes "name" ∷ codes "password" ∷ codes "role" ∷ codes "account" ∷ codes "powers" ∷ codes "accounts" ∷ []

-- the keys that this user may have
abbrev pub keys_of_user : Members → List (List ℕ)
keys_of_user entry = user_keys (word_at (codes "role") role_words entry)

-- the words of the key `powers`
abbrev pub power_words : List (List ℕ × PowerWord)
power_words = (codes "kill", Kill) ∷ (codes "lift", Lift) ∷ (codes "limits", Limits) ∷ (codes "symbols", Symbols) ∷ (codes "people", People) ∷ (codes "close", Close) ∷ []

-- no power at all
abbrev pub no_powers : Powers
no_powers = record { kill = false; lift = false; limits = false; symbols = false; people = false; close = false }

-- the powers and this one
abbrev pub with_power : Powers → PowerWord → Powers
with_power p Kill = record p { kill = true }
with_power p Lift = record p { lift = true }
with_power p Limits = record p { limits = true }
with_power p Symbols = record p { symbols = true }
with_power p People = record p { people = true }
with_power p Close = record p { close = true }

-- an array of powers
unfoldable pub powers : Data → Result Powers FaultKind
powers value = ok_or (as_array value) BadValue >>= each_item (choice power_words) with_power no_powers

-- the role of this word, with its own keys
unfoldable pub role : List Account → RoleWord → Members → Result Role FaultKind
role accounts Trader entry = do
  account ← value_at (codes "account") entry >>= known_account accounts
  Ok (Role.Trader account)
role accounts Officer entry = do
  given ← value_at (codes "powers") entry >>= powers
  for_accounts ← scope accounts entry
  Ok (Role.Officer given for_accounts)
role accounts Reader entry = do
  names ← optional (codes "accounts") (known_accounts accounts) [] entry
  Ok (Role.Reader names)

-- what the entry says, beside the file's accounts
unfoldable pub user : List Account → Members → Result User FaultKind
user accounts entry = do
  known ← only_keys (keys_of_user entry) entry
  name ← field_at (codes "name") Visible 6 entry
  password ← field_at (codes "password") Visible 10 entry
  word ← choice_at (codes "role") role_words entry
  as_role ← role accounts word entry
  Ok (record { name = folded_user (record { bytes = name }); password = folded_password (record { bytes = password }); role = as_role })

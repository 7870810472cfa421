-- What holds of each policy that is read, in words of the tree and not of the reading.
use Rattle.std.specs.{Prelude.{ℕ, Bool, ◌&&◌, nat_le, ◌≡◌, List, [], ◌∷◌, codes, length, map, Option, Some, None, unwrap_or}, List.list_all, Option.{option_and_then, option_map_or}}
use Rattle.toml.specs.Data.{Items, no_items, item, Members, get_member, as_array, as_table, as_str}
use Rattle.gx_units.specs.Spelling.{padded_to, folded_user}
use Rattle.gx_policy.specs.declared.policy.{PolicyData.PolicyData, Account.Account, Stock.Stock, User.User, FileRule.FileRule}
use Rattle.gx_policyvalues.specs.Field.{has_only}
use Rattle.gx_policyfile.specs.{Users.keys_of_user, Rules.keys_of_rule, Version.{version, top_keys}, Policies.{account_keys, stock_keys}}

-- the table, if it is one, and the others
abbrev pub with_table : Option Members → List Members → List Members
with_table (Some entry) entries = entry ∷ entries
with_table None entries = entries

-- the tables of an array
abbrev pub tables_in : Items → List Members
tables_in no_items = []
tables_in (item value items) = with_table (as_table value) (tables_in items)

-- the tables of the array under a key, in the file's order
abbrev pub entries_at : List ℕ → Members → List Members
entries_at key top = option_map_or tables_in (option_and_then as_array (get_member key top)) []

-- no key but those of the whole file in its version, and in each entry none but those of its place, its role or its kind
abbrev pub are_keys_known : Members → Bool
are_keys_known top =
    has_only (top_keys (version top)) top
    && list_all (has_only account_keys) (entries_at (codes "account") top)
    && list_all (has_only stock_keys) (entries_at (codes "stock") top)
    && list_all (λ entry. has_only (keys_of_user entry) entry) (entries_at (codes "user") top)
    && list_all (λ entry. has_only (keys_of_rule (version top) entry) entry) (entries_at (codes "rule") top)

-- at most 64 accounts, 1,024 stocks, 256 users and 128 rules
abbrev pub are_places_short : Members → Bool
are_places_short top =
    nat_le (length (entries_at (codes "account") top)) 64 && nat_le (length (entries_at (codes "stock") top)) 1024
    && nat_le (length (entries_at (codes "user") top)) 256 && nat_le (length (entries_at (codes "rule") top)) 128

-- the entry's name as it is written, with spaces behind it
abbrev pub written_name : ℕ → Members → List ℕ
written_name width entry = padded_to width (unwrap_or (option_and_then as_str (get_member (codes "name") entry)) [])

-- In each place the policy has the entries of the file, in its order: none left out, none added.
pub record IsInFileOrder (top : Members) (policy : PolicyData) : Type 0 where
  pub accounts : map (λ (a : Account). a.name.bytes) policy.accounts ≡ map (written_name 8) (entries_at (codes "account") top)
  pub stocks : map (λ (s : Stock). s.name.bytes) policy.stocks ≡ map (written_name 8) (entries_at (codes "stock") top)
  pub users : map (λ (u : User). u.name) policy.users ≡ map (λ entry. folded_user (record { bytes = written_name 6 entry })) (entries_at (codes "user") top)
  pub rules : map (λ (r : FileRule). r.name.bytes) policy.rules ≡ map (written_name 8) (entries_at (codes "rule") top)

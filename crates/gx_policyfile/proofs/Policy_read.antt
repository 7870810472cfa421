-- What holds of each policy that is read.
use Rattle.std.proofs.{Common.{◌≡◌, ℕ, Bool, true, List, [], length, map, nat_le, codes, Result, Ok, refl, ap, subst}, lemmas.Bool.and_parts}
use Rattle.std.specs.{List.list_all, Option.ok_or}
use Rattle.toml.specs.Data.{Data, Members, get_member, as_str}
use Rattle.gx_units.specs.{Names.{same_account, same_stock, same_user, same_rule}, Spelling.{padded_to, folded_user}}
use Rattle.gx_policy.specs.{declared.policy.{PolicyData.PolicyData, Account.Account, Stock.Stock, User.User, FileRule.FileRule}, RuleNames.is_built_in, Soundness.{is_sound, names_differ, is_within_limits}}
use Rattle.gx_policyvalues.specs.{declared.fault.{FaultKind.{FaultKind, TheVariants.{MissingKey, BadValue}}, Letters.{Letters, TheVariants.{Plain, Visible}}}, Field.{◌>>=◌, has_only, only_keys, value_at, text, checked_text, field, field_at, number_at, choice_at}, Parsing.tree}
use Rattle.gx_policyfile.specs.{declared.version.FileVersion.FileVersion, Place.place_of, Users.{keys_of_user, role_words, role, user}, Rules.{kinds_of_version, keys_of_rule, rule_name, kind, rule}, Known.scope, Version.version, Policies.{account_keys, stock_keys, account, stock, accounts, stocks, users, rules, policy, means}, Reads.{entries_at, written_name, are_keys_known, are_places_short, IsInFileOrder}}
use Rattle.gx_policyfile.proofs.{Step_parts.{bind_ok, passed, failed, by_ok, and_both}, Place_entries.{each_map, each_asked, place_ok}, Policy_parts.{some_of, only_ok, WasRead, was_read}, Policy_sound.policy_sound}

meant_by_tree : (bytes : List ℕ) (top : Members) (p : PolicyData) → tree bytes ≡ Ok top → means bytes ≡ Ok p → policy top ≡ Ok p
unfolding means
meant_by_tree bytes top p is h = subst (λ r. (r >>= policy) ≡ Ok p) is h

pub read_sound : (bytes : List ℕ) (p : PolicyData) → means bytes ≡ Ok p → is_sound p ≡ true
unfolding means
read_sound bytes p h =
    let (top, is, meant) = bind_ok (tree bytes) policy p h in
    policy_sound top p meant

pub read_names_differ : (bytes : List ℕ) (p : PolicyData) → means bytes ≡ Ok p → names_differ p ≡ true
unfolding is_sound
read_names_differ bytes p h =
    let s = read_sound bytes p h in
    let (s1, rules_sound) = and_parts _ _ s in
    let (s2, users_sound) = and_parts _ _ s1 in
    let (s3, stocks_sound) = and_parts _ _ s2 in
    let (s4, accounts_sound) = and_parts _ _ s3 in
    let (s5, session_sound) = and_parts _ _ s4 in
    (and_parts (is_within_limits p) (names_differ p) s5).1

-- a name's field is the name as it is written
name_read : (letters : Letters) (width : ℕ) (entry : Members) (bytes : List ℕ) (value : Data) → value_at (codes "name") entry ≡ Ok value → field letters width value ≡ Ok bytes → bytes ≡ written_name width entry
name_read letters width entry bytes value at h =
    let (s, s_is, same) = bind_ok (text letters width value) _ bytes h in
    let (t, t_is, spelling) = bind_ok (ok_or (as_str value) BadValue) (checked_text letters width) s s_is in
    let (fits, kept) = passed _ (Ok t) BadValue s spelling in
    let e : t ≡ s = cc in
    let f : padded_to width s ≡ bytes = cc in
    rw (some_of (get_member (codes "name") entry) MissingKey value at, some_of (as_str value) BadValue t t_is, e, f) refl

name_at_read : (letters : Letters) (width : ℕ) (entry : Members) (bytes : List ℕ) → field_at (codes "name") letters width entry ≡ Ok bytes → bytes ≡ written_name width entry
name_at_read letters width entry bytes h =
    let (value, at, h1) = bind_ok (value_at (codes "name") entry) (field letters width) bytes h in
    name_read letters width entry bytes value at h1

-- what an entry that was read tells of its table
record Tells (known : Bool) {B : Type 0} (shown told : B) : Type 0 where
  keys : known ≡ true
  name : shown ≡ told

account_tells : (entry : Members) (a : Account) → account entry ≡ Ok a → Tells (has_only account_keys entry) a.name.bytes (written_name 8 entry)
unfolding account
account_tells entry a h =
    let (known, known_is, h1) = bind_ok (only_keys account_keys entry) _ a h in
    let (name, name_is, h2) = bind_ok (field_at (codes "name") Plain 8 entry) _ a h1 in
    let (firm, firm_is, h3) = bind_ok (field_at (codes "firm") Plain 4 entry) _ a h2 in
    by_ok (λ a. Tells (has_only account_keys entry) a.name.bytes (written_name 8 entry)) _ a h3
    (record { keys = only_ok account_keys entry known known_is; name = name_at_read Plain 8 entry name name_is })

stock_tells : (entry : Members) (s : Stock) → stock entry ≡ Ok s → Tells (has_only stock_keys entry) s.name.bytes (written_name 8 entry)
unfolding stock
stock_tells entry s h =
    let (known, known_is, h1) = bind_ok (only_keys stock_keys entry) _ s h in
    let (name, name_is, h2) = bind_ok (field_at (codes "name") Visible 8 entry) _ s h1 in
    let (reference, reference_is, h3) = bind_ok (number_at (codes "reference") 1 1999999900 entry) _ s h2 in
    by_ok (λ s. Tells (has_only stock_keys entry) s.name.bytes (written_name 8 entry)) _ s h3
    (record { keys = only_ok stock_keys entry known known_is; name = name_at_read Visible 8 entry name name_is })

user_tells : (known : List Account) (entry : Members) (u : User) → user known entry ≡ Ok u → Tells (has_only (keys_of_user entry) entry) u.name (folded_user (record { bytes = written_name 6 entry }))
unfolding user
user_tells accounts entry u h =
    let (known, known_is, h1) = bind_ok (only_keys (keys_of_user entry) entry) _ u h in
    let (name, name_is, h2) = bind_ok (field_at (codes "name") Visible 6 entry) _ u h1 in
    let (password, password_is, h3) = bind_ok (field_at (codes "password") Visible 10 entry) _ u h2 in
    let (word, word_is, h4) = bind_ok (choice_at (codes "role") role_words entry) _ u h3 in
    let (as_role, role_is, same) = bind_ok (role accounts word entry) _ u h4 in
    by_ok (λ u. Tells (has_only (keys_of_user entry) entry) u.name (folded_user (record { bytes = written_name 6 entry }))) _ u same
    (record { keys = only_ok (keys_of_user entry) entry known known_is; name = ap (λ b. folded_user (record { bytes = b })) (name_at_read Visible 6 entry name name_is) })

rule_tells : (version : FileVersion) (known : List Account) (stocks : List Stock) (entry : Members) (r : FileRule) → rule version known stocks entry ≡ Ok r → Tells (has_only (keys_of_rule version entry) entry) r.name.bytes (written_name 8 entry)
unfolding rule rule_name
rule_tells version accounts stocks entry r h =
    let (known, known_is, h1) = bind_ok (only_keys (keys_of_rule version entry) entry) _ r h in
    let (name, name_is, h2) = bind_ok (value_at (codes "name") entry >>= rule_name) _ r h1 in
    let (value, value_is, named) = bind_ok (value_at (codes "name") entry) rule_name name name_is in
    let (bytes, bytes_is, tested) = bind_ok (field Plain 8 value) _ name named in
    let (free, kept) = failed (is_built_in (record { bytes = bytes })) _ BadValue name tested in
    let is : name.bytes ≡ written_name 8 entry = by_ok (λ n. n.bytes ≡ written_name 8 entry) (record { bytes = bytes }) name kept (name_read Plain 8 entry bytes value value_is bytes_is) in
    let (word, word_is, h3) = bind_ok (choice_at (codes "kind") (kinds_of_version version) entry) _ r h2 in
    let (of_kind, kind_is, h4) = bind_ok (kind stocks word entry) _ r h3 in
    let (for_accounts, for_is, same) = bind_ok (scope accounts entry) _ r h4 in
    by_ok (λ r. Tells (has_only (keys_of_rule version entry) entry) r.name.bytes (written_name 8 entry)) _ r same
    (record { keys = only_ok (keys_of_rule version entry) entry known known_is; name = is })

-- a place that was read
record PlaceTells {X B : Type 0} (most : ℕ) (known : Members → Bool) (shown : X → B) (told : Members → B) (entries : List Members) (xs : List X) : Type 0 where
  short : nat_le (length entries) most ≡ true
  keys : list_all known entries ≡ true
  order : map shown xs ≡ map told entries

place_tells : {X B : Type 0} (same : X → X → Bool) (meant : Members → Result X FaultKind) (most : ℕ) (known : Members → Bool) (shown : X → B) (told : Members → B)
    → ((entry : Members) (x : X) → meant entry ≡ Ok x → Tells (known entry) (shown x) (told entry))
    → (entries : List Members) (xs : List X) → place_of most same meant entries ≡ Ok xs → PlaceTells most known shown told entries xs
place_tells same meant most known shown told tells entries xs h =
    let (few, rest) = place_ok same meant most entries xs h in
    record {
      short = few;
      keys = each_asked same meant known (λ entry x is. (tells entry x is).keys) [] entries xs rest;
      order = each_map same meant shown told (λ entry x is. (tells entry x is).name) [] entries xs rest;
    }

of_accounts : (top : Members) {p : PolicyData} → WasRead top p → PlaceTells 64 (has_only account_keys) (λ (a : Account). a.name.bytes) (written_name 8) (entries_at (codes "account") top) p.accounts
unfolding accounts
of_accounts top w = place_tells (λ (a b : Account). same_account a.name b.name) account 64 (has_only account_keys) (λ (a : Account). a.name.bytes) (written_name 8) account_tells _ _ w.of_accounts

of_stocks : (top : Members) {p : PolicyData} → WasRead top p → PlaceTells 1024 (has_only stock_keys) (λ (s : Stock). s.name.bytes) (written_name 8) (entries_at (codes "stock") top) p.stocks
unfolding stocks
of_stocks top w = place_tells (λ (a b : Stock). same_stock a.name b.name) stock 1024 (has_only stock_keys) (λ (s : Stock). s.name.bytes) (written_name 8) stock_tells _ _ w.of_stocks

of_users : (top : Members) {p : PolicyData} → WasRead top p
    → PlaceTells 256 (λ entry. has_only (keys_of_user entry) entry) (λ (u : User). u.name) (λ entry. folded_user (record { bytes = written_name 6 entry })) (entries_at (codes "user") top) p.users
unfolding users
of_users top {p} w = place_tells (λ (a b : User). same_user a.name b.name) (user p.accounts) 256 (λ entry. has_only (keys_of_user entry) entry) (λ (u : User). u.name) (λ entry. folded_user (record { bytes = written_name 6 entry })) (user_tells p.accounts) _ _ w.of_users

of_rules : (top : Members) {p : PolicyData} → WasRead top p → PlaceTells 128 (λ entry. has_only (keys_of_rule (version top) entry) entry) (λ (r : FileRule). r.name.bytes) (written_name 8) (entries_at (codes "rule") top) p.rules
unfolding rules
of_rules top {p} w = place_tells (λ (a b : FileRule). same_rule a.name b.name) (rule (version top) p.accounts p.stocks) 128 (λ entry. has_only (keys_of_rule (version top) entry) entry) (λ (r : FileRule). r.name.bytes) (written_name 8) (rule_tells (version top) p.accounts p.stocks) _ _ w.of_rules

pub read_keys : (bytes : List ℕ) (top : Members) (p : PolicyData) → tree bytes ≡ Ok top → means bytes ≡ Ok p → are_keys_known top ≡ true
read_keys bytes top p is h =
    let w = was_read top p (meant_by_tree bytes top p is h) in
    and_both _ _ (and_both _ _ (and_both _ _ (and_both _ _ w.keys (of_accounts top w).keys) (of_stocks top w).keys) (of_users top w).keys) (of_rules top w).keys

pub read_short : (bytes : List ℕ) (top : Members) (p : PolicyData) → tree bytes ≡ Ok top → means bytes ≡ Ok p → are_places_short top ≡ true
read_short bytes top p is h =
    let w = was_read top p (meant_by_tree bytes top p is h) in
    and_both _ _ (and_both _ _ (and_both _ _ (of_accounts top w).short (of_stocks top w).short) (of_users top w).short) (of_rules top w).short

pub read_order : (bytes : List ℕ) (top : Members) (p : PolicyData) → tree bytes ≡ Ok top → means bytes ≡ Ok p → IsInFileOrder top p
read_order bytes top p is h =
    let w = was_read top p (meant_by_tree bytes top p is h) in
    record { accounts = (of_accounts top w).order; stocks = (of_stocks top w).order; users = (of_users top w).order; rules = (of_rules top w).order }

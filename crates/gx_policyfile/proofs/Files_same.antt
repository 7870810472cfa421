-- Two files that say the same mean the same policy.
use Rattle.std.proofs.Common.{◌≡◌, ℕ, Bool, true, false, cond, nat_lt, List, [], ◌∷◌, ◌++◌, length, codes, bytes_eq, Option, Some, None, Result, Ok, Err, IsOk, if◌then◌else◌, refl, sym, ap, ◌∙◌}
use Rattle.std.specs.Option.{ok_or, option_and_then, option_map_or}
use Rattle.toml.specs.Data.{Data, Members, as_array, as_str, get_member}
use Rattle.gx_units.specs.Names.{same_rule}
use Rattle.gx_policy.specs.{Kinds.{first_kind_words, later_kind_words}, declared.{kinds.KindName.KindName, policy.{PolicyData.PolicyData, Lifters.Lifters, Account.Account, Stock.Stock, User.User, FileRule.FileRule}}}
use Rattle.gx_policyvalues.specs.{declared.fault.{FaultKind.{FaultKind, TheVariants.{BadValue, DuplicateName, MissingKey, TooMany}}, Letters.TheVariants.Visible}, Field.{◌>>=◌, choice, choice_at, field, field_at, only_keys, value_at, word_at, word_in}}
use Rattle.gx_policyfile.specs.{declared.version.FileVersion.{FileVersion, TheVariants.{One, Two}}, Known.scope, Place.{each, is_taken, next}, Rules.{keys_of_rule, kind, kinds_of_version, rule, rule_keys, rule_name}, Version.version, Policies.{accounts, stocks, users, rules, policy}, Reads.{tables_in, entries_at}, Migrating.{say_the_same, lift_alike, without_users}}
use Rattle.gx_policyfile.proofs.{Step_parts.bind_ok, Policy_parts.{WasRead, was_read, ok_of}}

-- what two equal results hold
both_ok : {X : Type 0} (r s : Result X FaultKind) (x y : X) → r ≡ s → r ≡ Ok x → s ≡ Ok y → x ≡ y
both_ok r s x y same p q = let e : Ok x ≡ Ok y = sym p ∙ same ∙ q in cc

same_entries : (key : List ℕ) (one other : Members) → say_the_same key one other → entries_at key one ≡ entries_at key other
same_entries key one other same = ap (λ v. option_map_or tables_in (option_and_then as_array v) []) same

same_session : (one other : Members) → say_the_same (codes "session") one other → field_at (codes "session") Visible 10 one ≡ field_at (codes "session") Visible 10 other
same_session one other same = ap (λ v. ok_or v MissingKey >>= field Visible 10) same

abbrev data_of : List ℕ → Lifters → List Account → List Stock → List User → List FileRule → PolicyData
data_of session lifting xs ss us rs = record { session = record { bytes = session }; lifters = lifting; accounts = xs; stocks = ss; users = us; rules = rs }

same_data : (session other_session : List ℕ) (lifting other_lifting : Lifters) (xs bs : List Account) (ss ts : List Stock) (us vs : List User) (rs qs : List FileRule)
    → session ≡ other_session → lifting ≡ other_lifting → xs ≡ bs → ss ≡ ts → us ≡ vs → rs ≡ qs → data_of session lifting xs ss us rs ≡ data_of other_session other_lifting bs ts vs qs
same_data session other_session lifting other_lifting xs bs ss ts us vs rs qs a b c d e f =
    ap (λ x. data_of x lifting xs ss us rs) a ∙ ap (λ x. data_of other_session x xs ss us rs) b
    ∙ ap (λ x. data_of other_session other_lifting x ss us rs) c ∙ ap (λ x. data_of other_session other_lifting bs x us rs) d
    ∙ ap (λ x. data_of other_session other_lifting bs ts x rs) e ∙ ap (λ x. data_of other_session other_lifting bs ts vs x) f

-- a word of the front of a list is one of the list
word_later : {X : Type 0} (words more : List (List ℕ × X)) (s : List ℕ) (x : X) → word_in words s ≡ Some x → word_in (words ++ more) s ≡ Some x
word_later [] more s x h = cc
word_later {X} (word ∷ words) more s x h = by (bytes_eq word.0 s) h (word_later words more s x)
  where
    by : (b : Bool) → cond b (Some word.1) (word_in words s) ≡ Some x → (word_in words s ≡ Some x → word_in (words ++ more) s ≡ Some x) → cond b (Some word.1) (word_in (words ++ more) s) ≡ Some x
    by true h deeper = h
    by false h deeper = deeper h

-- so is a word under a key
chosen_later : {X : Type 0} (key : List ℕ) (words more : List (List ℕ × X)) (entry : Members) (x : X) → choice_at key words entry ≡ Ok x
    → (choice_at key (words ++ more) entry ≡ Ok x) × ((word_at key words entry ≡ Some x) × (word_at key (words ++ more) entry ≡ Some x))
chosen_later {X} key words more entry x h = of_value (get_member key entry) h
  where
    found : (o : Option X) → ok_or o BadValue ≡ Ok x → o ≡ Some x
    found None h = cc
    found (Some y) h = cc

    of_text : (o : Option (List ℕ)) → (ok_or o BadValue >>= λ s. ok_or (word_in words s) BadValue) ≡ Ok x
        → ((ok_or o BadValue >>= λ s. ok_or (word_in (words ++ more) s) BadValue) ≡ Ok x) × ((option_and_then (word_in words) o ≡ Some x) × (option_and_then (word_in (words ++ more)) o ≡ Some x))
    of_text None h = cc
    of_text (Some s) h =
        let here : word_in words s ≡ Some x = found (word_in words s) h in
        let there : word_in (words ++ more) s ≡ Some x = word_later words more s x here in
        (ap (λ o. ok_or o BadValue) there, (here, there))

    of_value : (o : Option Data) → (ok_or o MissingKey >>= choice words) ≡ Ok x
        → ((ok_or o MissingKey >>= choice (words ++ more)) ≡ Ok x) × ((option_and_then (word_in words) (option_and_then as_str o) ≡ Some x) × (option_and_then (word_in (words ++ more)) (option_and_then as_str o) ≡ Some x))
    of_value None h = cc
    of_value (Some value) h = of_text (as_str value) h

-- a rule of version 1 means the same in version 2
rule_later : (xs : List Account) (ss : List Stock) (entry : Members) (r : FileRule) → rule One xs ss entry ≡ Ok r → rule Two xs ss entry ≡ Ok r
unfolding rule kinds_of_version
rule_later xs ss entry r h =
    let (known, known_is, h1) = bind_ok (only_keys (keys_of_rule One entry) entry) _ r h in
    let (name, name_is, h2) = bind_ok (value_at (codes "name") entry >>= rule_name) _ r h1 in
    let (word, word_is, h3) = bind_ok (choice_at (codes "kind") first_kind_words entry) _ r h2 in
    let later = chosen_later (codes "kind") first_kind_words later_kind_words entry word word_is in
    let keys : only_keys (keys_of_rule Two entry) entry ≡ only_keys (keys_of_rule One entry) entry = ap (λ w. only_keys (rule_keys w) entry) (later.1.1 ∙ sym later.1.0) in
    let after : KindName → Result FileRule FaultKind = λ w. kind ss w entry >>= λ k. scope xs entry >>= λ for_accounts. Ok (record { name = name; kind = k; scope = for_accounts }) in
    ap (λ k. k >>= λ _. (value_at (codes "name") entry >>= rule_name) >>= λ n. choice_at (codes "kind") (kinds_of_version Two) entry >>= λ w. kind ss w entry >>= λ k. scope xs entry >>= λ for_accounts. Ok (record { name = n; kind = k; scope = for_accounts }))
    (keys ∙ known_is)
    ∙ ap (λ n. n >>= λ n. choice_at (codes "kind") (kinds_of_version Two) entry >>= λ w. kind ss w entry >>= λ k. scope xs entry >>= λ for_accounts. Ok (record { name = n; kind = k; scope = for_accounts })) name_is
    ∙ ap (λ w. w >>= after) later.0
    ∙ h3

each_later : {X : Type 0} (same : X → X → Bool) (first second : Members → Result X FaultKind) → ((entry : Members) (x : X) → first entry ≡ Ok x → second entry ≡ Ok x)
    → (earlier : List X) (entries : List Members) (xs : List X) → each same first earlier entries ≡ Ok xs → each same second earlier entries ≡ Ok xs
each_later same first second means earlier [] xs h = h
each_later {X} same first second means earlier (entry ∷ entries) xs h =
    let (x, next_is, rest) = bind_ok (next same first earlier entry) (λ x. each same first (earlier ++ x ∷ []) entries) xs h in
    let (y, read, untaken) = bind_ok (first entry) (λ x. if is_taken same earlier x then Err DuplicateName else Ok x) x next_is in
    ap (λ r. (r >>= λ x. if is_taken same earlier x then Err DuplicateName else Ok x) >>= λ x. each same second (earlier ++ x ∷ []) entries) (means entry y read)
    ∙ ap (λ r. r >>= λ x. each same second (earlier ++ x ∷ []) entries) untaken
    ∙ each_later same first second means (earlier ++ x ∷ []) entries xs rest

-- the rules of a file of any version mean the same in version 2
rules_later : (version : FileVersion) (xs : List Account) (ss : List Stock) (entries : List Members) (rs : List FileRule) → rules version xs ss entries ≡ Ok rs → rules Two xs ss entries ≡ Ok rs
unfolding rules
rules_later Two xs ss entries rs h = h
rules_later One xs ss entries rs h = by (nat_lt 128 (length entries)) h
  where
    by : (b : Bool) → cond b (Err TooMany) (each (λ (a b : FileRule). same_rule a.name b.name) (rule One xs ss) [] entries) ≡ Ok rs → cond b (Err TooMany) (each (λ (a b : FileRule). same_rule a.name b.name) (rule Two xs ss) [] entries) ≡ Ok rs
    by true h = cc
    by false h = each_later (λ (a b : FileRule). same_rule a.name b.name) (rule One xs ss) (rule Two xs ss) (rule_later xs ss) [] entries rs h

same_accounts : (one other : Members) {p q : PolicyData} → WasRead one p → WasRead other q → say_the_same (codes "account") one other → p.accounts ≡ q.accounts
same_accounts one other {p} {q} w v accounts_same =
    both_ok _ _ p.accounts q.accounts (ap accounts (same_entries (codes "account") one other accounts_same)) w.of_accounts v.of_accounts

-- but for the users
same_beside : (one other : Members) {p q : PolicyData} → WasRead one p → WasRead other q → lift_alike one other
    → say_the_same (codes "session") one other → say_the_same (codes "account") one other → say_the_same (codes "stock") one other
    → say_the_same (codes "rule") one other → (us : List User) → us ≡ q.users
    → data_of p.session.bytes p.lifters p.accounts p.stocks us p.rules ≡ q
same_beside one other {p} {q} w v lifting session accounts_same stocks_same rules_same us u =
    let s = both_ok _ _ p.session.bytes q.session.bytes (same_session one other session) w.session v.session in
    let l = both_ok _ _ p.lifters q.lifters lifting w.lifting v.lifting in
    let a = same_accounts one other w v accounts_same in
    let k = both_ok _ _ p.stocks q.stocks (ap stocks (same_entries (codes "stock") one other stocks_same)) w.of_stocks v.of_stocks in
    let r = both_ok _ _ p.rules q.rules
    (ap (λ x. rules Two x p.stocks (entries_at (codes "rule") one)) a ∙ ap (λ x. rules Two q.accounts x (entries_at (codes "rule") one)) k ∙ ap (rules Two q.accounts q.stocks) (same_entries (codes "rule") one other rules_same))
    (rules_later (version one) p.accounts p.stocks _ p.rules w.of_rules) (rules_later (version other) q.accounts q.stocks _ q.rules v.of_rules) in
    same_data p.session.bytes q.session.bytes p.lifters q.lifters p.accounts q.accounts p.stocks q.stocks us q.users p.rules q.rules s l a k u r

same_read : (one other : Members) {p q : PolicyData} → WasRead one p → WasRead other q → lift_alike one other
    → say_the_same (codes "session") one other → say_the_same (codes "account") one other → say_the_same (codes "stock") one other
    → say_the_same (codes "user") one other → say_the_same (codes "rule") one other → p ≡ q
same_read one other {p} {q} w v lifting session accounts_same stocks_same users_same rules_same =
    same_beside one other w v lifting session accounts_same stocks_same rules_same p.users
    (both_ok _ _ p.users q.users (ap (λ x. users x (entries_at (codes "user") one)) (same_accounts one other w v accounts_same) ∙ ap (users q.accounts) (same_entries (codes "user") one other users_same)) w.of_users v.of_users)

-- a file that names no user has none
no_users : (other : Members) {q : PolicyData} → WasRead other q → get_member (codes "user") other ≡ None → [] ≡ q.users
unfolding users
no_users other {q} v none =
    both_ok (users q.accounts []) _ [] q.users (ap (λ o. users q.accounts (option_map_or tables_in (option_and_then as_array o) [])) (sym none)) refl v.of_users

-- files that are policies and say the same mean the same
pub same_policy : (one other : Members) → IsOk (policy one) → IsOk (policy other) → lift_alike one other
    → say_the_same (codes "session") one other → say_the_same (codes "account") one other → say_the_same (codes "stock") one other
    → say_the_same (codes "user") one other → say_the_same (codes "rule") one other → policy other ≡ policy one
same_policy one other h g lifting session accounts_same stocks_same users_same rules_same =
    let (p, p_is) = ok_of (policy one) h in
    let (q, q_is) = ok_of (policy other) g in
    q_is ∙ ap Ok (sym (same_read one other (was_read one p p_is) (was_read other q q_is) lifting session accounts_same stocks_same users_same rules_same)) ∙ sym p_is

-- a file that says the same but names no user means the same policy without users
pub policy_without_users : (one other : Members) → IsOk (policy one) → IsOk (policy other) → lift_alike one other
    → say_the_same (codes "session") one other → say_the_same (codes "account") one other → say_the_same (codes "stock") one other
    → get_member (codes "user") other ≡ None → say_the_same (codes "rule") one other → policy other ≡ without_users (policy one)
policy_without_users one other h g lifting session accounts_same stocks_same none rules_same =
    let (p, p_is) = ok_of (policy one) h in
    let (q, q_is) = ok_of (policy other) g in
    let w = was_read one p p_is in
    let v = was_read other q q_is in
    q_is ∙ ap Ok (sym (same_beside one other w v lifting session accounts_same stocks_same rules_same [] (no_users other v none))) ∙ ap without_users (sym p_is)

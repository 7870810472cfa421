-- The users in force of a legal day are sound, so a reader has room for an account that is not his.
use Rattle.std.proofs.{Common.{◌≡◌, ℕ, ◌+◌, ◌≤◌, arith, Bool, true, false, ◌&&◌, ◌||◌, not, nat_lt, cond, List, [], ◌∷◌, ◌++◌, map, length, refl, ap, sym, ◌∙◌, subst, if◌then◌else◌}, lemmas.{Bool.{Decides.nat_tests, and_parts, or_parts, not-true, or_right, and_from}, Cmp.nat_list_eq_equiv, List.{Folds.{list_all-append, list_any-append}, length-map}, Map.Made.length-le_from_is_member}}
use Rattle.std.specs.{Prelude.{Option, Some, None, option_and_then, option_map, is_some, find, filter}, Option.option_map_or, Cmp.IsEquivalence, List.{AllByRecursion, IsDistinct, list_all, list_any}}
use Rattle.gx_units.specs.{Names.{same_account, same_user}, declared.names.{AccountName.AccountName, UserName.UserName}}
use Rattle.gx_units.proofs.Names_equal.{same_account_flip, account_is}
use Rattle.gx_desk.specs.declared.Action.{Action}
use Rattle.gx_policy.specs.{declared.policy.{Account.Account, PolicyData.PolicyData, Role.Role, User.User}, Lists.are_distinct, People.{account_named, names_account, user_in}, Soundness.{are_accounts, is_role_sound, is_sound, is_user_sound}}
use Rattle.gx_history.specs.{declared.record.{Asked.Asked, RecordData.RecordData, Step.Step, Verdict.Verdict}, Asking.knows_names, Readers.reader_in, Requests.{action_of, asked_of, is_granted}, Verdicts.{Follows, IsLegal, next}}
use Rattle.gx_laws.proofs.{Requests_judged.legal_keeps, Names_differ.accounts_few, Commands_allowed.names_are_known, Commands_granted.grants_command}
use Rattle.gx_people.specs.Entitled.{account_limit, change_role, users_after, granted_to, has_room, people_in_force, revoked_from, role_has_room, with_account, without_account}
use Rattle.gx_people.proofs.Users_laws.{first_users, next_users}

-- ---- lists of accounts, none of them twice

-- one more that is not among them
distinct_push : (names : List AccountName) (account : AccountName) → are_distinct same_account names ≡ true → names_account names account ≡ false → are_distinct same_account (names ++ account ∷ []) ≡ true
distinct_push [] account h new = refl
distinct_push (n ∷ names) account h new =
    let parts = and_parts (not (list_any (same_account n) names)) (are_distinct same_account names) h in
    let apart = or_parts (same_account n account) (names_account names account) new in
    and_from (not (list_any (same_account n) (names ++ account ∷ []))) (are_distinct same_account (names ++ account ∷ []))
    (ap not (list_any-append (same_account n) names (account ∷ [])
    ∙ ap (λ b. b || (same_account n account || false)) (not-true (list_any (same_account n) names) parts.0)
    ∙ ap (λ b. b || false) apart.0))
    (distinct_push names account parts.1 apart.1)

any_left : (test keep : AccountName → Bool) (names : List AccountName) → list_any test names ≡ false → list_any test (filter keep names) ≡ false
any_left test keep [] none = refl
any_left test keep (n ∷ names) none =
    let parts = or_parts (test n) (list_any test names) none in
    elim (keep n) as (λ b. list_any test (cond b (n ∷ filter keep names) (filter keep names)) ≡ false)
    [ true ↦ ap (λ b. b || list_any test (filter keep names)) parts.0 ∙ any_left test keep names parts.1 | false ↦ any_left test keep names parts.1 ]

-- some of them
distinct_left : (keep : AccountName → Bool) (names : List AccountName) → are_distinct same_account names ≡ true → are_distinct same_account (filter keep names) ≡ true
distinct_left keep [] h = refl
distinct_left keep (n ∷ names) h =
    let parts = and_parts (not (list_any (same_account n) names)) (are_distinct same_account names) h in
    elim (keep n) as (λ b. are_distinct same_account (cond b (n ∷ filter keep names) (filter keep names)) ≡ true) [
      | true ↦ and_from (not (list_any (same_account n) (filter keep names))) (are_distinct same_account (filter keep names))
          (ap not (any_left (same_account n) keep names (not-true (list_any (same_account n) names) parts.0))) (distinct_left keep names parts.1)
      | false ↦ distinct_left keep names parts.1
    ]

all_left : (test keep : AccountName → Bool) (names : List AccountName) → list_all test names ≡ true → list_all test (filter keep names) ≡ true
all_left test keep [] h = refl
all_left test keep (n ∷ names) h =
    let parts = and_parts (test n) (list_all test names) h in
    elim (keep n) as (λ b. list_all test (cond b (n ∷ filter keep names) (filter keep names)) ≡ true)
    [ true ↦ and_from (test n) (list_all test (filter keep names)) parts.0 (all_left test keep names parts.1) | false ↦ all_left test keep names parts.1 ]

-- ---- the users in force are sound

with_sound : (policy : PolicyData) (account : AccountName) → is_some (account_named policy account) ≡ true → (role : Role) → is_role_sound policy role ≡ true → is_role_sound policy (with_account account role) ≡ true
with_sound policy account known (Role.Trader own) sound = sound
with_sound policy account known (Role.Officer powers scope) sound = sound
with_sound policy account known (Role.Reader names) sound = by (names_account names account) refl
  where
    by : (there : Bool) → names_account names account ≡ there → are_accounts policy (if there then names else names ++ account ∷ []) ≡ true
    by true is = sound
    by false is =
        let test : AccountName → Bool = λ (name : AccountName). is_some (account_named policy name) in
        let parts = and_parts (list_all test names) (are_distinct same_account names) sound in
        and_from (list_all test (names ++ account ∷ [])) (are_distinct same_account (names ++ account ∷ []))
        (list_all-append test names (account ∷ []) ∙ and_from (list_all test names) (test account && true) parts.0 (ap (λ b. b && true) known))
        (distinct_push names account parts.1 is)

without_sound : (policy : PolicyData) (account : AccountName) (role : Role) → is_role_sound policy role ≡ true → is_role_sound policy (without_account account role) ≡ true
without_sound policy account (Role.Trader own) sound = sound
without_sound policy account (Role.Officer powers scope) sound = sound
without_sound policy account (Role.Reader names) sound =
    let test : AccountName → Bool = λ (name : AccountName). is_some (account_named policy name) in
    let keep : AccountName → Bool = λ (name : AccountName). not (same_account name account) in
    let parts = and_parts (list_all test names) (are_distinct same_account names) sound in
    and_from (list_all test (filter keep names)) (are_distinct same_account (filter keep names)) (all_left test keep names parts.0) (distinct_left keep names parts.1)

changed_sound : (policy : PolicyData) (name : UserName) (change : Role → Role) → ((role : Role) → is_role_sound policy role ≡ true → is_role_sound policy (change role) ≡ true)
    → (users : List User) → list_all (is_user_sound policy) users ≡ true → list_all (is_user_sound policy) (map (change_role name change) users) ≡ true
changed_sound policy name change stays [] sound = refl
changed_sound policy name change stays (u ∷ users) sound =
    let parts = and_parts (is_user_sound policy u) (list_all (is_user_sound policy) users) sound in
    let own = and_parts _ (is_role_sound policy u.role) parts.0 in
    and_from (is_user_sound policy (change_role name change u)) (list_all (is_user_sound policy) (map (change_role name change) users))
    (and_from _ (is_role_sound policy (if same_user u.name name then change u.role else u.role)) own.0
    (elim (same_user u.name name) as (λ b. is_role_sound policy (if b then change u.role else u.role) ≡ true) [ true ↦ stays u.role own.1 | false ↦ own.1 ]))
    (changed_sound policy name change stays users parts.1)

-- after a command that names what is known
given_sound : (policy : PolicyData) (history : List RecordData) (users : List User) (action : Action) → knows_names policy history action ≡ true
    → list_all (is_user_sound policy) users ≡ true → list_all (is_user_sound policy) (users_after users action) ≡ true
given_sound policy history users (Action.Grant written account) known sound = by (reader_in users written)
  where
    account_known : is_some (account_named policy account) ≡ true
    account_known = (and_parts (is_some (reader_in policy.users written)) (is_some (account_named policy account)) known).1

    by : (found : Option User) → list_all (is_user_sound policy) (option_map_or (λ (u : User). granted_to u.name account users) found users) ≡ true
    by None = sound
    by (Some u) = changed_sound policy u.name (with_account account) (with_sound policy account account_known) users sound
given_sound policy history users (Action.Revoke written account) known sound = by (reader_in users written)
  where
    by : (found : Option User) → list_all (is_user_sound policy) (option_map_or (λ (u : User). revoked_from u.name account users) found users) ≡ true
    by None = sound
    by (Some u) = changed_sound policy u.name (without_account account) (without_sound policy account) users sound
given_sound policy history users (Action.Kill account) known sound = sound
given_sound policy history users (Action.Lift account) known sound = sound
given_sound policy history users (Action.SetLimit rule limit) known sound = sound
given_sound policy history users (Action.Restrict rule stock) known sound = sound
given_sound policy history users (Action.Unrestrict rule stock) known sound = sound
given_sound policy history users Action.CloseDay known sound = sound

abbrev AreSound : PolicyData → List User → Type 0
AreSound policy users = list_all (is_user_sound policy) users ≡ true

next_sound : {policy : PolicyData} {history : List RecordData} (r : RecordData) → AreSound policy (people_in_force policy history) → Follows policy (history, r)
    → AreSound policy (people_in_force policy (history ++ r ∷ []))
next_sound {policy} {history} r before follows = subst (AreSound policy) (sym (next_users policy history r)) (by r.verdict refl r.step refl)
  where
    users : List User
    users = people_in_force policy history

    by_action : (a : Asked) → r.step ≡ Step.Asked a → r.verdict ≡ Verdict.Granted → (action : Option Action) → action_of a.request ≡ action → AreSound policy (option_map_or (users_after users) action users)
    by_action a asks granted None is = before
    by_action a asks granted (Some action) is =
        let left : next policy history (Step.Asked a) ≡ Some r = ap (next policy history) (sym asks) ∙ follows.is_next in
        given_sound policy history users action (names_are_known policy history a r action (grants_command policy history a r action left is granted) left) before

    by : (v : Verdict) → r.verdict ≡ v → (s : Step) → r.step ≡ s
        → AreSound policy (option_map_or (users_after users) (option_and_then (λ (a : Asked). action_of a.request) (if is_granted v then asked_of s else None)) users)
    by Verdict.Granted granted (Step.Asked a) asks = by_action a asks granted (action_of a.request) refl
    by Verdict.Granted granted (Step.Matching handed) asks = before
    by (Verdict.Denied rule) denied s is = before
    by (Verdict.Filled f) filled s is = before
    by (Verdict.Rested n) rested s is = before
    by (Verdict.Expired n) expired s is = before

first_sound : (policy : PolicyData) → is_sound policy ≡ true → AreSound policy policy.users
unfolding is_sound
first_sound policy sound = (and_parts _ _ (and_parts _ _ sound).0).1

pub users_stay_sound : (policy : PolicyData) (history : List RecordData) → is_sound policy ≡ true → IsLegal policy history → AreSound policy (people_in_force policy history)
users_stay_sound policy history sound legal =
    legal_keeps (λ (h : List RecordData). AreSound policy (people_in_force policy h)) (subst (AreSound policy) (sym (first_users policy)) (first_sound policy sound))
    (λ (h : List RecordData) (r : RecordData) before follows. next_sound r before follows) legal

-- ---- so there is room

account_equiv : IsEquivalence same_account
account_equiv = record {
  refl = λ a. nat_list_eq_equiv.refl a.bytes;
  symm = λ a b. nat_list_eq_equiv.symm a.bytes b.bytes;
  congr = λ a b c. nat_list_eq_equiv.congr a.bytes b.bytes c.bytes;
}

-- a known account is among the names of the policy's
known_is_member : (accounts : List Account) (account : AccountName) → is_some (find (λ (a : Account). same_account a.name account) accounts) ≡ true
    → list_any (same_account account) (map (λ (a : Account). a.name) accounts) ≡ true
known_is_member [] account known = known
known_is_member (a ∷ accounts) account known = by (same_account a.name account) refl known (known_is_member accounts account)
  where
    rest : Bool
    rest = list_any (same_account account) (map (λ (b : Account). b.name) accounts)

    by : (b : Bool) → same_account a.name account ≡ b → is_some (cond b (Some a) (find (λ (x : Account). same_account x.name account) accounts)) ≡ true
        → (is_some (find (λ (x : Account). same_account x.name account) accounts) ≡ true → rest ≡ true) → (same_account account a.name || rest) ≡ true
    by true is h later = ap (λ b. b || rest) (same_account_flip account a.name ∙ is)
    by false is h later = or_right (same_account account a.name) rest (later h)

-- of known names each member is known
member_is_known : (policy : PolicyData) (names : List AccountName) → list_all (λ name. is_some (account_named policy name)) names ≡ true
    → (account : AccountName) → list_any (same_account account) names ≡ true → is_some (account_named policy account) ≡ true
member_is_known policy [] all account among = cc
member_is_known policy (n ∷ names) all account among = by (same_account account n) refl among (member_is_known policy names parts.1 account)
  where
    parts : (is_some (account_named policy n) ≡ true) × (list_all (λ name. is_some (account_named policy name)) names ≡ true)
    parts = and_parts (is_some (account_named policy n)) (list_all (λ name. is_some (account_named policy name)) names) all

    by : (b : Bool) → same_account account n ≡ b → (b || list_any (same_account account) names) ≡ true
        → (list_any (same_account account) names ≡ true → is_some (account_named policy account) ≡ true) → is_some (account_named policy account) ≡ true
    by true is h later = ap (λ (x : AccountName). is_some (account_named policy x)) (account_is account n is) ∙ parts.0
    by false is h later = later h

each_apart : (account : AccountName) (names : List AccountName) → list_any (same_account account) names ≡ false → AllByRecursion (λ name. same_account account name ≡ false) names
each_apart account [] none = tt
each_apart account (n ∷ names) none =
    let parts = or_parts (same_account account n) (list_any (same_account account) names) none in
    (parts.0, each_apart account names parts.1)

names_distinct : (names : List AccountName) → are_distinct same_account names ≡ true → IsDistinct same_account names
unfolding IsDistinct
names_distinct [] h = tt
names_distinct (n ∷ names) h =
    let parts = and_parts (not (list_any (same_account n) names)) (are_distinct same_account names) h in
    (each_apart n names (not-true (list_any (same_account n) names) parts.0), names_distinct names parts.1)

with_distinct : (account : AccountName) (names : List AccountName) → list_any (same_account account) names ≡ false → are_distinct same_account names ≡ true → IsDistinct same_account (account ∷ names)
unfolding IsDistinct
with_distinct account names new h = (each_apart account names new, names_distinct names h)

named_flip : (names : List AccountName) (account : AccountName) → list_any (same_account account) names ≡ names_account names account
named_flip [] account = refl
named_flip (n ∷ names) account = ap (λ b. b || list_any (same_account account) names) (same_account_flip account n) ∙ ap (λ b. same_account n account || b) (named_flip names account)

-- accounts of the policy, none of them twice, and one that is not among them: they are fewer than the policy's
fewer : (policy : PolicyData) (names : List AccountName) (account : AccountName) → is_some (account_named policy account) ≡ true → are_accounts policy names ≡ true
    → names_account names account ≡ false → length names + 1 ≤ length policy.accounts
fewer policy names account known sound new =
    let known_names = and_parts (list_all (λ name. is_some (account_named policy name)) names) (are_distinct same_account names) sound in
    let named : Account → AccountName = λ (a : Account). a.name in
    let all_known : list_all (λ name. is_some (account_named policy name)) (account ∷ names) ≡ true =
    and_from (is_some (account_named policy account)) (list_all (λ name. is_some (account_named policy name)) names) known known_names.0
    in
    let no_more : length (account ∷ names) ≤ length (map named policy.accounts) =
    length-le_from_is_member account_equiv (account ∷ names) (map named policy.accounts)
    (with_distinct account names (named_flip names account ∙ new) known_names.1)
    (λ q among. known_is_member policy.accounts q (member_is_known policy (account ∷ names) all_known q among))
    in
    let same : length (map named policy.accounts) ≡ length policy.accounts = length-map policy.accounts named in
    omega arith

few_enough : (n most : ℕ) → n + 1 ≤ most → most ≤ account_limit → nat_lt n account_limit ≡ true
few_enough n most less few = grind (arith, nat_tests)

role_room : (policy : PolicyData) (role : Role) (account : AccountName) → is_sound policy ≡ true → is_some (account_named policy account) ≡ true → is_role_sound policy role ≡ true
    → role_has_room role account ≡ true
role_room policy (Role.Trader own) account sound known is = refl
role_room policy (Role.Officer powers scope) account sound known is = refl
role_room policy (Role.Reader names) account sound known is = by (names_account names account) refl
  where
    by : (b : Bool) → names_account names account ≡ b → (b || nat_lt (length names) account_limit) ≡ true
    by true there = refl
    by false new = few_enough (length names) (length policy.accounts) (fewer policy names account known is new) (accounts_few policy sound)

found_sound : (policy : PolicyData) (users : List User) (name : UserName) (u : User) → AreSound policy users → user_in users name ≡ Some u → is_user_sound policy u ≡ true
found_sound policy [] name u sound found = cc
found_sound policy (v ∷ users) name u sound found = by (same_user v.name name) found (found_sound policy users name u parts.1)
  where
    parts : (is_user_sound policy v ≡ true) × AreSound policy users
    parts = and_parts (is_user_sound policy v) (list_all (is_user_sound policy) users) sound

    by : (b : Bool) → cond b (Some v) (user_in users name) ≡ Some u → (user_in users name ≡ Some u → is_user_sound policy u ≡ true) → is_user_sound policy u ≡ true
    by true is later = let same : v ≡ u = cc in subst (λ (w : User). is_user_sound policy w ≡ true) same parts.0
    by false is later = later is

-- in a legal day there is room for each account of the policy
pub readers_have_room : (policy : PolicyData) (history : List RecordData) (reader : UserName) (account : AccountName) → is_sound policy ≡ true → IsLegal policy history
    → is_some (account_named policy account) ≡ true → has_room (people_in_force policy history) reader account ≡ true
readers_have_room policy history reader account sound legal known = by (user_in (people_in_force policy history) reader) refl
  where
    by : (found : Option User) → user_in (people_in_force policy history) reader ≡ found → has_room (people_in_force policy history) reader account ≡ true
    by None is = ap (λ (o : Option User). option_map_or (λ role. role_has_room role account) (option_map (λ (u : User). u.role) o) true) is
    by (Some u) is =
        ap (λ (o : Option User). option_map_or (λ role. role_has_room role account) (option_map (λ (v : User). v.role) o) true) is
        ∙ role_room policy u.role account sound known
        (and_parts _ (is_role_sound policy u.role) (found_sound policy (people_in_force policy history) reader u (users_stay_sound policy history sound legal) is)).1

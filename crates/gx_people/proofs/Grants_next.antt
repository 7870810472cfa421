-- Grants and revocations one by one leave what the last of them says.
use Rattle.std.proofs.{Common.{◌≡◌, Bool, true, false, ◌&&◌, ◌||◌, not, cond, List, [], ◌∷◌, ◌++◌, map, fold, refl, ap, sym, ◌∙◌, true≢false, subst, if◌then◌else◌}, lemmas.{List.Folds.list_any-append, Map.Views.any-filter_same, Slice.Eq.bytes_eq-Decides, Bool.and_parts, Option.same_Some}}
use Rattle.std.specs.{Prelude.{Option, Some, None, option_map, option_and_then, is_some, find, unwrap_or, filter, filter_map}, Option.option_map_or, List.{last_or, cons_option}}
use Rattle.gx_units.specs.{Names.{same_user, same_account, has_no_lower_case}, declared.names.{AccountName.AccountName, UserName.UserName}}
use Rattle.gx_desk.specs.{Names.is_written, declared.{WrittenName.WrittenName, Action.Action}}
use Rattle.gx_policy.specs.{declared.policy.{PolicyData.PolicyData, Role.Role, User.User}, Lists.{last_value, where_true}, People.{is_reader, role_in, names_account, user_in}, Soundness.is_sound}
use Rattle.gx_history.specs.{declared.record.{Asked.Asked, RecordData.RecordData}, InForce.{in_role, is_entitled, grant_or_revoke_of, last_mark}, Readers.reader_in, Requests.{granted_of, granted_actions, granted_mark, action_of}}
use Rattle.gx_people.specs.Entitled.{change_role, with_account, without_account, granted_to, revoked_from, users_after, people_in_force, sees}
use Rattle.gx_people.proofs.{Names_apart.{AreUpper, same_written, sound_upper}, Users_stay.{user_changed, role_word, reader_stays, given_word}}
use Rattle.gx_units.proofs.{Test_known.or_false, Names_equal.{same_account_flip, account_is, user_is}}

or_flip : (a b : Bool) → (a || b) ≡ (b || a)
or_flip true true = refl
or_flip true false = refl
or_flip false true = refl
or_flip false false = refl

or_there : (a b : Bool) → (a ≡ true → b ≡ true) → b ≡ (a || b)
or_there true b there = there refl
or_there false b there = refl

-- one more account is among the names
names_with : (names : List AccountName) (a x : AccountName)
    → names_account (if names_account names a then names else names ++ a ∷ []) x ≡ (same_account x a || names_account names x)
names_with names a x = by (names_account names a) refl
  where
    by : (there : Bool) → names_account names a ≡ there → names_account (if there then names else names ++ a ∷ []) x ≡ (same_account x a || names_account names x)
    by true is = or_there (same_account x a) (names_account names x) (λ same. ap (names_account names) (account_is x a same) ∙ is)
    by false is =
        list_any-append (λ name. same_account name x) names (a ∷ [])
        ∙ or_flip (names_account names x) (same_account a x || false)
        ∙ ap (λ b. b || names_account names x) (or_false (same_account a x) ∙ same_account_flip a x)

-- one account less is among the names
names_without : (names : List AccountName) (a x : AccountName)
    → names_account (filter (λ name. not (same_account name a)) names) x ≡ (not (same_account x a) && names_account names x)
names_without names a x =
    any-filter_same (λ name. same_account name x) (λ name. not (same_account name a)) (not (same_account x a))
    (λ name same. ap (λ (n : AccountName). not (same_account n a)) (account_is name x same)) names

-- what a role sees, after a grant and after a revocation
granted_role : (b : Bool) (r : Role) (a x : AccountName) → is_reader (Some r) ≡ true → in_role (if b then with_account a r else r) x ≡ ((b && same_account x a) || in_role r x)
granted_role true (Role.Trader account) a x reads = absurd (true≢false (sym reads))
granted_role true (Role.Officer his scope) a x reads = absurd (true≢false (sym reads))
granted_role true (Role.Reader names) a x reads = names_with names a x
granted_role false r a x reads = refl

revoked_role : (b : Bool) (r : Role) (a x : AccountName) → in_role (if b then without_account a r else r) x ≡ (not (b && same_account x a) && in_role r x)
revoked_role true (Role.Trader account) a x = elim (same_account x a) as (λ b. false ≡ (not b && false)) [ true ↦ refl | false ↦ refl ]
revoked_role true (Role.Officer his scope) a x = elim (same_account x a) as (λ b. false ≡ (not b && false)) [ true ↦ refl | false ↦ refl ]
revoked_role true (Role.Reader names) a x = names_without names a x
revoked_role false r a x = refl

-- the user found has the name that was looked for
found_name : (users : List User) (name : UserName) (u : User) → user_in users name ≡ Some u → u.name ≡ name
found_name [] name u e = absurd (true≢false (sym (ap is_some e)))
found_name (v ∷ us) name u e = by (same_user v.name name) refl e (λ later. found_name us name u later)
  where
    by : (b : Bool) → same_user v.name name ≡ b → cond b (Some v) (user_in us name) ≡ Some u → (user_in us name ≡ Some u → u.name ≡ name) → u.name ≡ name
    by true is e later = ap (λ (w : User). w.name) (sym (same_Some _ _ e)) ∙ user_is v.name name is
    by false is e later = later e

sees_found : (users : List User) (r : UserName) (x : AccountName) (found : Option User) → user_in users r ≡ found
    → sees users r x ≡ option_map_or (λ role. in_role role x) (option_map (λ (u : User). u.role) found) false
sees_found users r x found e = ap (λ o. option_map_or (λ role. in_role role x) (option_map (λ (u : User). u.role) o) false) e

sees_changed : (n : UserName) (f : Role → Role) (users : List User) (r : UserName) (x : AccountName) (u : User) → user_in users r ≡ Some u
    → sees (map (change_role n f) users) r x ≡ in_role (if same_user r n then f u.role else u.role) x
sees_changed n f users r x u e =
    sees_found (map (change_role n f) users) r x (Some (change_role n f u)) (user_changed n f users r ∙ ap (option_map (change_role n f)) e)
    ∙ ap (λ (name : UserName). in_role (if same_user name n then f u.role else u.role) x) (found_name users r u e)

sees_nothing : (n : UserName) (f : Role → Role) (users : List User) (r : UserName) (x : AccountName) → user_in users r ≡ None
    → sees (map (change_role n f) users) r x ≡ false
sees_nothing n f users r x e = sees_found (map (change_role n f) users) r x None (user_changed n f users r ∙ ap (option_map (change_role n f)) e)

-- a grant to a user, at a reader
pub granted_reader : (n : UserName) (a : AccountName) (users : List User) (r : UserName) (x : AccountName) → is_reader (role_in users r) ≡ true
    → sees (granted_to n a users) r x ≡ ((same_user r n && same_account x a) || sees users r x)
granted_reader n a users r x reads = by (user_in users r) refl
  where
    by : (found : Option User) → user_in users r ≡ found → sees (granted_to n a users) r x ≡ ((same_user r n && same_account x a) || sees users r x)
    by None e = absurd (true≢false (sym reads ∙ ap (λ o. is_reader (option_map (λ (u : User). u.role) o)) e))
    by (Some u) e =
        sees_changed n (with_account a) users r x u e
        ∙ granted_role (same_user r n) u.role a x (sym (ap (λ o. is_reader (option_map (λ (u : User). u.role) o)) e) ∙ reads)
        ∙ ap (λ b. (same_user r n && same_account x a) || b) (sym (sees_found users r x (Some u) e))

-- a revocation takes one pair
pub revoked_pair : (n : UserName) (a : AccountName) (users : List User) (r : UserName) (x : AccountName)
    → sees (revoked_from n a users) r x ≡ (not (same_user r n && same_account x a) && sees users r x)
revoked_pair n a users r x = by (user_in users r) refl
  where
    none : (b : Bool) → false ≡ (not b && false)
    none true = refl
    none false = refl

    by : (found : Option User) → user_in users r ≡ found → sees (revoked_from n a users) r x ≡ (not (same_user r n && same_account x a) && sees users r x)
    by None e =
        sees_nothing n (without_account a) users r x e
        ∙ none (same_user r n && same_account x a)
        ∙ ap (λ b. not (same_user r n && same_account x a) && b) (sym (sees_found users r x None e))
    by (Some u) e =
        sees_changed n (without_account a) users r x u e
        ∙ revoked_role (same_user r n) u.role a x
        ∙ ap (λ b. not (same_user r n && same_account x a) && b) (sym (sees_found users r x (Some u) e))

-- who is no reader sees nothing
blind : (role : Option Role) (x : AccountName) → is_reader role ≡ false → option_map_or (λ r. in_role r x) role false ≡ false
blind None x unread = refl
blind (Some (Role.Trader account)) x unread = refl
blind (Some (Role.Officer his scope)) x unread = refl
blind (Some (Role.Reader names)) x unread = absurd (true≢false unread)

given_role : (b : Bool) (a : AccountName) (r : Role) → is_reader (Some (if b then with_account a r else r)) ≡ is_reader (Some r)
given_role true a r = (reader_stays a r).0
given_role false a r = refl

-- a grant to a reader adds one pair
pub granted_pair : (n : UserName) (a : AccountName) (users : List User) → is_reader (role_in users n) ≡ true → (r : UserName) (x : AccountName)
    → sees (granted_to n a users) r x ≡ ((same_user r n && same_account x a) || sees users r x)
granted_pair n a users known r x = by (is_reader (role_in users r)) refl
  where
    other : (same : Bool) → same_user r n ≡ same → is_reader (role_in users r) ≡ false → same ≡ false
    other true is unread = absurd (true≢false (sym known ∙ ap (λ (name : UserName). is_reader (role_in users name)) (sym (user_is r n is)) ∙ unread))
    other false is unread = refl

    still_none : (found : Option User) → user_in users r ≡ found → is_reader (role_in users r) ≡ false → is_reader (role_in (granted_to n a users) r) ≡ false
    still_none None e unread = ap (λ o. is_reader (option_map (λ (u : User). u.role) o)) (user_changed n (with_account a) users r ∙ ap (option_map (change_role n (with_account a))) e)
    still_none (Some u) e unread =
        ap (λ o. is_reader (option_map (λ (u : User). u.role) o)) (user_changed n (with_account a) users r ∙ ap (option_map (change_role n (with_account a))) e)
        ∙ given_role (same_user u.name n) a u.role
        ∙ (sym (ap (λ o. is_reader (option_map (λ (u : User). u.role) o)) e) ∙ unread)

    by : (b : Bool) → is_reader (role_in users r) ≡ b → sees (granted_to n a users) r x ≡ ((same_user r n && same_account x a) || sees users r x)
    by true reads = granted_reader n a users r x reads
    by false unread =
        blind (role_in (granted_to n a users) r) x (still_none (user_in users r) refl unread)
        ∙ sym (ap (λ b. (b && same_account x a) || sees users r x) (other (same_user r n) refl unread) ∙ blind (role_in users r) x unread)

found_upper : (test : User → Bool) (users : List User) (u : User) → AreUpper users → find test users ≡ Some u → (has_no_lower_case u.name.bytes ≡ true) × (test u ≡ true)
found_upper test [] u upper e = absurd (true≢false (sym (ap is_some e)))
found_upper test (v ∷ us) u upper e = by (test v) refl e (λ later. found_upper test us u upper.1 later)
  where
    by : (b : Bool) → test v ≡ b → cond b (Some v) (find test us) ≡ Some u → (find test us ≡ Some u → (has_no_lower_case u.name.bytes ≡ true) × (test u ≡ true))
        → (has_no_lower_case u.name.bytes ≡ true) × (test u ≡ true)
    by true is e later = subst (λ (w : User). (has_no_lower_case w.name.bytes ≡ true) × (test w ≡ true)) (same_Some _ _ e) (upper.0, is)
    by false is e later = later e

-- where the first test finds nothing, what the second finds fails the first
found_fails : (test other : User → Bool) (users : List User) (u : User) → find test users ≡ None → find other users ≡ Some u → test u ≡ false
found_fails test other [] u none e = absurd (true≢false (sym (ap is_some e)))
found_fails test other (v ∷ us) u none e = by (test v) (other v) refl none e (λ rest later. found_fails test other us u rest later)
  where
    by : (b c : Bool) → test v ≡ b → cond b (Some v) (find test us) ≡ None → cond c (Some v) (find other us) ≡ Some u
        → (find test us ≡ None → find other us ≡ Some u → test u ≡ false) → test u ≡ false
    by true c is none e later = absurd (true≢false (ap is_some none))
    by false true is none e later = ap test (sym (same_Some _ _ e)) ∙ is
    by false false is none e later = later none e

fails_left : (a b : Bool) → (a && b) ≡ false → b ≡ true → a ≡ false
fails_left true b h k = absurd (true≢false (sym k ∙ h))
fails_left false b h k = refl

-- the mark of a grant, and of a revocation, decides
marked_true : (written same seen : Bool) → ((written && same) || seen) ≡ unwrap_or (where_true (written && same) true) seen
marked_true true true seen = refl
marked_true true false seen = refl
marked_true false same seen = refl

marked_false : (written same seen : Bool) → (not (written && same) && seen) ≡ unwrap_or (where_true (written && same) false) seen
marked_false true true seen = refl
marked_false true false seen = refl
marked_false false same seen = refl

-- the reader whom a command names is the one of that name
named_so : (users : List User) (written : WrittenName) (reader : UserName) (u v : User) → AreUpper users → user_in users reader ≡ Some u → reader_in users written ≡ Some v
    → same_user reader v.name ≡ is_written written reader
named_so users written reader u v upper is found =
    let of_u = found_upper (λ (w : User). same_user w.name reader) users u upper is in
    let of_v = found_upper (λ (w : User). is_written written w.name && is_reader (Some w.role)) users v upper found in
    let name : u.name ≡ reader = found_name users reader u is in
    let reader_upper : has_no_lower_case reader.bytes ≡ true = subst (λ (n : UserName). has_no_lower_case n.bytes ≡ true) name of_u.0 in
    let v_is_written : is_written written v.name ≡ true = (and_parts (is_written written v.name) (is_reader (Some v.role)) of_v.1).0 in
    by (is_written written reader) (same_user reader v.name) refl refl
    (λ so. (bytes_eq-Decides reader.bytes v.name.bytes).1 (ap (λ (n : UserName). n.bytes) (same_written written reader v.name reader_upper of_v.0 so v_is_written)))
    (λ same. ap (is_written written) (user_is reader v.name same) ∙ v_is_written)
  where
    by : (b c : Bool) → is_written written reader ≡ b → same_user reader v.name ≡ c → (is_written written reader ≡ true → same_user reader v.name ≡ true)
        → (same_user reader v.name ≡ true → is_written written reader ≡ true) → same_user reader v.name ≡ is_written written reader
    by true c e f to back = to e ∙ sym e
    by false true e f to back = f ∙ sym (back f)
    by false false e f to back = f ∙ sym e

-- a command that names no reader does not name this one
not_named : (users : List User) (written : WrittenName) (reader : UserName) (u : User) → user_in users reader ≡ Some u → is_reader (Some u.role) ≡ true → reader_in users written ≡ None
    → is_written written reader ≡ false
not_named users written reader u is reads none =
    ap (is_written written) (sym (found_name users reader u is))
    ∙ fails_left (is_written written u.name) (is_reader (Some u.role))
    (found_fails (λ (w : User). is_written written w.name && is_reader (Some w.role)) (λ (w : User). same_user w.name reader) users u none is) reads

-- one more command, at a reader
module _ (users : List User) (reader : UserName) (account : AccountName) (officer : UserName) (upper : AreUpper users) (u : User) (is : user_in users reader ≡ Some u) (reads : is_reader (Some u.role) ≡ true) where
  known : is_reader (role_in users reader) ≡ true
  known = ap (λ o. is_reader (option_map (λ (w : User). w.role) o)) is ∙ reads

  grant_seen : (written : WrittenName) (named : AccountName) (found : Option User) → reader_in users written ≡ found
      → sees (option_map_or (λ (v : User). granted_to v.name named users) found users) reader account
      ≡ unwrap_or (where_true (is_written written reader && same_account named account) true) (sees users reader account)
  grant_seen written named None e =
      ap (λ b. unwrap_or (where_true (b && same_account named account) true) (sees users reader account)) (sym (not_named users written reader u is reads e))
  grant_seen written named (Some v) e =
      granted_reader v.name named users reader account known
      ∙ ap (λ b. (b && same_account account named) || sees users reader account) (named_so users written reader u v upper is e)
      ∙ ap (λ b. (is_written written reader && b) || sees users reader account) (same_account_flip account named)
      ∙ marked_true (is_written written reader) (same_account named account) (sees users reader account)

  revoke_seen : (written : WrittenName) (named : AccountName) (found : Option User) → reader_in users written ≡ found
      → sees (option_map_or (λ (v : User). revoked_from v.name named users) found users) reader account
      ≡ unwrap_or (where_true (is_written written reader && same_account named account) false) (sees users reader account)
  revoke_seen written named None e =
      ap (λ b. unwrap_or (where_true (b && same_account named account) false) (sees users reader account)) (sym (not_named users written reader u is reads e))
  revoke_seen written named (Some v) e =
      revoked_pair v.name named users reader account
      ∙ ap (λ b. not (b && same_account account named) && sees users reader account) (named_so users written reader u v upper is e)
      ∙ ap (λ b. not (is_written written reader && b) && sees users reader account) (same_account_flip account named)
      ∙ marked_false (is_written written reader) (same_account named account) (sees users reader account)

  one_more : (action : Action) → sees (users_after users action) reader account ≡ unwrap_or (grant_or_revoke_of reader account officer action) (sees users reader account)
  one_more (Action.Grant written named) = grant_seen written named (reader_in users written) refl
  one_more (Action.Revoke written named) = revoke_seen written named (reader_in users written) refl
  one_more (Action.Kill a) = refl
  one_more (Action.Lift a) = refl
  one_more (Action.SetLimit rule limit) = refl
  one_more (Action.Restrict rule stock) = refl
  one_more (Action.Unrestrict rule stock) = refl
  one_more Action.CloseDay = refl

changed_upper : (n : UserName) (f : Role → Role) (users : List User) → AreUpper users → AreUpper (map (change_role n f) users)
changed_upper n f [] upper = tt
changed_upper n f (u ∷ users) upper = (upper.0, changed_upper n f users upper.1)

-- what the steps need of the users stays
pub given_upper : (users : List User) (action : Action) → AreUpper users → AreUpper (users_after users action)
given_upper users (Action.Grant written a) upper = by (reader_in users written)
  where
    by : (found : Option User) → AreUpper (option_map_or (λ (u : User). granted_to u.name a users) found users)
    by None = upper
    by (Some v) = changed_upper v.name (with_account a) users upper
given_upper users (Action.Revoke written a) upper = by (reader_in users written)
  where
    by : (found : Option User) → AreUpper (option_map_or (λ (u : User). revoked_from u.name a users) found users)
    by None = upper
    by (Some v) = changed_upper v.name (without_account a) users upper
given_upper users (Action.Kill a) upper = upper
given_upper users (Action.Lift a) upper = upper
given_upper users (Action.SetLimit rule limit) upper = upper
given_upper users (Action.Restrict rule stock) upper = upper
given_upper users (Action.Unrestrict rule stock) upper = upper
given_upper users Action.CloseDay upper = upper

at_reader : (users : List User) (reader : UserName) (account : AccountName) (officer : UserName) → AreUpper users → is_reader (role_in users reader) ≡ true
    → (action : Action) → sees (users_after users action) reader account ≡ unwrap_or (grant_or_revoke_of reader account officer action) (sees users reader account)
at_reader users reader account officer upper reads action = by (user_in users reader) refl
  where
    by : (found : Option User) → user_in users reader ≡ found → sees (users_after users action) reader account ≡ unwrap_or (grant_or_revoke_of reader account officer action) (sees users reader account)
    by None e = absurd (true≢false (sym reads ∙ ap (λ o. is_reader (option_map (λ (u : User). u.role) o)) e))
    by (Some u) e = one_more users reader account officer upper u e (sym (ap (λ o. is_reader (option_map (λ (u : User). u.role) o)) e) ∙ reads) action

last_some : {Y : Type 0} (y d e : Y) (ys : List Y) → unwrap_or (last_or (Some y) ys) d ≡ unwrap_or (last_or (Some y) ys) e
last_some y d e [] = refl
last_some y d e (z ∷ ys) = last_some z d e ys

last_from : {Y : Type 0} (y d : Y) (ys : List Y) → unwrap_or (last_or (Some y) ys) d ≡ unwrap_or (last_or None ys) y
last_from y d [] = refl
last_from y d (z ∷ ys) = last_some z d y ys

-- the first element's mark stands until a later one
last_value_first : {X Y : Type 0} (mark : X → Option Y) (d : Y) (x : X) (xs : List X) → last_value mark d (x ∷ xs) ≡ last_value mark (unwrap_or (mark x) d) xs
last_value_first {X} {Y} mark d x xs = by (mark x)
  where
    by : (m : Option Y) → unwrap_or (last_or None (cons_option m (filter_map mark xs))) d ≡ unwrap_or (last_or None (filter_map mark xs)) (unwrap_or m d)
    by None = refl
    by (Some y) = last_from y d (filter_map mark xs)

still_reads : (users : List User) (action : Action) (reader : UserName) → is_reader (role_in users reader) ≡ true → is_reader (role_in (users_after users action) reader) ≡ true
still_reads users action reader reads = given_word (λ (role : Option Role). is_reader role) reader_stays users action reader ∙ reads

-- the commands of these records, one by one
entitled_from : (history : List RecordData) (users : List User) (reader : UserName) (account : AccountName) → AreUpper users → is_reader (role_in users reader) ≡ true
    → sees (fold users_after users (granted_actions history)) reader account ≡ last_mark (grant_or_revoke_of reader account) history (sees users reader account)
entitled_from [] users reader account upper reads = refl
entitled_from (r ∷ rs) users reader account upper reads =
    by_record (granted_of r) (λ us up known. entitled_from rs us reader account up known)
    ∙ sym (last_value_first (granted_mark (grant_or_revoke_of reader account)) (sees users reader account) r rs)
  where
    Goes : List User → Type 0
    Goes us = AreUpper us → is_reader (role_in us reader) ≡ true
        → sees (fold users_after us (granted_actions rs)) reader account ≡ last_mark (grant_or_revoke_of reader account) rs (sees us reader account)

    by_action : (officer : UserName) (action : Option Action) → ((us : List User) → Goes us)
        → sees (fold users_after users (cons_option action (granted_actions rs))) reader account
        ≡ last_mark (grant_or_revoke_of reader account) rs (unwrap_or (option_and_then (grant_or_revoke_of reader account officer) action) (sees users reader account))
    by_action officer None later = later users upper reads
    by_action officer (Some action) later =
        later (users_after users action) (given_upper users action upper) (still_reads users action reader reads)
        ∙ ap (last_mark (grant_or_revoke_of reader account) rs) (at_reader users reader account officer upper reads action)

    by_record : (o : Option Asked) → ((us : List User) → Goes us)
        → sees (fold users_after users (cons_option (option_and_then (λ (a : Asked). action_of a.request) o) (granted_actions rs))) reader account
        ≡ last_mark (grant_or_revoke_of reader account) rs (unwrap_or (option_and_then (λ (a : Asked). option_and_then (grant_or_revoke_of reader account a.user) (action_of a.request)) o) (sees users reader account))
    by_record None later = later users upper reads
    by_record (Some a) later = by_action a.user (action_of a.request) later

-- who sees what in force is who is entitled
pub kept : (policy : PolicyData) (history : List RecordData) (reader : UserName) (account : AccountName) → is_sound policy ≡ true
    → sees (people_in_force policy history) reader account ≡ is_entitled policy history reader account
unfolding people_in_force is_entitled
kept policy history reader account sound = by (is_reader (role_in policy.users reader)) refl
  where
    by : (b : Bool) → is_reader (role_in policy.users reader) ≡ b → sees (people_in_force policy history) reader account ≡ is_entitled policy history reader account
    by true reads =
        entitled_from history policy.users reader account (sound_upper policy sound) reads
        ∙ ap (λ b. b && last_mark (grant_or_revoke_of reader account) history (sees policy.users reader account)) (sym reads)
    by false unread =
        blind (role_in (people_in_force policy history) reader) account (role_word (λ (role : Option Role). is_reader role) reader_stays policy history reader ∙ unread)
        ∙ ap (λ b. b && last_mark (grant_or_revoke_of reader account) history (sees policy.users reader account)) (sym unread)

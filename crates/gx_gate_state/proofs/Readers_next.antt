-- Whose fills readers get, as a Grant or a Revoke changes it, and at the beginning of a day.
use Rattle.std.proofs.{Common.{◌≡◌, ℕ, ◌+◌, ◌<◌, Bool, true, false, true≢false, cond, not, ◌&&◌, List, [], ◌∷◌, ◌++◌, length, map, take, get_or, refl, ◌∙◌, ap, sym, subst, if◌then◌else◌}, lemmas.{List.{Sums.fold_push, take_more}, Bool.{and_parts, not-true}, Option.same_Some}}
use Rattle.std.specs.{Prelude.{◌||◌, Option, Some, None, is_some, option_map, fold, find}, Option.option_map_or, List.{flat_map, list_any}}
use Rattle.gx_units.specs.{Names.{same_account, same_user}, declared.names.{AccountName.AccountName, UserName.UserName}}
use Rattle.gx_units.proofs.Names_equal.{same_user_flip, user_is, user_is_itself}
use Rattle.gx_desk.specs.declared.Action.{Action}
use Rattle.gx_policy.specs.{declared.policy.{PolicyData.PolicyData, Role.Role, User.User}, Lists.are_distinct, Soundness.is_sound, People.{is_reader, role_in, user_in}}
use Rattle.gx_history.specs.{declared.report.Report.Report, InForce.in_role, Masks.mask_by, Readers.reader_in}
use Rattle.gx_laws.proofs.{Masks_bits.same_mask, Names_differ.users_differ}
use Rattle.gx_people.specs.Entitled.{change_role, users_after, granted_to, has_room, revoked_from, sees, sees_with, sees_without, with_account, without_account}
use Rattle.gx_streams.specs.{Kept.at_first, Streams.{AllStreams, ReaderMask, empty_streams, with_reader_entitled, mask_in, no_mask, with_mask}, Telling.{shown_streams, shown_list, with_all_reports, with_report}}
use Rattle.gx_gate_state.specs.{State.{AreSentTo, mask_for}, Settings.{sent_on, sent_to}}
use Rattle.gx_gate_state.proofs.State_next.{still_sent}

-- ---- masks

-- another mask for one reader is his alone
mask_changed : (readers : List ReaderMask) (name user : UserName) (mask : ℕ)
    → mask_in (at_first (λ (r : ReaderMask). same_user name r.user) (with_mask mask) readers) user ≡ (if same_user name user then option_map (λ (m : ℕ). mask) (mask_in readers user) else mask_in readers user)
mask_changed [] name user mask = elim (same_user name user) as (λ b. None ≡ (if b then option_map (λ (m : ℕ). mask) None else None)) [ true ↦ refl | false ↦ refl ]
mask_changed (r ∷ rs) name user mask = by (same_user name r.user) refl (same_user user r.user) refl (same_user name user) refl (mask_changed rs name user mask)
  where
    of : Option ReaderMask → Option ℕ
    of o = option_map (λ (x : ReaderMask). x.mask) o

    his : List ReaderMask → Option ReaderMask
    his l = find (λ (x : ReaderMask). same_user user x.user) l

    later : List ReaderMask
    later = at_first (λ (x : ReaderMask). same_user name x.user) (with_mask mask) rs

    now : Bool → Bool → Option ℕ
    now a b = of (if a then cond b (Some (with_mask mask r)) (his rs) else cond b (Some r) (his later))

    was : Bool → Bool → Option ℕ
    was b c = if c then option_map (λ (m : ℕ). mask) (of (cond b (Some r) (his rs))) else of (cond b (Some r) (his rs))

    opened : (a : Bool) → mask_in (if a then with_mask mask r ∷ rs else r ∷ later) user ≡ now a (same_user user r.user)
    opened true = refl
    opened false = refl

    by : (a : Bool) → same_user name r.user ≡ a → (b : Bool) → same_user user r.user ≡ b → (c : Bool) → same_user name user ≡ c
        → of (his later) ≡ (if same_user name user then option_map (λ (m : ℕ). mask) (of (his rs)) else of (his rs))
        → mask_in (if same_user name r.user then with_mask mask r ∷ rs else r ∷ later) user ≡ was (same_user user r.user) (same_user name user)
    by a is_a b is_b c is_c rest =
        opened (same_user name r.user) ∙ ap (λ x. now x (same_user user r.user)) is_a ∙ ap (now a) is_b
        ∙ at a b c is_a is_b is_c (rest ∙ ap (λ x. if x then option_map (λ (m : ℕ). mask) (of (his rs)) else of (his rs)) is_c)
        ∙ sym (ap (λ x. was x (same_user name user)) is_b ∙ ap (was b) is_c)
      where
        at : (a b c : Bool) → same_user name r.user ≡ a → same_user user r.user ≡ b → same_user name user ≡ c
            → of (his later) ≡ (if c then option_map (λ (m : ℕ). mask) (of (his rs)) else of (his rs)) → now a b ≡ was b c
        at true true true p q s e = refl
        at true true false p q s e =
            let same : same_user name user ≡ true = ap (λ (x : UserName). same_user name x) (user_is user r.user q) ∙ p in absurd (true≢false (sym same ∙ s))
        at true false true p q s e =
            let same : same_user user r.user ≡ true = ap (λ (x : UserName). same_user x r.user) (sym (user_is name user s)) ∙ p in absurd (true≢false (sym same ∙ q))
        at true false false p q s e = refl
        at false true true p q s e =
            let same : same_user name r.user ≡ true = ap (λ (x : UserName). same_user x r.user) (user_is name user s) ∙ q in absurd (true≢false (sym same ∙ p))
        at false true false p q s e = refl
        at false false true p q s e = e
        at false false false p q s e = e

-- who has another name sees what he saw
others_see : (name user : UserName) (change : Role → Role) → same_user name user ≡ false → (users : List User) (account : AccountName)
    → sees (map (change_role name change) users) user account ≡ sees users user account
others_see name user change apart [] account = refl
others_see name user change apart (u ∷ users) account = by (same_user u.name user) refl (others_see name user change apart users account)
  where
    seen : Option User → Bool
    seen o = option_map_or (λ (role : Role). in_role role account) (option_map (λ (x : User). x.role) o) false

    by : (b : Bool) → same_user u.name user ≡ b → seen (user_in (map (change_role name change) users) user) ≡ seen (user_in users user)
        → seen (cond (same_user u.name user) (Some (change_role name change u)) (user_in (map (change_role name change) users) user)) ≡ seen (cond (same_user u.name user) (Some u) (user_in users user))
    by true is later =
        let other : same_user u.name name ≡ false = ap (λ (x : UserName). same_user x name) (user_is u.name user is) ∙ same_user_flip user name ∙ apart in
        ap (λ b. seen (cond b (Some (change_role name change u)) (user_in (map (change_role name change) users) user))) is
        ∙ ap (λ b. in_role (if b then change u.role else u.role) account) other
        ∙ sym (ap (λ b. seen (cond b (Some u) (user_in users user))) is)
    by false is later =
        ap (λ b. seen (cond b (Some (change_role name change u)) (user_in (map (change_role name change) users) user))) is ∙ later
        ∙ sym (ap (λ b. seen (cond b (Some u) (user_in users user))) is)

constant : (b : Bool) (old new : ℕ) → option_map (λ (m : ℕ). new) (if b then Some old else None) ≡ (if b then Some new else None)
constant true old new = refl
constant false old new = refl

-- one reader's mask by what he sees now, where nobody else's sight has changed
sent_one : (policy : PolicyData) (before now : List User) (streams : AllStreams) (name : UserName)
    → ((user : UserName) → same_user name user ≡ false → (account : AccountName) → sees now user account ≡ sees before user account)
    → AreSentTo policy before streams.readers → AreSentTo policy now (with_reader_entitled name (mask_by (sees now name) policy.accounts) streams).readers
sent_one policy before now streams name others sent user = mask_changed streams.readers name user mask ∙ by (same_user name user) refl
  where
    mask : ℕ
    mask = mask_by (sees now name) policy.accounts

    by : (b : Bool) → same_user name user ≡ b → (if same_user name user then option_map (λ (m : ℕ). mask) (mask_in streams.readers user) else mask_in streams.readers user) ≡ mask_for policy now user
    by true is =
        ap (λ b. if b then option_map (λ (m : ℕ). mask) (mask_in streams.readers user) else mask_in streams.readers user) is
        ∙ ap (option_map (λ (m : ℕ). mask)) (sent user)
        ∙ constant (is_reader (role_in policy.users user)) (mask_by (sees before user) policy.accounts) mask
        ∙ ap (λ (x : UserName). if is_reader (role_in policy.users user) then Some (mask_by (sees now x) policy.accounts) else None) (user_is name user is)
    by false is =
        ap (λ b. if b then option_map (λ (m : ℕ). mask) (mask_in streams.readers user) else mask_in streams.readers user) is
        ∙ sent user
        ∙ ap (λ (m : ℕ). if is_reader (role_in policy.users user) then Some m else None)
        (same_mask (sees before user) (sees now user) (λ account. sym (others user is account)) policy.accounts)

-- each reader gets the fills of what he sees after the command
pub sent_after : (policy : PolicyData) (before now : List User) (streams : AllStreams) (action : Action) → now ≡ users_after before action
    → AreSentTo policy before streams.readers → AreSentTo policy now (sent_on policy before now streams action).readers
sent_after policy before now streams (Action.Kill account) is sent = still_sent policy before now streams.readers streams.readers is refl sent
sent_after policy before now streams (Action.Lift account) is sent = still_sent policy before now streams.readers streams.readers is refl sent
sent_after policy before now streams (Action.SetLimit rule limit) is sent = still_sent policy before now streams.readers streams.readers is refl sent
sent_after policy before now streams (Action.Restrict rule stock) is sent = still_sent policy before now streams.readers streams.readers is refl sent
sent_after policy before now streams (Action.Unrestrict rule stock) is sent = still_sent policy before now streams.readers streams.readers is refl sent
sent_after policy before now streams Action.CloseDay is sent = still_sent policy before now streams.readers streams.readers is refl sent
sent_after policy before now streams (Action.Grant written account) is sent = by (reader_in before written) is
  where
    by : (found : Option User) → now ≡ option_map_or (λ (u : User). granted_to u.name account before) found before → AreSentTo policy now (sent_to policy now streams found).readers
    by None same = still_sent policy before now streams.readers streams.readers same refl sent
    by (Some u) same =
        sent_one policy before now streams u.name
        (λ user apart other. ap (λ us. sees us user other) same ∙ others_see u.name user (with_account account) apart before other) sent
sent_after policy before now streams (Action.Revoke written account) is sent = by (reader_in before written) is
  where
    by : (found : Option User) → now ≡ option_map_or (λ (u : User). revoked_from u.name account before) found before → AreSentTo policy now (sent_to policy now streams found).readers
    by None same = still_sent policy before now streams.readers streams.readers same refl sent
    by (Some u) same =
        sent_one policy before now streams u.name
        (λ user apart other. ap (λ us. sees us user other) same ∙ others_see u.name user (without_account account) apart before other) sent

-- a command changes no list by it
sent_to_told : (policy : PolicyData) (now : List User) (streams : AllStreams) (found : Option User) → (sent_to policy now streams found).lists ≡ streams.lists
sent_to_told policy now streams None = refl
sent_to_told policy now streams (Some u) = refl

pub sent_told : (policy : PolicyData) (before now : List User) (streams : AllStreams) (action : Action) → (sent_on policy before now streams action).lists ≡ streams.lists
sent_told policy before now streams (Action.Kill account) = refl
sent_told policy before now streams (Action.Lift account) = refl
sent_told policy before now streams (Action.SetLimit rule limit) = refl
sent_told policy before now streams (Action.Restrict rule stock) = refl
sent_told policy before now streams (Action.Unrestrict rule stock) = refl
sent_told policy before now streams Action.CloseDay = refl
sent_told policy before now streams (Action.Grant written account) = sent_to_told policy now streams (reader_in before written)
sent_told policy before now streams (Action.Revoke written account) = sent_to_told policy now streams (reader_in before written)

pub shown_by_told : (streams other : AllStreams) → streams.lists ≡ other.lists → shown_streams streams ≡ shown_streams other
unfolding shown_streams
shown_by_told streams other same = ap (map shown_list) same

-- nor does telling change a mask
pub owed_masks : (owed : List (UserName × Report)) (streams : AllStreams) → (with_all_reports owed streams).readers ≡ streams.readers
owed_masks [] streams = refl
owed_masks (o ∷ owed) streams = owed_masks owed (with_report streams o)

-- ---- what a Revoke leaves, before it is made

-- what he would see without the account is what he sees once it is taken from him
pub without_is : (policy : PolicyData) (before now : List User) (reader : UserName) (account : AccountName)
    → ((user : UserName) (other : AccountName) → sees now user other ≡ (not (same_user user reader && same_account other account) && sees before user other))
    → mask_by (sees_without before reader account) policy.accounts ≡ mask_by (sees now reader) policy.accounts
without_is policy before now reader account pair =
    same_mask (sees_without before reader account) (sees now reader)
    (λ other. ap (λ b. not (b && same_account other account) && sees before reader other) (sym (user_is_itself reader)) ∙ sym (pair reader other)) policy.accounts

-- and what he would see with it is what he sees once it is given to him
pub with_is : (policy : PolicyData) (before now : List User) (reader : UserName) (account : AccountName)
    → ((user : UserName) (other : AccountName) → sees now user other ≡ ((same_user user reader && same_account other account) || sees before user other))
    → mask_by (sees_with before reader account) policy.accounts ≡ mask_by (sees now reader) policy.accounts
with_is policy before now reader account pair =
    same_mask (sees_with before reader account) (sees now reader)
    (λ other. ap (λ b. (b && same_account other account) || sees before reader other) (sym (user_is_itself reader)) ∙ sym (pair reader other)) policy.accounts

-- ---- the beginning of a day

-- one user is sent what he sees
abbrev pub sent_user : PolicyData → List User → AllStreams → User → AllStreams
sent_user policy people streams u = with_reader_entitled u.name (mask_by (sees people u.name) policy.accounts) streams

-- and each of these
abbrev pub sent_users : PolicyData → List User → List User → AllStreams → AllStreams
sent_users policy people users streams = fold (sent_user policy people) streams users

told_stays : (policy : PolicyData) (people users : List User) (streams : AllStreams) → (sent_users policy people users streams).lists ≡ streams.lists
told_stays policy people [] streams = refl
told_stays policy people (u ∷ users) streams = told_stays policy people users (sent_user policy people streams u)

pub shown_stays : (policy : PolicyData) (people users : List User) (before now : AllStreams) → now ≡ sent_users policy people users before → shown_streams now ≡ shown_streams before
shown_stays policy people users before now is = ap shown_streams is ∙ shown_by_told (sent_users policy people users before) before (told_stays policy people users before)

-- one more of them
pub sent_next : (policy : PolicyData) (people users : List User) (i : ℕ) (u : User) (mask : ℕ) (before streams now : AllStreams) → i < length users → u ≡ get_or users i u
    → mask ≡ mask_by (sees people u.name) policy.accounts → now ≡ with_reader_entitled u.name mask streams → streams ≡ sent_users policy people (take i users) before
    → now ≡ sent_users policy people (take (i + 1) users) before
sent_next policy people users i u mask before streams now within at mask_is now_is so_far =
    now_is ∙ ap (λ (m : ℕ). with_reader_entitled u.name m streams) mask_is ∙ ap (λ (s : AllStreams). sent_user policy people s u) so_far
    ∙ sym (fold_push (sent_user policy people) before (take i users) u)
    ∙ ap (λ (us : List User). sent_users policy people us before) (sym (take_more users i u within ∙ ap (λ (x : User). take i users ++ x ∷ []) (sym at)))

twice : (o : Option ℕ) (m : ℕ) → option_map (λ (x : ℕ). m) (option_map (λ (x : ℕ). m) o) ≡ option_map (λ (x : ℕ). m) o
twice None m = refl
twice (Some x) m = refl

-- who is one of them has the mask of what he sees
masks_sent : (policy : PolicyData) (people users : List User) (streams : AllStreams) (user : UserName)
    → mask_in (sent_users policy people users streams).readers user
    ≡ (if is_some (user_in users user) then option_map (λ (m : ℕ). mask_by (sees people user) policy.accounts) (mask_in streams.readers user) else mask_in streams.readers user)
masks_sent policy people [] streams user = refl
masks_sent policy people (u ∷ users) streams user =
    masks_sent policy people users (sent_user policy people streams u) user
    ∙ ap (λ o. later (is_some (user_in users user)) o) (mask_changed streams.readers u.name user (mask_by (sees people u.name) policy.accounts))
    ∙ by (same_user u.name user) refl
  where
    his : ℕ
    his = mask_by (sees people user) policy.accounts

    had : Option ℕ
    had = mask_in streams.readers user

    there : Bool
    there = is_some (user_in users user)

    later : Bool → Option ℕ → Option ℕ
    later b o = if b then option_map (λ (m : ℕ). his) o else o

    changed : Bool → Option ℕ
    changed c = if c then option_map (λ (m : ℕ). mask_by (sees people u.name) policy.accounts) had else had

    again : (b : Bool) → later b (option_map (λ (m : ℕ). his) had) ≡ option_map (λ (m : ℕ). his) had
    again true = twice had his
    again false = refl

    by : (c : Bool) → same_user u.name user ≡ c → later there (changed (same_user u.name user)) ≡ later (is_some (cond (same_user u.name user) (Some u) (user_in users user))) had
    by true is =
        ap (λ c. later there (changed c)) is
        ∙ ap (λ (x : UserName). later there (option_map (λ (m : ℕ). mask_by (sees people x) policy.accounts) had)) (user_is u.name user is)
        ∙ again there
        ∙ sym (ap (λ c. later (is_some (cond c (Some u) (user_in users user))) had) is)
    by false is =
        ap (λ c. later there (changed c)) is ∙ sym (ap (λ c. later (is_some (cond c (Some u) (user_in users user))) had) is)

nobody_of : (users : List User) (user : UserName) → list_any (λ (b : User). same_user user b.name) users ≡ false → user_in users user ≡ None
nobody_of [] user h = refl
nobody_of (u ∷ users) user h = by (same_user user u.name) refl h (nobody_of users user)
  where
    by : (b : Bool) → same_user user u.name ≡ b → (b || list_any (λ (x : User). same_user user x.name) users) ≡ false
        → (list_any (λ (x : User). same_user user x.name) users ≡ false → user_in users user ≡ None) → cond (same_user u.name user) (Some u) (user_in users user) ≡ None
    by true is e later = absurd (true≢false e)
    by false is e later = ap (λ b. cond b (Some u) (user_in users user)) (same_user_flip u.name user ∙ is) ∙ later e

-- before that, a reader has no account
first_masks : (users : List User) (user : UserName) → are_distinct (λ (a b : User). same_user a.name b.name) users ≡ true
    → mask_in (flat_map no_mask users) user ≡ (if is_reader (role_in users user) then Some 0 else None)
first_masks [] user differ = refl
first_masks (u ∷ users) user differ =
    by (is_reader (Some u.role)) refl (same_user u.name user) refl (first_masks users user parts.1)
  where
    parts : (not (list_any (λ (b : User). same_user u.name b.name) users) ≡ true) × (are_distinct (λ (a b : User). same_user a.name b.name) users ≡ true)
    parts = and_parts (not (list_any (λ (b : User). same_user u.name b.name) users)) (are_distinct (λ (a b : User). same_user a.name b.name) users) differ

    own : ReaderMask
    own = record { user = u.name; mask = 0 }

    here : Bool → Option ℕ
    here reads = mask_in ((if reads then own ∷ [] else []) ++ flat_map no_mask users) user

    role : Bool → Option Role
    role c = option_map (λ (x : User). x.role) (cond c (Some u) (user_in users user))

    by : (reads : Bool) → is_reader (Some u.role) ≡ reads → (c : Bool) → same_user u.name user ≡ c
        → mask_in (flat_map no_mask users) user ≡ (if is_reader (role_in users user) then Some 0 else None)
        → here (is_reader (Some u.role)) ≡ (if is_reader (role (same_user u.name user)) then Some 0 else None)
    by true reads true is rest =
        ap here reads
        ∙ ap (λ b. option_map (λ (x : ReaderMask). x.mask) (cond b (Some own) (find (λ (x : ReaderMask). same_user user x.user) (flat_map no_mask users)))) (same_user_flip user u.name ∙ is)
        ∙ sym (ap (λ c. if is_reader (role c) then Some 0 else None) is ∙ ap (λ b. if b then Some 0 else None) reads)
    by true reads false is rest =
        ap here reads
        ∙ ap (λ b. option_map (λ (x : ReaderMask). x.mask) (cond b (Some own) (find (λ (x : ReaderMask). same_user user x.user) (flat_map no_mask users)))) (same_user_flip user u.name ∙ is)
        ∙ rest ∙ sym (ap (λ c. if is_reader (role c) then Some 0 else None) is)
    by false reads true is rest =
        let gone : user_in users user ≡ None =
        ap (user_in users) (sym (user_is u.name user is)) ∙ nobody_of users u.name (not-true _ parts.0) in
        ap here reads ∙ rest
        ∙ ap (λ (o : Option User). if is_reader (option_map (λ (x : User). x.role) o) then Some 0 else None) gone
        ∙ sym (ap (λ c. if is_reader (role c) then Some 0 else None) is ∙ ap (λ b. if b then Some 0 else None) reads)
    by false reads false is rest = ap here reads ∙ rest ∙ sym (ap (λ c. if is_reader (role c) then Some 0 else None) is)

-- once each user of a sound policy is sent what he sees
pub all_sent : (policy : PolicyData) (people : List User) (before now : AllStreams) → is_sound policy ≡ true → before ≡ empty_streams policy
    → now ≡ sent_users policy people policy.users before → AreSentTo policy people now.readers
all_sent policy people before now sound empty is user =
    ap (λ (s : AllStreams). mask_in s.readers user) (is ∙ ap (sent_users policy people policy.users) empty)
    ∙ masks_sent policy people policy.users (empty_streams policy) user
    ∙ ap later (first_masks policy.users user (users_differ policy sound))
    ∙ by (user_in policy.users user) refl
  where
    later : Option ℕ → Option ℕ
    later o = if is_some (user_in policy.users user) then option_map (λ (m : ℕ). mask_by (sees people user) policy.accounts) o else o

    Goal : Option User → Type 0
    Goal found = (if is_some found then option_map (λ (m : ℕ). mask_by (sees people user) policy.accounts) (if is_reader (option_map (λ (u : User). u.role) found) then Some 0 else None)
        else (if is_reader (option_map (λ (u : User). u.role) found) then Some 0 else None))
        ≡ (if is_reader (option_map (λ (u : User). u.role) found) then Some (mask_by (sees people user) policy.accounts) else None)

    by : (found : Option User) → user_in policy.users user ≡ found → Goal (user_in policy.users user)
    by None is = subst Goal (sym is) refl
    by (Some u) is = subst Goal (sym is) (constant (is_reader (Some u.role)) 0 (mask_by (sees people user) policy.accounts))

-- ---- whom an officer names

pub sent_named : (policy : PolicyData) (now : List User) (streams : AllStreams) (found : Option User) (reader : UserName) → option_map (λ (u : User). u.name) found ≡ Some reader
    → sent_to policy now streams found ≡ with_reader_entitled reader (mask_by (sees now reader) policy.accounts) streams
sent_named policy now streams None reader e = cc
sent_named policy now streams (Some u) reader e = ap (λ (name : UserName). with_reader_entitled name (mask_by (sees now name) policy.accounts) streams) (same_Some _ _ e)

-- the reader named has room where whom the name finds has
pub room_named : (users : List User) (found : Option User) (reader : UserName) (account : AccountName) → option_map (λ (u : User). u.name) found ≡ Some reader
    → option_map_or (λ (u : User). has_room users u.name account) found true ≡ true → has_room users reader account ≡ true
room_named users None reader account e room = cc
room_named users (Some u) reader account e room = ap (λ (name : UserName). has_room users name account) (sym (same_Some _ _ e)) ∙ room

-- What the gate's tables say of the lists that they stand for.
use Rattle.std.proofs.{Common.{◌≡◌, Bool, true, false, cond, List, [], ◌∷◌, ◌++◌, map, refl, ◌∙◌, sym, ap, subst, ℕ, ◌+◌, ◌<◌, length, take, get_or}, lemmas.{List.{map-append, take_more}, Simd.map-map}}
use Rattle.std.specs.{Prelude.{if◌then◌else◌, Option, Some, None, option_and_then, option_map, unwrap_or, find}, List.{AllByRecursion, IsDistinct}, Map.{keys_of, lookup, set_value}}
use Rattle.indexmap.proofs.MapLemmas.{insert_entry-absent}
use Rattle.indexmap.specs.IndexMap.{insert_entry}
use Rattle.gx_units.specs.{Names.{same_account, same_user}, declared.names.{AccountName.AccountName, UserName.UserName}}
use Rattle.gx_units.proofs.Names_equal.{same_user_flip, same_account_flip, account_is, user_is}
use Rattle.gx_policy.specs.{declared.policy.{Account.Account, Lifters.Lifters, User.User}, Lists.are_distinct}
use Rattle.gx_history.specs.InForce.{kill_after}
use Rattle.gx_laws.proofs.Entries_table.{changed_in_place, new_next, none_changed, none_found}
use Rattle.gx_trading_status.specs.{StatusData.{AccountKill, UserLine, kill_entry_after, put_on}, InForce.{off_line, without_kill}, declared.status.Kill.Kill, View.{kill_entry, kills_of, lifted_by, line_entry, lines_of}}

abbrev line_put : UserName → Option ℕ → Option ℕ → Bool → UserLine
line_put user line before b = record { user = user; line = if b then line else before }

abbrev kill_put : AccountName → Option (List UserName) → Option (List UserName) → Bool → AccountKill
kill_put account kill before b = record { account = account; kill = if b then kill else before }

line_kept : (user : UserName) (line : Option ℕ) (e : UserName × Option ℕ) → same_user user e.0 ≡ false → put_on user line (line_entry e) ≡ line_entry e
line_kept user line e apart = ap (line_put e.0 line e.1) (same_user_flip e.0 user ∙ apart)

mark_kept : (lifters : Lifters) (account : AccountName) (mark : Option UserName) (e : AccountName × Option Kill) → same_account account e.0 ≡ false
    → kill_entry_after lifters account mark (kill_entry e) ≡ kill_entry e
mark_kept lifters account mark e apart =
    ap (kill_put e.0 (kill_after lifters (Some mark) (option_map lifted_by e.1)) (option_map lifted_by e.1)) (same_account_flip e.0 account ∙ apart)

-- a write to the line of a user who is found
pub line_written : (user : UserName) (line : Option ℕ) (entries : List (UserName × Option ℕ)) → IsDistinct same_user (keys_of entries)
    → lines_of (set_value (same_user user) entries line) ≡ map (put_on user line) (lines_of entries)
line_written user line entries distinct =
    changed_in_place same_user user_is line_entry (put_on user line) user line (line_kept user line) entries distinct
    (λ e found is. ap (line_put e.0 line e.1) (same_user_flip e.0 user ∙ is))

-- nobody has this name
pub line_unknown : (user : UserName) (line : Option ℕ) (entries : List (UserName × Option ℕ)) → None ≡ lookup (same_user user) entries
    → lines_of entries ≡ map (put_on user line) (lines_of entries)
line_unknown user line entries none = sym (none_changed same_user line_entry (put_on user line) user (line_kept user line) entries (none_found same_user user entries none))

-- a write to the Kill of an account that is found
pub kill_written : (lifters : Lifters) (account : AccountName) (mark : Option UserName) (before after : Option Kill) (entries : List (AccountName × Option Kill)) → IsDistinct same_account (keys_of entries)
    → Some before ≡ lookup (same_account account) entries → option_map lifted_by after ≡ kill_after lifters (Some mark) (option_map lifted_by before)
    → kills_of (set_value (same_account account) entries after) ≡ map (kill_entry_after lifters account mark) (kills_of entries)
kill_written lifters account mark before after entries distinct there is =
    changed_in_place same_account account_is kill_entry (kill_entry_after lifters account mark) account after (mark_kept lifters account mark) entries distinct
    (λ (e : AccountName × Option Kill) found at.
    ap (kill_put e.0 (kill_after lifters (Some mark) (option_map lifted_by e.1)) (option_map lifted_by e.1)) (same_account_flip e.0 account ∙ at)
    ∙ ap (λ (kill : Option (List UserName)). kill_put e.0 kill None true) (
    ap (λ (old : Option (Option Kill)). kill_after lifters (Some mark) (option_map lifted_by (unwrap_or old None))) (sym (there ∙ found)) ∙ sym is))

-- no account has this name
pub kill_unknown : (lifters : Lifters) (account : AccountName) (mark : Option UserName) (entries : List (AccountName × Option Kill)) → None ≡ lookup (same_account account) entries
    → kills_of entries ≡ map (kill_entry_after lifters account mark) (kills_of entries)
kill_unknown lifters account mark entries none =
    sym (none_changed same_account kill_entry (kill_entry_after lifters account mark) account (mark_kept lifters account mark) entries (none_found same_account account entries none))

-- the line found of a user is what the list says of him
pub line_found : (entries : List (UserName × Option ℕ)) (user : UserName)
    → option_and_then (λ (u : UserLine). u.line) (find (λ (u : UserLine). same_user u.user user) (lines_of entries)) ≡ option_and_then (λ (line : Option ℕ). line) (lookup (same_user user) entries)
line_found [] user = refl
line_found (e ∷ es) user =
    let rest : Option UserLine = find (λ (u : UserLine). same_user u.user user) (lines_of es) in
    elim (same_user e.0 user) as (λ b. option_and_then (λ (u : UserLine). u.line) (cond b (Some (line_entry e)) rest) ≡ option_and_then (λ (line : Option ℕ). line) (cond b (Some e.1) (lookup (same_user user) es)))
    [ true ↦ refl | false ↦ line_found es user ]
    ∙ ap (λ b. option_and_then (λ (line : Option ℕ). line) (cond b (Some e.1) (lookup (same_user user) es))) (same_user_flip e.0 user)

-- the Kill found of an account is what the list says of it
pub kill_found : (entries : List (AccountName × Option Kill)) (account : AccountName)
    → option_and_then (λ (k : AccountKill). k.kill) (find (λ (k : AccountKill). same_account k.account account) (kills_of entries))
    ≡ option_map lifted_by (option_and_then (λ (kill : Option Kill). kill) (lookup (same_account account) entries))
kill_found [] account = refl
kill_found (e ∷ es) account =
    let rest : Option AccountKill = find (λ (k : AccountKill). same_account k.account account) (kills_of es) in
    elim (same_account e.0 account) as (λ b. option_and_then (λ (k : AccountKill). k.kill) (cond b (Some (kill_entry e)) rest)
    ≡ option_map lifted_by (option_and_then (λ (kill : Option Kill). kill) (cond b (Some e.1) (lookup (same_account account) es))))
    [ true ↦ refl | false ↦ kill_found es account ]
    ∙ ap (λ b. option_map lifted_by (option_and_then (λ (kill : Option Kill). kill) (cond b (Some e.1) (lookup (same_account account) es)))) (same_account_flip e.0 account)

-- one more of the policy's
pub added_next : {X K V : Type 0} (same : K → K → Bool) (flip : (a b : K) → same a b ≡ same b a) (name : X → K) (value : V) (entries : List (K × V)) (items : List X) (i : ℕ) (x other : X)
    → are_distinct (λ (a b : X). same (name a) (name b)) items ≡ true → entries ≡ map (λ (y : X). (name y, value)) (take i items) → i < length items → x ≡ get_or items i other
    → insert_entry same entries (name x) value ≡ map (λ (y : X). (name y, value)) (take (i + 1) items)
added_next {X} {K} {V} same flip name value entries items i x other differ are within at =
    let entry : X → K × V = λ (y : X). (name y, value) in
    let names : map name (take i items) ≡ keys_of entries = sym (map-map (λ (e : K × V). e.0) entry (take i items)) ∙ sym (ap keys_of are) in
    insert_entry-absent same (name x) value entries (subst (AllByRecursion (λ k. same (name x) k ≡ false)) names (new_next same flip name items i x other differ within at))
    ∙ ap (λ es. es ++ entry x ∷ []) are
    ∙ sym (map-append entry (take i items) (x ∷ []))
    ∙ ap (map entry) (ap (λ (y : X). take i items ++ y ∷ []) at ∙ sym (take_more items i other within))

-- the entries of the tables as they begin
abbrev pub entry_off : User → UserName × Option ℕ
entry_off u = (u.name, None)

abbrev pub entry_unkilled : Account → AccountName × Option Kill
entry_unkilled a = (a.name, None)

-- the lists of the tables as they begin
pub lines_begin : (users : List User) → lines_of (map entry_off users) ≡ map off_line users
lines_begin [] = refl
lines_begin (u ∷ users) = ap (λ us. off_line u ∷ us) (lines_begin users)

pub kills_begin : (accounts : List Account) → kills_of (map entry_unkilled accounts) ≡ map without_kill accounts
kills_begin [] = refl
kills_begin (a ∷ accounts) = ap (λ ks. without_kill a ∷ ks) (kills_begin accounts)

-- What a granted command leaves of the users as it was.
use Rattle.std.proofs.{Common.{◌≡◌, true, false, ◌&&◌, cond, List, [], ◌∷◌, map, fold, refl, ap, sym, ◌∙◌, true≢false, if◌then◌else◌}, lemmas.Option.same_Some}
use Rattle.std.specs.{Prelude.{Option, Some, None, option_map, is_some}, Option.option_map_or}
use Rattle.gx_units.specs.{Names.same_user, declared.names.{AccountName.AccountName, UserName.UserName}}
use Rattle.gx_desk.specs.{Names.is_written, declared.{WrittenName.WrittenName, Action.Action}}
use Rattle.gx_policy.specs.{declared.policy.{PolicyData.PolicyData, Role.Role, User.User}, People.{is_reader, role_in, user_in}}
use Rattle.gx_history.specs.{declared.record.RecordData.RecordData, Readers.reader_in, Requests.granted_actions}
use Rattle.gx_people.specs.Entitled.{change_role, with_account, without_account, granted_to, revoked_from, users_after, people_in_force}

-- the user of a name, after a role changed
pub user_changed : (n : UserName) (f : Role → Role) (users : List User) (name : UserName)
    → user_in (map (change_role n f) users) name ≡ option_map (change_role n f) (user_in users name)
user_changed n f [] name = refl
user_changed n f (u ∷ us) name =
    elim (same_user u.name name) as (λ b. cond b (Some (change_role n f u)) (user_in (map (change_role n f) us) name) ≡ option_map (change_role n f) (cond b (Some u) (user_in us name)))
    [ true ↦ refl | false ↦ user_changed n f us name ]

-- no command changes what g says of a user
abbrev pub Stays : {Y : Type 0} → (User → Y) → Type 0
Stays g = (n : UserName) (a : AccountName) (u : User) → (g (change_role n (with_account a) u) ≡ g u) × (g (change_role n (without_account a) u) ≡ g u)

map_same : {Y : Type 0} (g : User → Y) (h : User → User) → ((u : User) → g (h u) ≡ g u) → (o : Option User) → option_map g (option_map h o) ≡ option_map g o
map_same g h same None = refl
map_same g h same (Some u) = ap Some (same u)

given_stays : {Y : Type 0} (g : User → Y) → Stays g → (users : List User) (action : Action) (name : UserName)
    → option_map g (user_in (users_after users action) name) ≡ option_map g (user_in users name)
given_stays g stays users (Action.Grant written a) name = by (reader_in users written)
  where
    by : (found : Option User) → option_map g (user_in (option_map_or (λ (u : User). granted_to u.name a users) found users) name) ≡ option_map g (user_in users name)
    by None = refl
    by (Some v) = ap (option_map g) (user_changed v.name (with_account a) users name) ∙ map_same g (change_role v.name (with_account a)) (λ u. (stays v.name a u).0) (user_in users name)
given_stays g stays users (Action.Revoke written a) name = by (reader_in users written)
  where
    by : (found : Option User) → option_map g (user_in (option_map_or (λ (u : User). revoked_from u.name a users) found users) name) ≡ option_map g (user_in users name)
    by None = refl
    by (Some v) = ap (option_map g) (user_changed v.name (without_account a) users name) ∙ map_same g (change_role v.name (without_account a)) (λ u. (stays v.name a u).1) (user_in users name)
given_stays g stays users (Action.Kill a) name = refl
given_stays g stays users (Action.Lift a) name = refl
given_stays g stays users (Action.SetLimit rule limit) name = refl
given_stays g stays users (Action.Restrict rule stock) name = refl
given_stays g stays users (Action.Unrestrict rule stock) name = refl
given_stays g stays users Action.CloseDay name = refl

all_stays : {Y : Type 0} (g : User → Y) → Stays g → (done : List Action) (users : List User) (name : UserName)
    → option_map g (user_in (fold users_after users done) name) ≡ option_map g (user_in users name)
all_stays g stays [] users name = refl
all_stays g stays (action ∷ done) users name = all_stays g stays done (users_after users action) name ∙ given_stays g stays users action name

-- what stays of the users in force
pub stays_in_force : {Y : Type 0} (g : User → Y) → Stays g → (policy : PolicyData) (history : List RecordData) (name : UserName)
    → option_map g (user_in (people_in_force policy history) name) ≡ option_map g (user_in policy.users name)
unfolding people_in_force
stays_in_force g stays policy history name = all_stays g stays (granted_actions history) policy.users name

-- a word on roles that no command changes
abbrev pub RoleStays : {Y : Type 0} → (Role → Y) → Type 0
RoleStays h = (a : AccountName) (r : Role) → (h (with_account a r) ≡ h r) × (h (without_account a r) ≡ h r)

role_stays : {Y : Type 0} (h : Role → Y) → RoleStays h → Stays (λ (u : User). h u.role)
role_stays h stays n a u = (
  elim (same_user u.name n) as (λ b. h (if b then with_account a u.role else u.role) ≡ h u.role) [ true ↦ (stays a u.role).0 | false ↦ refl ],
  elim (same_user u.name n) as (λ b. h (if b then without_account a u.role else u.role) ≡ h u.role) [ true ↦ (stays a u.role).1 | false ↦ refl ],
)

some_not_none : {X : Type 0} {x : X} → Some x ≡ None → true ≡ false
some_not_none e = ap is_some e

word_of : {Y : Type 0} (k : Option Role → Y) (o p : Option User) → option_map (λ (u : User). k (Some u.role)) o ≡ option_map (λ (u : User). k (Some u.role)) p
    → k (option_map (λ (u : User). u.role) o) ≡ k (option_map (λ (u : User). u.role) p)
word_of k None None e = refl
word_of k None (Some v) e = absurd (true≢false (some_not_none (sym e)))
word_of k (Some u) None e = absurd (true≢false (some_not_none e))
word_of k (Some u) (Some v) e = same_Some _ _ e

-- a word on the role of a user, after one more command
pub given_word : {Y : Type 0} (k : Option Role → Y) → RoleStays (λ r. k (Some r)) → (users : List User) (action : Action) (name : UserName)
    → k (role_in (users_after users action) name) ≡ k (role_in users name)
given_word k stays users action name =
    word_of k (user_in (users_after users action) name) (user_in users name) (given_stays (λ (u : User). k (Some u.role)) (role_stays (λ r. k (Some r)) stays) users action name)

-- a word on the role of a user in force
pub role_word : {Y : Type 0} (k : Option Role → Y) → RoleStays (λ r. k (Some r)) → (policy : PolicyData) (history : List RecordData) (name : UserName)
    → k (role_in (people_in_force policy history) name) ≡ k (role_in policy.users name)
role_word k stays policy history name =
    word_of k (user_in (people_in_force policy history) name) (user_in policy.users name)
    (stays_in_force (λ (u : User). k (Some u.role)) (role_stays (λ r. k (Some r)) stays) policy history name)

pub reader_stays : RoleStays (λ r. is_reader (Some r))
reader_stays a (Role.Trader account) = (refl, refl)
reader_stays a (Role.Officer his scope) = (refl, refl)
reader_stays a (Role.Reader names) = (refl, refl)

-- the reader that is written so, after a role changed
reader_changed : (n : UserName) (f : Role → Role) → ((r : Role) → is_reader (Some (f r)) ≡ is_reader (Some r)) → (users : List User) (written : WrittenName)
    → reader_in (map (change_role n f) users) written ≡ option_map (change_role n f) (reader_in users written)
reader_changed n f same [] written = refl
reader_changed n f same (u ∷ us) written =
    let reads : is_reader (Some (change_role n f u).role) ≡ is_reader (Some u.role) =
    elim (same_user u.name n) as (λ b. is_reader (Some (if b then f u.role else u.role)) ≡ is_reader (Some u.role)) [ true ↦ same u.role | false ↦ refl ]
    in
    ap (λ b. cond (is_written written u.name && b) (Some (change_role n f u)) (reader_in (map (change_role n f) us) written)) reads
    ∙ elim (is_written written u.name && is_reader (Some u.role)) as (λ b. cond b (Some (change_role n f u)) (reader_in (map (change_role n f) us) written) ≡ option_map (change_role n f) (cond b (Some u) (reader_in us written)))
    [ true ↦ refl | false ↦ reader_changed n f same us written ]

given_reader : (users : List User) (action : Action) (written : WrittenName)
    → option_map (λ (u : User). u.name) (reader_in (users_after users action) written) ≡ option_map (λ (u : User). u.name) (reader_in users written)
given_reader users (Action.Grant other a) written = by (reader_in users other)
  where
    by : (found : Option User)
        → option_map (λ (u : User). u.name) (reader_in (option_map_or (λ (u : User). granted_to u.name a users) found users) written) ≡ option_map (λ (u : User). u.name) (reader_in users written)
    by None = refl
    by (Some v) =
        ap (option_map (λ (u : User). u.name)) (reader_changed v.name (with_account a) (λ r. (reader_stays a r).0) users written)
        ∙ map_same (λ (u : User). u.name) (change_role v.name (with_account a)) (λ u. refl) (reader_in users written)
given_reader users (Action.Revoke other a) written = by (reader_in users other)
  where
    by : (found : Option User)
        → option_map (λ (u : User). u.name) (reader_in (option_map_or (λ (u : User). revoked_from u.name a users) found users) written) ≡ option_map (λ (u : User). u.name) (reader_in users written)
    by None = refl
    by (Some v) =
        ap (option_map (λ (u : User). u.name)) (reader_changed v.name (without_account a) (λ r. (reader_stays a r).1) users written)
        ∙ map_same (λ (u : User). u.name) (change_role v.name (without_account a)) (λ u. refl) (reader_in users written)
given_reader users (Action.Kill a) written = refl
given_reader users (Action.Lift a) written = refl
given_reader users (Action.SetLimit rule limit) written = refl
given_reader users (Action.Restrict rule stock) written = refl
given_reader users (Action.Unrestrict rule stock) written = refl
given_reader users Action.CloseDay written = refl

all_reader : (done : List Action) (users : List User) (written : WrittenName)
    → option_map (λ (u : User). u.name) (reader_in (fold users_after users done) written) ≡ option_map (λ (u : User). u.name) (reader_in users written)
all_reader [] users written = refl
all_reader (action ∷ done) users written = all_reader done (users_after users action) written ∙ given_reader users action written

-- the reader whom an officer names is the policy's
pub reader_in_force : (policy : PolicyData) (history : List RecordData) (written : WrittenName)
    → option_map (λ (u : User). u.name) (reader_in (people_in_force policy history) written) ≡ option_map (λ (u : User). u.name) (reader_in policy.users written)
unfolding people_in_force
reader_in_force policy history written = all_reader (granted_actions history) policy.users written

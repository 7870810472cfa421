-- What the table of persons says of the users that it stands for.
use Rattle.std.proofs.{Common.{◌≡◌, Bool, true, false, cond, ◌&&◌, List, [], ◌∷◌, ◌++◌, map, refl, ◌∙◌, sym, ap, subst, true≢false, if◌then◌else◌, ℕ, ◌+◌, ◌<◌, length, take, get_or}, lemmas.{List.{map-append, take_more}, Simd.map-map, Bool.and_parts, Option.same_Some}}
use Rattle.std.specs.{Option.option_map_or, Prelude.{Option, Some, None, option_map, is_some}, List.{AllByRecursion, IsDistinct}, Map.{keys_of, lookup, set_value}}
use Rattle.indexmap.specs.IndexMap.{insert_entry}
use Rattle.indexmap.proofs.MapLemmas.{insert_entry-absent}
use Rattle.gx_units.specs.{Names.same_user, declared.names.{AccountName.AccountName, Password.Password, UserName.UserName}}
use Rattle.gx_units.proofs.Names_equal.{same_user_flip, user_is, user_is_itself}
use Rattle.gx_desk.specs.{Names.is_written, declared.WrittenName.WrittenName}
use Rattle.gx_policy.specs.{declared.policy.{Role.Role, User.User}, Lists.are_distinct, People.{is_reader, user_in, role_in}}
use Rattle.gx_history.specs.{Logins.{password_is, same_password}, Readers.reader_in}
use Rattle.gx_laws.proofs.Entries_table.{changed_in_place, new_next}
use Rattle.gx_people.specs.{Entitled.{change_role, has_room, role_has_room}, View.{role_of_current, user_of, users_of}, declared.person.Person.Person}

-- what the person found by a name says, the user of that name says
found_as : {Y : Type 0} (of_user : User → Y) (of_person : Person → Y) → ((e : UserName × Person) → of_user (user_of e) ≡ of_person e.1)
    → (entries : List (UserName × Person)) (name : UserName) → option_map of_user (user_in (users_of entries) name) ≡ option_map of_person (lookup (same_user name) entries)
found_as of_user of_person same [] name = refl
found_as of_user of_person same (e ∷ es) name =
    elim (same_user e.0 name) as (λ b. option_map of_user (cond b (Some (user_of e)) (user_in (users_of es) name)) ≡ option_map of_person (cond b (Some e.1) (lookup (same_user name) es)))
    [ true ↦ ap Some (same e) | false ↦ found_as of_user of_person same es name ]
    ∙ ap (λ b. option_map of_person (cond b (Some e.1) (lookup (same_user name) es))) (same_user_flip e.0 name)

pub role_found : (entries : List (UserName × Person)) (name : UserName)
    → role_in (users_of entries) name ≡ option_map (λ (p : Person). role_of_current p.standing) (lookup (same_user name) entries)
role_found entries name = found_as (λ (u : User). u.role) (λ (p : Person). role_of_current p.standing) (λ e. refl) entries name

password_found : (entries : List (UserName × Person)) (name : UserName)
    → option_map (λ (u : User). u.password) (user_in (users_of entries) name) ≡ option_map (λ (p : Person). p.password) (lookup (same_user name) entries)
password_found entries name = found_as (λ (u : User). u.password) (λ (p : Person). p.password) (λ e. refl) entries name

pub map_or : {X Y : Type 0} (f : X → Y) (test : Y → Bool) (o : Option X) → option_map_or (λ x. test (f x)) o false ≡ option_map_or test (option_map f o) false
map_or f test None = refl
map_or f test (Some x) = refl

pub password_found_is : (entries : List (UserName × Person)) (name : UserName) (given : Password)
    → password_is (users_of entries) name given ≡ option_map_or (λ (p : Person). same_password p.password given) (lookup (same_user name) entries) false
password_found_is entries name given =
    let test : Password → Bool = λ (p : Password). same_password p given in
    map_or (λ (u : User). u.password) test (user_in (users_of entries) name)
    ∙ ap (λ o. option_map_or test o false) (password_found entries name)
    ∙ sym (map_or (λ (p : Person). p.password) test (lookup (same_user name) entries))

pub is_some_map : {X Y : Type 0} (f : X → Y) (o : Option X) → is_some (option_map f o) ≡ is_some o
is_some_map f None = refl
is_some_map f (Some x) = refl

pub user_found : (entries : List (UserName × Person)) (name : UserName) → is_some (user_in (users_of entries) name) ≡ is_some (lookup (same_user name) entries)
user_found entries name =
    sym (is_some_map (λ (u : User). u.password) (user_in (users_of entries) name))
    ∙ ap is_some (password_found entries name)
    ∙ is_some_map (λ (p : Person). p.password) (lookup (same_user name) entries)

-- the user of an entry with another role, if it is the one
abbrev in_role_if : (Role → Role) → UserName × Person → Bool → User
in_role_if f e b = record { name = e.0; password = e.1.password; role = if b then f (role_of_current e.1.standing) else role_of_current e.1.standing }

-- the person of this name, with another role
pub role_written : (f : Role → Role) (name : UserName) (entries : List (UserName × Person)) (before after : Person)
    → IsDistinct same_user (keys_of entries) → lookup (same_user name) entries ≡ Some before
    → after.password ≡ before.password → role_of_current after.standing ≡ f (role_of_current before.standing)
    → users_of (set_value (same_user name) entries after) ≡ map (change_role name f) (users_of entries)
role_written f name entries before after distinct found password role =
    changed_in_place same_user user_is user_of (change_role name f) name after (λ e apart. ap (in_role_if f e) (same_user_flip e.0 name ∙ apart)) entries distinct
    (λ e at is. ap (in_role_if f e) (same_user_flip e.0 name ∙ is) ∙ ap (λ (p : Person). in_role_if f (e.0, p) true) (same_Some _ _ (sym at ∙ found)) ∙ as_now e.0)
  where
    as_now : (n : UserName) → in_role_if f (n, before) true ≡ user_of (n, after)
    as_now n =
        let user : Password → Role → User = λ (p : Password) (r : Role). record { name = n; password = p; role = r } in
        ap (λ p. user p (f (role_of_current before.standing))) (sym password) ∙ ap (user after.password) (sym role)

-- one more of the policy's users
pub added_next : (entries : List (UserName × Person)) (name : UserName) (person : Person) (users : List User) (i : ℕ) (u : User)
    → are_distinct (λ (a b : User). same_user a.name b.name) users ≡ true → users_of entries ≡ take i users → i < length users → u ≡ get_or users i u → user_of (name, person) ≡ u
    → users_of (insert_entry same_user entries name person) ≡ take (i + 1) users
added_next entries name person users i u differ are within at is =
    let named : User → UserName = λ (v : User). v.name in
    let names : map named (take i users) ≡ keys_of entries = ap (map named) (sym are) ∙ map-map named user_of entries in
    let new : AllByRecursion (λ k. same_user u.name k ≡ false) (keys_of entries) =
    subst (AllByRecursion (λ k. same_user u.name k ≡ false)) names (new_next same_user same_user_flip named users i u u differ within at)
    in
    ap users_of (insert_entry-absent same_user name person entries (subst (λ (n : UserName). AllByRecursion (λ k. same_user n k ≡ false) (keys_of entries)) (sym (ap named is)) new))
    ∙ map-append user_of entries ((name, person) ∷ [])
    ∙ ap (λ us. us ++ user_of (name, person) ∷ []) are
    ∙ ap (λ v. take i users ++ v ∷ []) (is ∙ at)
    ∙ sym (take_more users i u within)

-- where no entry has the name, its role is not known
pub nobody_reads : (entries : List (UserName × Person)) (name : UserName) → lookup (same_user name) entries ≡ None → is_reader (role_in (users_of entries) name) ≡ false
nobody_reads entries name none = ap is_reader (role_found entries name ∙ ap (option_map (λ (p : Person). role_of_current p.standing)) none)

-- a reader among entries that do not have the name does not have it
apart_from : (name : UserName) (entries : List (UserName × Person)) (written : WrittenName) (u : User) → AllByRecursion (λ other. same_user name other ≡ false) (keys_of entries)
    → reader_in (users_of entries) written ≡ Some u → same_user name u.name ≡ false
apart_from name [] written u apart e = absurd (true≢false (sym (ap is_some e)))
apart_from name (e ∷ es) written u apart found =
    by (is_written written e.0 && is_reader (Some (role_of_current e.1.standing))) found (λ later. apart_from name es written u apart.1 later)
  where
    by : (b : Bool) → cond b (Some (user_of e)) (reader_in (users_of es) written) ≡ Some u → (reader_in (users_of es) written ≡ Some u → same_user name u.name ≡ false) → same_user name u.name ≡ false
    by true is later = ap (λ (w : User). same_user name w.name) (sym (same_Some _ _ is)) ∙ apart.0
    by false is later = later is

-- the user found as a reader is one by his name too
found_reads : (entries : List (UserName × Person)) (written : WrittenName) (u : User) → IsDistinct same_user (keys_of entries)
    → reader_in (users_of entries) written ≡ Some u → is_reader (role_in (users_of entries) u.name) ≡ true
unfolding IsDistinct
found_reads [] written u distinct e = absurd (true≢false (sym (ap is_some e)))
found_reads (e ∷ es) written u distinct found =
    by (is_written written e.0 && is_reader (Some (role_of_current e.1.standing))) refl found (λ later. found_reads es written u distinct.1 later)
  where
    role_at : Bool → UserName → Option Role
    role_at b name = option_map (λ (w : User). w.role) (cond b (Some (user_of e)) (user_in (users_of es) name))

    by : (b : Bool) → (is_written written e.0 && is_reader (Some (role_of_current e.1.standing))) ≡ b → cond b (Some (user_of e)) (reader_in (users_of es) written) ≡ Some u
        → (reader_in (users_of es) written ≡ Some u → is_reader (role_in (users_of es) u.name) ≡ true) → is_reader (role_in (users_of (e ∷ es)) u.name) ≡ true
    by true test is later =
        ap (λ (w : User). is_reader (role_in (users_of (e ∷ es)) w.name)) (sym (same_Some _ _ is))
        ∙ ap (λ b. is_reader (role_at b e.0)) (user_is_itself e.0)
        ∙ (and_parts (is_written written e.0) (is_reader (Some (role_of_current e.1.standing))) test).1
    by false test is later =
        ap (λ b. is_reader (role_at b u.name)) (apart_from e.0 es written u distinct.0 is) ∙ later is

pub named_reads : (entries : List (UserName × Person)) (written : WrittenName) (name : UserName) → IsDistinct same_user (keys_of entries)
    → Some name ≡ option_map (λ (u : User). u.name) (reader_in (users_of entries) written) → is_reader (role_in (users_of entries) name) ≡ true
named_reads entries written name distinct = by (reader_in (users_of entries) written) refl
  where
    by : (found : Option User) → reader_in (users_of entries) written ≡ found → Some name ≡ option_map (λ (u : User). u.name) found → is_reader (role_in (users_of entries) name) ≡ true
    by None is e = absurd (true≢false (ap is_some e))
    by (Some u) is e = ap (λ (n : UserName). is_reader (role_in (users_of entries) n)) (same_Some _ _ e) ∙ found_reads entries written u distinct is

-- what the person found has room for
pub room_found : (entries : List (UserName × Person)) (name : UserName) (account : AccountName) (p : Person) → Some p ≡ lookup (same_user name) entries
    → role_has_room (role_of_current p.standing) account ≡ has_room (users_of entries) name account
room_found entries name account p found =
    sym
    (ap (λ o. option_map_or (λ role. role_has_room role account) o true)
    (role_found entries name ∙ ap (option_map (λ (q : Person). role_of_current q.standing)) (sym found)))

-- Streams that open on the policy's users.
use Rattle.std.proofs.{Common.{◌≡◌, ℕ, ◌+◌, ◌<◌, true, false, List, [], ◌∷◌, ◌++◌, map, ◌∙◌, sym, ap, subst, length, take, get_or}, lemmas.{List.{map-append, take-map, take_more}, Simd.map-map}}
use Rattle.std.specs.{List.AllByRecursion, Map.keys_of}
use Rattle.indexmap.specs.IndexMap.{insert_entry}
use Rattle.indexmap.proofs.MapLemmas.{insert_entry-absent}
use Rattle.gx_units.specs.{Names.same_user, declared.names.UserName.UserName}
use Rattle.gx_units.proofs.Names_equal.{same_user_flip}
use Rattle.gx_policy.specs.{declared.policy.User.User, Lists.are_distinct}
use Rattle.gx_laws.proofs.Entries_table.{new_next}
use Rattle.gx_streams.specs.{declared.stored_report.StoredReport.StoredReport, Kept.{ReservedList, UserList, empty_list, empty_user_list}, Table.{lists_of, user_list}}

abbrev opened : List User → List (UserList StoredReport)
opened users = map (empty_user_list {X = StoredReport}) users

-- the names of the entries are those of the users
names_are : (es : List (UserName × ReservedList StoredReport)) (users : List User) (i : ℕ) → lists_of es ≡ take i (opened users) → map (λ (u : User). u.name) (take i users) ≡ keys_of es
names_are es users i are =
    let named : UserList StoredReport → UserName = λ (l : UserList StoredReport). l.user in
    sym (map-map named (empty_user_list {X = StoredReport}) (take i users))
    ∙ ap (map named) (sym (take-map (empty_user_list {X = StoredReport}) i users) ∙ sym are)
    ∙ map-map named user_list es

-- one more of the policy's users
pub known_next : (es : List (UserName × ReservedList StoredReport)) (kept : ReservedList StoredReport) (users : List User) (i : ℕ) (u : User)
    → are_distinct (λ (a b : User). same_user a.name b.name) users ≡ true → lists_of es ≡ take i (map (empty_user_list {X = StoredReport}) users) → i < length users → u ≡ get_or users i u
    → kept ≡ empty_list
    → lists_of (insert_entry same_user es u.name kept) ≡ take (i + 1) (map (empty_user_list {X = StoredReport}) users)
known_next es kept users i u differ are within at none =
    let new : AllByRecursion (λ k. same_user u.name k ≡ false) (keys_of es) =
    subst (AllByRecursion (λ k. same_user u.name k ≡ false)) (names_are es users i are) (new_next same_user same_user_flip (λ (v : User). v.name) users i u u differ within at)
    in
    ap lists_of (insert_entry-absent same_user u.name kept es new)
    ∙ map-append user_list es ((u.name, kept) ∷ [])
    ∙ ap (λ (k : ReservedList StoredReport). lists_of es ++ user_list (u.name, k) ∷ []) none
    ∙ ap (λ ls. ls ++ empty_user_list u ∷ []) (are ∙ take-map (empty_user_list {X = StoredReport}) i users)
    ∙ sym (map-append (empty_user_list {X = StoredReport}) (take i users) (u ∷ []))
    ∙ ap opened (ap (λ (v : User). take i users ++ v ∷ []) at ∙ sym (take_more users i u within))
    ∙ sym (take-map (empty_user_list {X = StoredReport}) (i + 1) users)

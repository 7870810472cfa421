-- What the table of streams says of the users that it stands for.
use Rattle.std.proofs.{Common.{◌≡◌, ◌-◌, ◌+◌, ◌++◌, arith, length, take, Bool, true, false, cond, List, [], ◌∷◌, refl, ◌∙◌, sym, ap, if◌then◌else◌}, lemmas.{List.length_push, Map.Steps.set_value_same, Option.same_Some}}
use Rattle.std.specs.{Prelude.{Some, is_some}, Option.option_map_or, List.IsDistinct, Map.{keys_of, lookup, set_value}}
use Rattle.gx_units.specs.{Names.same_user, declared.names.UserName.UserName}
use Rattle.gx_units.proofs.Names_equal.{user_is}
use Rattle.gx_laws.proofs.Entries_table.{changed_in_place}
use Rattle.gx_streams.specs.{declared.stored_report.StoredReport.StoredReport, Kept.{ReservedList, UserList, is_known, items_in, list_of, on_user, reserved_in, with_last, without_last}, Table.{lists_of, user_list}}

-- what the list found says, the table's says
kept_found : {Y : Type 0} (of : ReservedList StoredReport → Y) (otherwise : Y) (es : List (UserName × ReservedList StoredReport)) (user : UserName)
    → option_map_or (λ (s : UserList StoredReport). of s.kept) (list_of (lists_of es) user) otherwise ≡ option_map_or of (lookup (same_user user) es) otherwise
kept_found of otherwise [] user = refl
kept_found of otherwise (e ∷ es) user =
    elim (same_user user e.0) as (λ b. option_map_or (λ (s : UserList StoredReport). of s.kept) (cond b (Some (user_list e)) (list_of (lists_of es) user)) otherwise ≡ option_map_or of (cond b (Some e.1) (lookup (same_user user) es)) otherwise)
    [ true ↦ refl | false ↦ kept_found of otherwise es user ]

pub items_found : (es : List (UserName × ReservedList StoredReport)) (user : UserName) → items_in (lists_of es) user ≡ option_map_or (λ (k : ReservedList StoredReport). k.items) (lookup (same_user user) es) []
items_found es user = kept_found (λ (k : ReservedList StoredReport). k.items) [] es user

pub spare_found : (es : List (UserName × ReservedList StoredReport)) (user : UserName) → reserved_in (lists_of es) user ≡ option_map_or (λ (k : ReservedList StoredReport). k.reserved) (lookup (same_user user) es) 0
spare_found es user = kept_found (λ (k : ReservedList StoredReport). k.reserved) 0 es user

pub known_found : (es : List (UserName × ReservedList StoredReport)) (user : UserName) → is_known (lists_of es) user ≡ is_some (lookup (same_user user) es)
known_found [] user = refl
known_found (e ∷ es) user =
    elim (same_user user e.0) as (λ b. is_some (cond b (Some (user_list e)) (list_of (lists_of es) user)) ≡ is_some (cond b (Some e.1) (lookup (same_user user) es)))
    [ true ↦ refl | false ↦ known_found es user ]

-- the list of an entry, changed if it is the one
abbrev changed_if : (ReservedList StoredReport → ReservedList StoredReport) → UserName × ReservedList StoredReport → Bool → UserList StoredReport
changed_if f e b = if b then record { user = e.0; kept = f e.1 } else user_list e

-- a write in place changes the user's list
list_written : (user : UserName) (f : ReservedList StoredReport → ReservedList StoredReport) (es : List (UserName × ReservedList StoredReport)) (before : ReservedList StoredReport)
    → IsDistinct same_user (keys_of es) → lookup (same_user user) es ≡ Some before
    → lists_of (set_value (same_user user) es (f before)) ≡ on_user user f (lists_of es)
list_written user f es before distinct found =
    changed_in_place same_user user_is user_list (λ (l : UserList StoredReport). if same_user user l.user then record { user = l.user; kept = f l.kept } else l) user (f before)
    (λ e apart. ap (changed_if f e) apart) es distinct
    (λ e at is. ap (changed_if f e) is ∙ ap (λ (k : ReservedList StoredReport). user_list (e.0, f k)) (same_Some _ _ (sym at ∙ found)))

-- a list written back into the table, changed
pub written_back : (es after : List (UserName × ReservedList StoredReport)) (lists : List (UserList StoredReport)) (user : UserName) (f : ReservedList StoredReport → ReservedList StoredReport) (before now : ReservedList StoredReport)
    → after ≡ set_value (same_user user) es now → now ≡ f before → IsDistinct same_user (keys_of es) → Some before ≡ lookup (same_user user) es → lists_of es ≡ lists
    → lists_of after ≡ on_user user f lists
written_back es after lists user f before now written done distinct found view =
    ap lists_of written ∙ ap (λ s. lists_of (set_value (same_user user) es s)) done ∙ list_written user f es before distinct (sym found) ∙ ap (on_user user f) view

-- and as it was
pub written_same : (es after : List (UserName × ReservedList StoredReport)) (lists : List (UserList StoredReport)) (user : UserName) (before now : ReservedList StoredReport)
    → after ≡ set_value (same_user user) es now → now ≡ before → Some before ≡ lookup (same_user user) es → lists_of es ≡ lists → lists_of after ≡ lists
written_same es after lists user before now written same found view =
    ap lists_of written ∙ ap (λ s. lists_of (set_value (same_user user) es s)) same ∙ ap lists_of (set_value_same (same_user user) es before (sym found)) ∙ view

-- a change of a list leaves who is known
pub known_after : {X : Type 0} (lists : List (UserList X)) (other user : UserName) (change : ReservedList X → ReservedList X) → is_known (on_user other change lists) user ≡ is_known lists user
known_after [] other user change = refl
known_after {X} (l ∷ ls) other user change =
    elim (same_user other l.user) as (λ b. let m : UserList X = if b then record { user = l.user; kept = change l.kept } else l in is_some (cond (same_user user m.user) (Some m) (list_of (on_user other change ls) user)) ≡ is_known (l ∷ ls) user)
    [ true ↦ step (record { user = l.user; kept = change l.kept }) (known_after ls other user change) | false ↦ step l (known_after ls other user change) ]
  where
    step : (changed : UserList X) → is_known (on_user other change ls) user ≡ is_known ls user → is_some (cond (same_user user l.user) (Some changed) (list_of (on_user other change ls) user)) ≡ is_some (cond (same_user user l.user) (Some l) (list_of ls user))
    step changed later = elim (same_user user l.user) as (λ b. is_some (cond b (Some changed) (list_of (on_user other change ls) user)) ≡ is_some (cond b (Some l) (list_of ls user)))
        [ true ↦ refl | false ↦ later ]

front : {X : Type 0} (xs ys : List X) → take (length xs) (xs ++ ys) ≡ xs
front [] ys = refl
front (x ∷ xs) ys = ap (λ rest. x ∷ rest) (front xs ys)

length_more : {X : Type 0} (xs : List X) (x : X) → length (xs ++ x ∷ []) - 1 ≡ length xs
length_more xs x = let e : length (xs ++ x ∷ []) ≡ length xs + 1 = length_push xs x in omega (arith, e)

kept_back : (kept : ReservedList StoredReport) (entry : StoredReport) → without_last (with_last entry kept) ≡ kept
kept_back kept entry =
    ap (λ n. let k : ReservedList StoredReport = record { items = take n (kept.items ++ entry ∷ []); reserved = kept.reserved } in k) (length_more kept.items entry)
    ∙ ap (λ xs. let k : ReservedList StoredReport = record { items = xs; reserved = kept.reserved } in k) (front kept.items (entry ∷ []))

-- what was put last and taken back leaves all as it was
pub taken_back : (lists : List (UserList StoredReport)) (user : UserName) (entry : StoredReport) → on_user user without_last (on_user user (with_last entry) lists) ≡ lists
taken_back [] user entry = refl
taken_back (l ∷ ls) user entry = by (same_user user l.user) refl ∙ ap (λ rest. l ∷ rest) (taken_back ls user entry)
  where
    changed : (ReservedList StoredReport → ReservedList StoredReport) → Bool → UserList StoredReport → UserList StoredReport
    changed change b m = if b then record { user = m.user; kept = change m.kept } else m

    by : (b : Bool) → same_user user l.user ≡ b
        → on_user user without_last (on_user user (with_last entry) (l ∷ ls)) ≡ l ∷ on_user user without_last (on_user user (with_last entry) ls)
    by true is =
        ap (λ b. changed without_last (same_user user (changed (with_last entry) b l).user) (changed (with_last entry) b l) ∷ on_user user without_last (on_user user (with_last entry) ls)) is
        ∙ ap (λ b. changed without_last b (changed (with_last entry) true l) ∷ on_user user without_last (on_user user (with_last entry) ls)) is
        ∙ ap (λ k. changed (λ _. k) true l ∷ on_user user without_last (on_user user (with_last entry) ls)) (kept_back l.kept entry)
    by false is =
        ap (λ b. changed without_last (same_user user (changed (with_last entry) b l).user) (changed (with_last entry) b l) ∷ on_user user without_last (on_user user (with_last entry) ls)) is
        ∙ ap (λ b. changed without_last b l ∷ on_user user without_last (on_user user (with_last entry) ls)) is

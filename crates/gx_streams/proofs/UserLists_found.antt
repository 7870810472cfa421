-- The list of a user among those of all.
use Rattle.std.proofs.Common.{◌≡◌, Bool, true, false, not, ◌&&◌, cond, List, [], ◌∷◌, map, refl, ◌∙◌, ap, sym}
use Rattle.std.specs.{Prelude.{Option, Some, None, find, is_some}, Option.option_map_or}
use Rattle.gx_units.specs.{Names.same_user, declared.names.UserName.UserName}
use Rattle.gx_units.proofs.Names_equal.{same_user_flip, user_is}
use Rattle.gx_policy.specs.{declared.policy.{PolicyData.PolicyData, User.User}, People.{is_reader, role_in, user_in}}
use Rattle.gx_history.specs.{declared.{«record».RecordData.RecordData, report.Report.Report}, Streams.stream, Verdicts.IsLegal}
use Rattle.gx_streams.specs.{Kept.{UserList, is_known, items_in, list_of}, Sending.KnowsReaders, Streams.{AllStreams, has_own_stream, mask_of, reports_in}, Telling.{UserReports, shown_streams, shown_list, reports_after, reports_of_user}}
use Rattle.gx_streams.proofs.Copies_only.{only_known}

abbrev found_for : UserName → List UserReports → Option UserReports
found_for user lists = find (λ (t : UserReports). same_user user t.user) lists

abbrev reports_for : UserName → List UserReports → List Report
reports_for user lists = option_map_or (λ (t : UserReports). t.reports) (found_for user lists) []

in_shown : (user : UserName) (lists : List (UserList Report)) → items_in lists user ≡ reports_for user (map shown_list lists)
in_shown user [] = refl
in_shown user (l ∷ ls) =
    elim (same_user user l.user) as (λ b. option_map_or (λ (x : UserList Report). x.kept.items) (cond b (Some l) (list_of ls user)) [] ≡ option_map_or (λ (t : UserReports). t.reports) (cond b (Some (shown_list l)) (found_for user (map shown_list ls))) [])
    [ true ↦ refl | false ↦ in_shown user ls ]

known_in_shown : (user : UserName) (lists : List (UserList Report)) → is_known lists user ≡ is_some (found_for user (map shown_list lists))
known_in_shown user [] = refl
known_in_shown user (l ∷ ls) =
    elim (same_user user l.user) as (λ b. is_some (cond b (Some l) (list_of ls user)) ≡ is_some (cond b (Some (shown_list l)) (found_for user (map shown_list ls))))
    [ true ↦ refl | false ↦ known_in_shown user ls ]

in_told : (policy : PolicyData) (history : List RecordData) (user : UserName) (users : List User)
    → reports_for user (map (reports_of_user policy history) users) ≡ option_map_or (λ (u : User). stream policy history user) (user_in users user) []
in_told policy history user [] = refl
in_told policy history user (u ∷ us) = by (same_user user u.name) refl (in_told policy history user us)
  where
    told : Bool → List Report
    told b = option_map_or (λ (t : UserReports). t.reports) (cond b (Some (reports_of_user policy history u)) (found_for user (map (reports_of_user policy history) us))) []

    his : Bool → List Report
    his b = option_map_or (λ (x : User). stream policy history user) (cond b (Some u) (user_in us user)) []

    by : (b : Bool) → same_user user u.name ≡ b → told false ≡ his false → told (same_user user u.name) ≡ his (same_user u.name user)
    by true is later = ap told is ∙ ap (stream policy history) (sym (user_is user u.name is)) ∙ sym (ap his (same_user_flip u.name user ∙ is))
    by false is later = ap told is ∙ later ∙ sym (ap his (same_user_flip u.name user ∙ is))

known_in_told : (policy : PolicyData) (history : List RecordData) (user : UserName) (users : List User)
    → is_some (found_for user (map (reports_of_user policy history) users)) ≡ is_some (user_in users user)
known_in_told policy history user [] = refl
known_in_told policy history user (u ∷ us) =
    elim (same_user user u.name) as (λ b. is_some (cond b (Some (reports_of_user policy history u)) (found_for user (map (reports_of_user policy history) us))) ≡ is_some (cond b (Some u) (user_in us user)))
    [ true ↦ refl | false ↦ known_in_told policy history user us ]
    ∙ sym (ap (λ b. is_some (cond b (Some u) (user_in us user))) (same_user_flip u.name user))

shown_is : (policy : PolicyData) (history : List RecordData) (streams : AllStreams) → shown_streams streams ≡ reports_after policy history
    → map shown_list streams.lists ≡ map (reports_of_user policy history) policy.users
unfolding shown_streams reports_after
shown_is policy history streams h = h

stream_or_nothing : {policy : PolicyData} {history : List RecordData} (user : UserName) → IsLegal policy history → (found : Option User) → user_in policy.users user ≡ found
    → option_map_or (λ (u : User). stream policy history user) found [] ≡ stream policy history user
stream_or_nothing {policy} {history} user legal None e = sym (only_known policy history user legal e)
stream_or_nothing user legal (Some u) e = refl

pub reports_are : (policy : PolicyData) (history : List RecordData) (streams : AllStreams) → IsLegal policy history → shown_streams streams ≡ reports_after policy history
    → (user : UserName) → reports_in streams user ≡ stream policy history user
reports_are policy history streams legal h user =
    in_shown user streams.lists ∙ ap (reports_for user) (shown_is policy history streams h) ∙ in_told policy history user policy.users
    ∙ stream_or_nothing user legal (user_in policy.users user) refl

known_are : (policy : PolicyData) (history : List RecordData) (streams : AllStreams) → shown_streams streams ≡ reports_after policy history
    → (user : UserName) → is_known streams.lists user ≡ is_some (user_in policy.users user)
known_are policy history streams h user =
    known_in_shown user streams.lists ∙ ap (λ (lists : List UserReports). is_some (found_for user lists)) (shown_is policy history streams h) ∙ known_in_told policy history user policy.users

pub told_are : (policy : PolicyData) (history : List RecordData) (streams : AllStreams) → shown_streams streams ≡ reports_after policy history → KnowsReaders policy streams
    → (user : UserName) → has_own_stream streams user ≡ (is_some (user_in policy.users user) && not (is_reader (role_in policy.users user)))
told_are policy history streams h readers user =
    ap (λ b. b && not (is_some (mask_of streams user))) (known_are policy history streams h user)
    ∙ ap (λ b. is_some (user_in policy.users user) && not b) (readers user)

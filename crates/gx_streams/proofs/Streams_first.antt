-- Streams as they open.
use Rattle.std.proofs.Common.{◌≡◌, List, [], ◌∷◌, ◌++◌, map, cond, refl, ◌∙◌, sym, ap, subst, if◌then◌else◌, true, false, arith}
use Rattle.std.specs.{Prelude.{Option, Some, is_some}, Option.option_map_or, List.{AllByRecursion, find, flat_map}}
use Rattle.gx_units.specs.{Names.same_user, declared.names.UserName.UserName}
use Rattle.gx_units.proofs.Names_equal.{user_is_itself}
use Rattle.gx_policy.specs.{declared.policy.{User.User, PolicyData.PolicyData}, People.is_reader}
use Rattle.gx_history.specs.declared.report.Report.{Report}
use Rattle.gx_streams.specs.{declared.{stored_report.StoredReport.StoredReport, fill.ReportedFill.ReportedFill}, Kept.{ReservedList, UserList, list_of, empty_list, empty_lists, empty_user_list}, Spans.{IsSound, ReaderSpans, first_spans, is_named, no_spans, spans_for}, Streams.{AllStreams, ReaderMask, empty_streams, no_mask}, Table.{IsSoundTable, IsFillThere, kept_copies, list_shown, reader_mask, streams_of}}
use Rattle.gx_streams.proofs.{UserLists_shown.{AllKnown}, Readers_silent.silent_first}

-- whoever is found among readers without spans has nothing
none_copied : (users : List User) (name : UserName) → option_map_or (kept_copies []) (find (is_named name) (flat_map spans_for users)) empty_list ≡ empty_list
none_copied [] name = refl
none_copied (u ∷ users) name =
    elim (is_reader (Some u.role)) as (λ b. copied (find (is_named name) ((if b then no_spans u.name ∷ [] else []) ++ flat_map spans_for users)) ≡ empty_list) [
      | true ↦ elim (same_user name u.name) as (λ d. copied (cond d (Some (no_spans u.name)) (find (is_named name) (flat_map spans_for users))) ≡ empty_list) [ true ↦ refl | false ↦ none_copied users name ]
      | false ↦ none_copied users name
    ]
  where
    copied : Option ReaderSpans → ReservedList Report
    copied o = option_map_or (kept_copies []) o empty_list

told : (all users : List User) → map (list_shown [] (flat_map spans_for all)) (map empty_user_list users) ≡ map empty_user_list users
told all [] = refl
told all (u ∷ users) =
    let row : ReservedList Report → UserList Report = λ k. record { user = u.name; kept = k } in
    ap (λ k. row k ∷ map (list_shown [] (flat_map spans_for all)) (map empty_user_list users)) (none_copied all u.name)
    ∙ ap (λ rest. empty_user_list u ∷ rest) (told all users)

masked : (users : List User) → map reader_mask (flat_map spans_for users) ≡ flat_map no_mask users
masked [] = refl
masked (u ∷ users) =
    elim (is_reader (Some u.role)) as (λ b. map reader_mask ((if b then no_spans u.name ∷ [] else []) ++ flat_map spans_for users)
    ≡ (if b then (let r : ReaderMask = record { user = u.name; mask = 0 } in r) ∷ [] else []) ++ flat_map no_mask users)
    [ true ↦ ap (λ rest. reader_mask (no_spans u.name) ∷ rest) (masked users) | false ↦ masked users ]

pub opened : (policy : PolicyData) → streams_of [] (empty_lists policy) (first_spans policy) ≡ empty_streams policy
opened policy =
    let state : List (UserList Report) → List ReaderMask → AllStreams = λ t r. record { lists = t; readers = r } in
    ap (λ t. state t (map reader_mask (first_spans policy))) (told policy.users policy.users) ∙ ap (state (map empty_user_list policy.users)) (masked policy.users)

there : (users : List User) → AllByRecursion (λ (l : UserList StoredReport). AllByRecursion (IsFillThere 0) l.kept.items) (map empty_user_list users)
there [] = tt
there (u ∷ users) = (tt, there users)

no_spans_sound : (u : User) → IsSound [] (no_spans u.name)
no_spans_sound u = record { begun = tt; now_begun = omega arith; count_is = refl; numbered = refl; few = omega arith }

sound : (users : List User) → AllByRecursion (IsSound []) (flat_map spans_for users)
sound [] = tt
sound (u ∷ users) =
    elim (is_reader (Some u.role)) as (λ b. AllByRecursion (IsSound []) ((if b then no_spans u.name ∷ [] else []) ++ flat_map spans_for users))
    [ true ↦ (no_spans_sound u, sound users) | false ↦ sound users ]

-- who is known among some is known among more
still_known : (l : UserList StoredReport) (ls : List (UserList StoredReport)) (rs : List ReaderSpans) → AllKnown ls rs → AllKnown (l ∷ ls) rs
still_known l ls [] all = tt
still_known l ls (r ∷ rs) all = (
  elim (same_user r.user l.user) as (λ b. is_some (cond b (Some l) (list_of ls r.user)) ≡ true) [ true ↦ refl | false ↦ all.0 ],
  still_known l ls rs all.1,
)

known : (users : List User) → AllKnown (map (empty_user_list {X = StoredReport}) users) (flat_map spans_for users)
known [] = tt
known (u ∷ users) =
    let later : AllKnown (map (empty_user_list {X = StoredReport}) (u ∷ users)) (flat_map spans_for users) = still_known (empty_user_list u) (map (empty_user_list {X = StoredReport}) users) (flat_map spans_for users) (known users) in
    elim (is_reader (Some u.role)) as (λ b. AllKnown (map (empty_user_list {X = StoredReport}) (u ∷ users)) ((if b then no_spans u.name ∷ [] else []) ++ flat_map spans_for users))
    [ true ↦ (ap (λ b. is_some (cond b (Some (empty_user_list u)) (list_of (map (empty_user_list {X = StoredReport}) users) u.name))) (user_is_itself u.name), later) | false ↦ later ]

pub opened_sound : (policy : PolicyData) (fills : List ReportedFill) (lists : List (UserList StoredReport)) (spans : List ReaderSpans) → fills ≡ [] → lists ≡ empty_lists policy → spans ≡ first_spans policy → IsSoundTable fills lists spans
opened_sound policy fills lists spans none is are =
    let good : IsSoundTable [] (empty_lists policy) (first_spans policy) = record { there = there policy.users; sound = sound policy.users; known = known policy.users; silent = silent_first policy.users (first_spans policy) } in
    subst (λ f. IsSoundTable f lists spans) (sym none) (subst (λ l. IsSoundTable [] l spans) (sym is) (subst (IsSoundTable [] (empty_lists policy)) (sym are) good))

-- What is told to lists of users, and what changed lists show.
use Rattle.std.proofs.{Common.{◌≡◌, ℕ, true, false, List, [], ◌∷◌, ◌++◌, refl, ◌∙◌, ap, sym, map, append_assoc, if◌then◌else◌}, lemmas.List.{append-nil, Sums.fold_push}}
use Rattle.std.specs.Prelude.{filter}
use Rattle.gx_units.specs.{Names.same_user, declared.names.UserName.UserName}
use Rattle.gx_policy.specs.declared.policy.{PolicyData.PolicyData, User.User}
use Rattle.gx_history.specs.{declared.{«record».RecordData.RecordData, report.{Message.Message, Report.Report}}, Streams.{report_of, reports_of, stream, to_user}}
use Rattle.gx_laws.proofs.Streams_next.{stream_next, stream_none}
use Rattle.gx_streams.specs.{Kept.{ReservedList, UserList, on_user, empty_user_list, with_reserved_last, with_last, with_reserved}, Laws.{OwesAll, OwesNothing, OwesTo, TellsAll, TellsNobody, TellsOne}, Streams.{AllStreams, empty_streams, on_list_of}, Telling.{UserReports, each_with_more, only_to, report_to, reports_to, shown_streams, shown_list, reports_after, reports_of_user, with_reports_to, with_all_reports, with_more, with_report}}

abbrev told_with : UserReports → List Report → UserReports
told_with t more = record { user = t.user; reports = t.reports ++ more }

abbrev with_reports : UserName → List Report → UserReports
with_reports user reports = record { user = user; reports = reports }

pub each_told_same : (f g : UserName → List Report) → ((user : UserName) → f user ≡ g user) → (lists : List UserReports) → each_with_more f lists ≡ each_with_more g lists
each_told_same f g h [] = refl
each_told_same f g h (t ∷ ts) =
    ap (λ (more : List Report). told_with t more ∷ each_with_more f ts) (h t.user) ∙ ap (λ (rest : List UserReports). with_more g t ∷ rest) (each_told_same f g h ts)

each_told_nothing : (f : UserName → List Report) → ((user : UserName) → f user ≡ []) → (lists : List UserReports) → each_with_more f lists ≡ lists
each_told_nothing f h [] = refl
each_told_nothing f h (t ∷ ts) =
    ap (λ (more : List Report). told_with t more ∷ each_with_more f ts) (h t.user)
    ∙ ap (λ (reports : List Report). with_reports t.user reports ∷ each_with_more f ts) (append-nil t.reports)
    ∙ ap (λ (rest : List UserReports). t ∷ rest) (each_told_nothing f h ts)

each_told_twice : (f g : UserName → List Report) (lists : List UserReports) → each_with_more g (each_with_more f lists) ≡ each_with_more (λ user. f user ++ g user) lists
each_told_twice f g [] = refl
each_told_twice f g (t ∷ ts) =
    ap (λ (reports : List Report). with_reports t.user reports ∷ each_with_more g (each_with_more f ts)) (append_assoc t.reports (f t.user) (g t.user))
    ∙ ap (λ (rest : List UserReports). told_with t (f t.user ++ g t.user) ∷ rest) (each_told_twice f g ts)

-- where each stream goes on, so does what is told
abbrev pub GoesOn : PolicyData → List RecordData → List RecordData → (UserName → List Report) → Type 0
GoesOn policy before after more = (user : UserName) → stream policy after user ≡ stream policy before user ++ more user

more_for : (policy : PolicyData) (before after : List RecordData) (more : UserName → List Report) → GoesOn policy before after more
    → (users : List User) → map (reports_of_user policy after) users ≡ each_with_more more (map (reports_of_user policy before) users)
more_for policy before after more h [] = refl
more_for policy before after more h (u ∷ us) =
    ap (λ (reports : List Report). with_reports u.name reports ∷ map (reports_of_user policy after) us) (h u.name)
    ∙ ap (λ (rest : List UserReports). with_more more (reports_of_user policy before u) ∷ rest) (more_for policy before after more h us)

pub more_told : (policy : PolicyData) (before after : List RecordData) (more : UserName → List Report) → GoesOn policy before after more
    → reports_after policy after ≡ each_with_more more (reports_after policy before)
unfolding reports_after
more_told policy before after more h = more_for policy before after more h policy.users

pub nobody_told : (policy : PolicyData) (before after : List RecordData) → TellsNobody policy before after → reports_after policy after ≡ reports_after policy before
nobody_told policy before after h =
    more_told policy before after (λ user. []) (λ user. h user ∙ sym (append-nil (stream policy before user)))
    ∙ each_told_nothing (λ user. []) (λ user. refl) (reports_after policy before)

-- messages for one user are reports for him alone
only_messages : (r : RecordData) (receiver user : UserName) (told : List Message)
    → map (report_of r) (to_user receiver user told) ≡ only_to receiver (map (report_of r) told) user
only_messages r receiver user told =
    elim (same_user receiver user) as (λ b. let ms : List Message = if b then told else [] in let rs : List Report = if b then map (report_of r) told else [] in map (report_of r) ms ≡ rs) [ true ↦ refl | false ↦ refl ]

pub one_told : (policy : PolicyData) (before after : List RecordData) (r : RecordData) (receiver : UserName) (told : List Message)
    → TellsOne policy before after r receiver told → reports_after policy after ≡ with_reports_to receiver (map (report_of r) told) (reports_after policy before)
one_told policy before after r receiver told h =
    more_told policy before after (only_to receiver (map (report_of r) told))
    (λ user. h user ∙ ap (λ (rs : List Report). stream policy before user ++ rs) (only_messages r receiver user told))

pub all_told : (policy : PolicyData) (before after : List RecordData) (r : RecordData) (told : List (UserName × Message))
    → TellsAll policy before after r told → reports_after policy after ≡ each_with_more (reports_to (map (report_to r) told)) (reports_after policy before)
all_told policy before after r told h = more_told policy before after (reports_to (map (report_to r) told)) h

-- a record tells what it owes
pub owed_goes_on : (policy : PolicyData) (history : List RecordData) (r : RecordData) (more : UserName → List Report)
    → ((user : UserName) → reports_of policy user (history, r) ≡ more user) → GoesOn policy history (history ++ r ∷ []) more
owed_goes_on policy history r more h user = stream_next policy history r user ∙ ap (λ (rs : List Report). stream policy history user ++ rs) (h user)

pub one_owed : (policy : PolicyData) (history : List RecordData) (r : RecordData) (receiver : UserName) (owed : List Message)
    → OwesTo policy history r receiver owed → TellsOne policy history (history ++ r ∷ []) r receiver owed
one_owed policy history r receiver owed h = owed_goes_on policy history r (λ user. map (report_of r) (to_user receiver user owed)) h

pub all_owed : (policy : PolicyData) (history : List RecordData) (r : RecordData) (owed : List (UserName × Message))
    → OwesAll policy history r owed → TellsAll policy history (history ++ r ∷ []) r owed
all_owed policy history r owed h = owed_goes_on policy history r (reports_to (map (report_to r) owed)) h

pub none_owed : (policy : PolicyData) (history : List RecordData) (r : RecordData) → OwesNothing policy history r → TellsNobody policy history (history ++ r ∷ [])
none_owed policy history r h user = owed_goes_on policy history r (λ user. []) h user ∙ append-nil (stream policy history user)

first_for : (policy : PolicyData) (users : List User) → map shown_list (map empty_user_list users) ≡ map (reports_of_user policy []) users
first_for policy [] = refl
first_for policy (u ∷ us) =
    ap (λ (reports : List Report). with_reports u.name reports ∷ map shown_list (map empty_user_list us)) (sym (stream_none policy u.name))
    ∙ ap (λ (rest : List UserReports). reports_of_user policy [] u ∷ rest) (first_for policy us)

pub first_told : (policy : PolicyData) → shown_streams (empty_streams policy) ≡ reports_after policy []
unfolding shown_streams reports_after
first_told policy = first_for policy policy.users

shown_more : (user : UserName) (change : ReservedList Report → ReservedList Report) (report : Report) → ((k : ReservedList Report) → (change k).items ≡ k.items ++ report ∷ [])
    → (lists : List (UserList Report)) → map shown_list (on_user user change lists) ≡ with_reports_to user (report ∷ []) (map shown_list lists)
shown_more user change report h [] = refl
shown_more user change report h (l ∷ ls) =
    elim (same_user user l.user) as (λ b. let m : UserList Report = if b then record { user = l.user; kept = change l.kept } else l in let more : List Report = if b then report ∷ [] else [] in shown_list m ∷ map shown_list (on_user user change ls) ≡ told_with (shown_list l) more ∷ map shown_list (on_user user change ls)) [
      | true ↦ ap (λ (reports : List Report). with_reports l.user reports ∷ map shown_list (on_user user change ls)) (h l.kept)
      | false ↦ ap (λ (reports : List Report). with_reports l.user reports ∷ map shown_list (on_user user change ls)) (sym (append-nil l.kept.items))
    ]
    ∙ ap (λ (rest : List UserReports). with_more (only_to user (report ∷ [])) (shown_list l) ∷ rest) (shown_more user change report h ls)

shown_same : (user : UserName) (change : ReservedList Report → ReservedList Report) → ((k : ReservedList Report) → (change k).items ≡ k.items)
    → (lists : List (UserList Report)) → map shown_list (on_user user change lists) ≡ map shown_list lists
shown_same user change h [] = refl
shown_same user change h (l ∷ ls) =
    elim (same_user user l.user) as (λ b. let m : UserList Report = if b then record { user = l.user; kept = change l.kept } else l in shown_list m ∷ map shown_list (on_user user change ls) ≡ shown_list l ∷ map shown_list (on_user user change ls))
    [ true ↦ ap (λ (reports : List Report). with_reports l.user reports ∷ map shown_list (on_user user change ls)) (h l.kept) | false ↦ refl ]
    ∙ ap (λ (rest : List UserReports). shown_list l ∷ rest) (shown_same user change h ls)

pub last_shown : (streams : AllStreams) (user : UserName) (report : Report) → shown_streams (on_list_of user (with_last report) streams) ≡ with_reports_to user (report ∷ []) (shown_streams streams)
unfolding shown_streams
last_shown streams user report = shown_more user (with_last report) report (λ k. refl) streams.lists

pub kept_last_shown : (streams : AllStreams) (user : UserName) (report : Report) → shown_streams (on_list_of user (with_reserved_last report) streams) ≡ with_reports_to user (report ∷ []) (shown_streams streams)
unfolding shown_streams
kept_last_shown streams user report = shown_more user (with_reserved_last report) report (λ k. refl) streams.lists

pub places_not_shown : (streams : AllStreams) (user : UserName) (places : ℕ) → shown_streams (on_list_of user (with_reserved places) streams) ≡ shown_streams streams
unfolding shown_streams
places_not_shown streams user places = shown_same user (with_reserved places) (λ k. refl) streams.lists

one_more_owed : (o : UserName × Report) (owed : List (UserName × Report)) (user : UserName) → only_to o.0 (o.1 ∷ []) user ++ reports_to owed user ≡ reports_to (o ∷ owed) user
one_more_owed o owed user =
    elim (same_user o.0 user) as (λ b. let one : List Report = if b then o.1 ∷ [] else [] in let kept : List (UserName × Report) = if b then o ∷ filter (λ (x : UserName × Report). same_user x.0 user) owed else filter (λ (x : UserName × Report). same_user x.0 user) owed in one ++ reports_to owed user ≡ map (λ (x : UserName × Report). x.1) kept)
    [ true ↦ refl | false ↦ refl ]

pub all_owed_shown : (streams : AllStreams) (owed : List (UserName × Report)) → shown_streams (with_all_reports owed streams) ≡ each_with_more (reports_to owed) (shown_streams streams)
all_owed_shown streams [] = sym (each_told_nothing (reports_to []) (λ user. refl) (shown_streams streams))
all_owed_shown streams (o ∷ owed) =
    all_owed_shown (with_report streams o) owed
    ∙ ap (each_with_more (reports_to owed)) (kept_last_shown streams o.0 o.1)
    ∙ each_told_twice (only_to o.0 (o.1 ∷ [])) (reports_to owed) (shown_streams streams)
    ∙ each_told_same (λ user. only_to o.0 (o.1 ∷ []) user ++ reports_to owed user) (reports_to (o ∷ owed)) (one_more_owed o owed) (shown_streams streams)

pub owed_next : (streams : AllStreams) (owed : List (UserName × Report)) (o : UserName × Report) → with_all_reports (owed ++ o ∷ []) streams ≡ with_report (with_all_reports owed streams) o
owed_next streams owed o = fold_push with_report streams owed o

pub stays_by_one : (policy : PolicyData) (before after : List RecordData) (r : RecordData) (streams : AllStreams) (receiver : UserName) (message : Message)
    → shown_streams streams ≡ reports_after policy before → TellsOne policy before after r receiver (message ∷ [])
    → shown_streams (on_list_of receiver (with_reserved_last (report_of r message)) streams) ≡ reports_after policy after
stays_by_one policy before after r streams receiver message h tells =
    kept_last_shown streams receiver (report_of r message) ∙ ap (with_reports_to receiver (report_of r message ∷ [])) h ∙ sym (one_told policy before after r receiver (message ∷ []) tells)

pub stays_by_all : (policy : PolicyData) (before after : List RecordData) (r : RecordData) (streams : AllStreams) (told : List (UserName × Message))
    → shown_streams streams ≡ reports_after policy before → TellsAll policy before after r told
    → shown_streams (with_all_reports (map (report_to r) told) streams) ≡ reports_after policy after
stays_by_all policy before after r streams told h tells =
    all_owed_shown streams (map (report_to r) told) ∙ ap (each_with_more (reports_to (map (report_to r) told))) h ∙ sym (all_told policy before after r told tells)

pub stays_by_none : (policy : PolicyData) (before after : List RecordData) (streams : AllStreams)
    → shown_streams streams ≡ reports_after policy before → TellsNobody policy before after → shown_streams streams ≡ reports_after policy after
stays_by_none policy before after streams h tells = h ∙ sym (nobody_told policy before after tells)

-- A reader has no entries: what he is told are his copies.
use Rattle.std.proofs.Common.{◌≡◌, ℕ, Bool, true, false, cond, List, [], ◌∷◌, map, true≢false, refl, ◌∙◌, sym, ap, if◌then◌else◌}
use Rattle.std.specs.{Prelude.{Option, Some, None, is_some}, Option.option_map_or, List.{AllByRecursion, find}}
use Rattle.gx_units.specs.{Names.same_user, declared.names.UserName.UserName}
use Rattle.gx_units.proofs.Names_equal.{user_is, user_is_itself}
use Rattle.gx_policy.specs.declared.policy.User.{User}
use Rattle.gx_streams.specs.{declared.{fill.ReportedFill.ReportedFill, stored_report.StoredReport.StoredReport}, Kept.{ReservedList, UserList, at_first, items_in, list_of, on_user, empty_user_list}, Spans.{ReaderSpans, with_copies_counted, entitled_from, is_named}}

abbrev pub AllSilent : List (UserList StoredReport) → List ReaderSpans → Type 0
AllSilent ls rs = AllByRecursion (λ (r : ReaderSpans). items_in ls r.user ≡ []) rs

-- a change of one user's list is none of another's
others_items : (user name : UserName) (change : ReservedList StoredReport → ReservedList StoredReport) (ls : List (UserList StoredReport)) → same_user user name ≡ false → items_in (on_user user change ls) name ≡ items_in ls name
others_items user name change [] apart = refl
others_items user name change (l ∷ ls) apart = by (same_user user l.user) (same_user name l.user) refl refl (others_items user name change ls apart)
  where
    changed : Bool → UserList StoredReport
    changed b = if b then record { user = l.user; kept = change l.kept } else l

    with_rest : Bool → Bool → Option (UserList StoredReport) → List StoredReport
    with_rest b d rest = option_map_or (λ (m : UserList StoredReport). m.kept.items) (cond d (Some (changed b)) rest) []

    named : (b : Bool) → option_map_or (λ (m : UserList StoredReport). m.kept.items) (cond (same_user name (changed b).user) (Some (changed b)) (list_of (on_user user change ls) name)) [] ≡ with_rest b (same_user name l.user) (list_of (on_user user change ls) name)
    named true = refl
    named false = refl

    by : (b d : Bool) → same_user user l.user ≡ b → same_user name l.user ≡ d → items_in (on_user user change ls) name ≡ items_in ls name
        → items_in (on_user user change (l ∷ ls)) name ≡ items_in (l ∷ ls) name
    by true true is his later =
        absurd (true≢false (sym (ap (same_user user) (user_is name l.user his ∙ sym (user_is user l.user is)) ∙ user_is_itself user) ∙ apart))
    by true false is his later =
        named (same_user user l.user) ∙ ap (λ d. with_rest (same_user user l.user) d (list_of (on_user user change ls) name)) his ∙ later
        ∙ sym (ap (λ d. with_rest false d (list_of ls name)) his)
    by false true is his later =
        named (same_user user l.user) ∙ ap (λ b. with_rest b (same_user name l.user) (list_of (on_user user change ls) name)) is
        ∙ ap (λ d. with_rest false d (list_of (on_user user change ls) name)) his ∙ sym (ap (λ d. with_rest false d (list_of ls name)) his)
    by false false is his later =
        named (same_user user l.user) ∙ ap (λ b. with_rest b (same_user name l.user) (list_of (on_user user change ls) name)) is
        ∙ ap (λ d. with_rest false d (list_of (on_user user change ls) name)) his ∙ later ∙ sym (ap (λ d. with_rest false d (list_of ls name)) his)

-- a change of the list of a user who is no reader
pub silent_changed : (ls : List (UserList StoredReport)) (user : UserName) (change : ReservedList StoredReport → ReservedList StoredReport) (rs : List ReaderSpans) → find (is_named user) rs ≡ None → AllSilent ls rs → AllSilent (on_user user change ls) rs
silent_changed ls user change [] none all = tt
silent_changed ls user change (r ∷ rs) none all = by (same_user user r.user) refl none (λ e. silent_changed ls user change rs e all.1)
  where
    by : (b : Bool) → same_user user r.user ≡ b → cond b (Some r) (find (is_named user) rs) ≡ None → (find (is_named user) rs ≡ None → AllSilent (on_user user change ls) rs) → AllSilent (on_user user change ls) (r ∷ rs)
    by true is e later = cc
    by false is e later = (others_items user r.user change ls is ∙ all.0, later e)

pub silent_counted : (ls : List (UserList StoredReport)) (f : ReportedFill) (rs : List ReaderSpans) → AllSilent ls rs → AllSilent ls (map (with_copies_counted f) rs)
silent_counted ls f [] all = tt
silent_counted ls f (r ∷ rs) all = (all.0, silent_counted ls f rs all.1)

pub silent_masked : (ls : List (UserList StoredReport)) (user : UserName) (mask fill : ℕ) (rs : List ReaderSpans) → AllSilent ls rs → AllSilent ls (at_first (is_named user) (entitled_from mask fill) rs)
silent_masked ls user mask fill [] all = tt
silent_masked ls user mask fill (r ∷ rs) all =
    elim (same_user user r.user) as (λ b. AllSilent ls (if b then entitled_from mask fill r ∷ rs else r ∷ at_first (is_named user) (entitled_from mask fill) rs))
    [ true ↦ (all.0, all.1) | false ↦ (all.0, silent_masked ls user mask fill rs all.1) ]

nothing_yet : (users : List User) (name : UserName) → items_in (map (empty_user_list {X = StoredReport}) users) name ≡ []
nothing_yet [] name = refl
nothing_yet (u ∷ users) name =
    elim (same_user name u.name) as (λ b. option_map_or (λ (l : UserList StoredReport). l.kept.items) (cond b (Some (empty_user_list u)) (list_of (map (empty_user_list {X = StoredReport}) users) name)) [] ≡ [])
    [ true ↦ refl | false ↦ nothing_yet users name ]

-- before anything is told
pub silent_first : (users : List User) (rs : List ReaderSpans) → AllSilent (map (empty_user_list {X = StoredReport}) users) rs
silent_first users [] = tt
silent_first users (r ∷ rs) = (nothing_yet users r.user, silent_first users rs)

-- a reader who is found has no entries
pub found_silent : (ls : List (UserList StoredReport)) (user : UserName) (rs : List ReaderSpans) → AllSilent ls rs → is_some (find (is_named user) rs) ≡ true → items_in ls user ≡ []
found_silent ls user [] all some = cc
found_silent ls user (r ∷ rs) all some = by (same_user user r.user) refl some (found_silent ls user rs all.1)
  where
    by : (b : Bool) → same_user user r.user ≡ b → is_some (cond b (Some r) (find (is_named user) rs)) ≡ true → (is_some (find (is_named user) rs) ≡ true → items_in ls user ≡ []) → items_in ls user ≡ []
    by true is e later = ap (items_in ls) (user_is user r.user is) ∙ all.0
    by false is e later = later e

-- The lists that entries and spans stand for.
use Rattle.std.proofs.{Common.{◌≡◌, ℕ, ◌+◌, ◌-◌, ◌<◌, ◌≤◌, Bool, true, false, cond, not, List, [], ◌∷◌, ◌++◌, length, map, refl, ◌∙◌, sym, ap, subst, arith, true≢false, append_assoc, if◌then◌else◌}, lemmas.{List.{append-nil, length-append, map-append}, Option.same_Some}}
use Rattle.std.specs.{Prelude.{Option, Some, None, is_some, option_map}, Option.option_map_or, List.{AllByRecursion, find}}
use Rattle.gx_units.specs.{Names.same_user, declared.names.UserName.UserName}
use Rattle.gx_units.proofs.{Names_equal.user_is, Lists_found.{get_before, get_last}}
use Rattle.gx_history.specs.declared.report.Report.{Report}
use Rattle.gx_streams.specs.{declared.{fill.{ReportedFill.ReportedFill, FillRole.FillRole}, stored_report.StoredReport.StoredReport}, Fills.{fill_copies, executed_report, fill_side}, Kept.{ReservedList, UserList, at_first, is_known, list_of, on_user, reserved_in, with_reserved_last, with_last, with_reserved}, Spans.{IsSound, ReaderSpans, with_copies_counted, entitled_from, is_named}, Streams.{ReaderMask, mask_in, with_fill_reports}, Table.{IsFillThere, kept_copies, kept_reports, list_shown, no_report, reader_mask, report_stored}}
use Rattle.gx_streams.proofs.{Spans_next.{none_yet, one_more}, Users_table.known_after}

abbrev row : UserName → ReservedList Report → UserList Report
row user k = record { user = user; kept = k }

-- a user's kept reports, by what is found of him among the readers
abbrev kept_shown : List ReportedFill → Option ReaderSpans → ReservedList StoredReport → ReservedList Report
kept_shown fills found k = option_map_or (kept_copies fills) found (kept_reports fills k)

-- ---- what the lists say of a user

-- the list found says what his entries and spans say
pub found_shown : {Y : Type 0} (of : ReservedList Report → Y) (otherwise : Y) (fills : List ReportedFill) (rs : List ReaderSpans) (ls : List (UserList StoredReport)) (user : UserName)
    → option_map_or (λ (l : UserList Report). of l.kept) (list_of (map (list_shown fills rs) ls) user) otherwise
    ≡ option_map_or (λ (l : UserList StoredReport). of (kept_shown fills (find (is_named user) rs) l.kept)) (list_of ls user) otherwise
found_shown of otherwise fills rs [] user = refl
found_shown {Y} of otherwise fills rs (l ∷ ls) user = by (same_user user l.user) refl (found_shown of otherwise fills rs ls user)
  where
    shown : Bool → Y
    shown b = option_map_or (λ (m : UserList Report). of m.kept) (cond b (Some (list_shown fills rs l)) (list_of (map (list_shown fills rs) ls) user)) otherwise

    his : Bool → Y
    his b = option_map_or (λ (m : UserList StoredReport). of (kept_shown fills (find (is_named user) rs) m.kept)) (cond b (Some l) (list_of ls user)) otherwise

    by : (b : Bool) → same_user user l.user ≡ b → shown false ≡ his false → shown (same_user user l.user) ≡ his (same_user user l.user)
    by true is later =
        ap shown is ∙ ap (λ (name : UserName). of (kept_shown fills (find (is_named name) rs) l.kept)) (sym (user_is user l.user is)) ∙ sym (ap his is)
    by false is later = ap shown is ∙ later ∙ sym (ap his is)

pub known_shown : (fills : List ReportedFill) (rs : List ReaderSpans) (ls : List (UserList StoredReport)) (user : UserName) → is_known (map (list_shown fills rs) ls) user ≡ is_known ls user
known_shown fills rs [] user = refl
known_shown fills rs (l ∷ ls) user =
    elim (same_user user l.user) as (λ b. is_some (cond b (Some (list_shown fills rs l)) (list_of (map (list_shown fills rs) ls) user)) ≡ is_some (cond b (Some l) (list_of ls user)))
    [ true ↦ refl | false ↦ known_shown fills rs ls user ]

-- the mask of a user is that of his spans
pub mask_found : (rs : List ReaderSpans) (user : UserName) → mask_in (map reader_mask rs) user ≡ option_map (λ (r : ReaderSpans). r.current.mask) (find (is_named user) rs)
mask_found [] user = refl
mask_found (r ∷ rs) user =
    elim (same_user user r.user) as (λ b. option_map (λ (q : ReaderMask). q.mask) (cond b (Some (reader_mask r)) (find (λ (q : ReaderMask). same_user user q.user) (map reader_mask rs)))
    ≡ option_map (λ (q : ReaderSpans). q.current.mask) (cond b (Some r) (find (is_named user) rs)))
    [ true ↦ refl | false ↦ mask_found rs user ]

-- who has no mask is no reader
pub no_reader : (rs : List ReaderSpans) (user : UserName) → not (is_some (mask_in (map reader_mask rs) user)) ≡ true → find (is_named user) rs ≡ None
no_reader rs user h = by (find (is_named user) rs) (sym (ap (λ o. not (is_some o)) (mask_found rs user)) ∙ h)
  where
    by : (o : Option ReaderSpans) → not (is_some (option_map (λ (r : ReaderSpans). r.current.mask) o)) ≡ true → o ≡ None
    by None e = refl
    by (Some r) e = absurd (true≢false (sym e))

-- who has a place is no reader, and has it among the entries
pub place_shown : (fills : List ReportedFill) (rs : List ReaderSpans) (ls : List (UserList StoredReport)) (user : UserName) → 0 < reserved_in (map (list_shown fills rs) ls) user
    → (find (is_named user) rs ≡ None) × (0 < reserved_in ls user)
place_shown fills rs ls user h = by (find (is_named user) rs) (found_shown (λ (k : ReservedList Report). k.reserved) 0 fills rs ls user)
  where
    none : (r : ReaderSpans) (o : Option (UserList StoredReport)) → option_map_or (λ (l : UserList StoredReport). (kept_copies fills r).reserved) o 0 ≡ 0
    none r None = refl
    none r (Some l) = refl

    by : (found : Option ReaderSpans)
        → reserved_in (map (list_shown fills rs) ls) user ≡ option_map_or (λ (l : UserList StoredReport). (kept_shown fills found l.kept).reserved) (list_of ls user) 0
        → (found ≡ None) × (0 < reserved_in ls user)
    by None e = (refl, (let p : reserved_in (map (list_shown fills rs) ls) user ≡ reserved_in ls user = e in omega (arith, p, h)))
    by (Some r) e = let p : reserved_in (map (list_shown fills rs) ls) user ≡ 0 = e ∙ none r (list_of ls user) in absurd (omega (arith, p, h))

-- ---- a list that changed

-- where the user is no reader, what is shown of him follows a change of his entries
pub change_shown : (fills : List ReportedFill) (rs : List ReaderSpans) (change : ReservedList StoredReport → ReservedList StoredReport) (shown : ReservedList Report → ReservedList Report) (user : UserName) (ls : List (UserList StoredReport))
    → find (is_named user) rs ≡ None → ((k : ReservedList StoredReport) → kept_reports fills (change k) ≡ shown (kept_reports fills k))
    → map (list_shown fills rs) (on_user user change ls) ≡ on_user user shown (map (list_shown fills rs) ls)
change_shown fills rs change shown user [] none follows = refl
change_shown fills rs change shown user (l ∷ ls) none follows =
    by (same_user user l.user) refl
    ∙ ap (λ rest. (if same_user user l.user then row l.user (shown (list_shown fills rs l).kept) else list_shown fills rs l) ∷ rest) (change_shown fills rs change shown user ls none follows)
  where
    changed : Bool → UserList StoredReport
    changed b = if b then record { user = l.user; kept = change l.kept } else l

    rest : List (UserList Report)
    rest = map (list_shown fills rs) (on_user user change ls)

    by : (b : Bool) → same_user user l.user ≡ b
        → list_shown fills rs (changed (same_user user l.user)) ∷ rest ≡ (if same_user user l.user then row l.user (shown (list_shown fills rs l).kept) else list_shown fills rs l) ∷ rest
    by true is =
        let his : find (is_named l.user) rs ≡ None = ap (λ (name : UserName). find (is_named name) rs) (sym (user_is user l.user is)) ∙ none in
        ap (λ b. list_shown fills rs (changed b) ∷ rest) is
        ∙ ap (λ o. row l.user (kept_shown fills o (change l.kept)) ∷ rest) his
        ∙ ap (λ k. row l.user k ∷ rest) (follows l.kept)
        ∙ sym (ap (λ b. (if b then row l.user (shown (list_shown fills rs l).kept) else list_shown fills rs l) ∷ rest) is
        ∙ ap (λ o. row l.user (shown (kept_shown fills o l.kept)) ∷ rest) his)
    by false is =
        ap (λ b. list_shown fills rs (changed b) ∷ rest) is
        ∙ sym (ap (λ b. (if b then row l.user (shown (list_shown fills rs l).kept) else list_shown fills rs l) ∷ rest) is)

abbrev reports_state : ℕ → List Report → ReservedList Report
reports_state reserved items = record { items = items; reserved = reserved }

last_follows : (fills : List ReportedFill) (e : StoredReport) (k : ReservedList StoredReport) → kept_reports fills (with_last e k) ≡ with_last (report_stored fills e) (kept_reports fills k)
last_follows fills e k = ap (reports_state k.reserved) (map-append (report_stored fills) k.items (e ∷ []))

kept_last_follows : (fills : List ReportedFill) (e : StoredReport) (k : ReservedList StoredReport) → kept_reports fills (with_reserved_last e k) ≡ with_reserved_last (report_stored fills e) (kept_reports fills k)
kept_last_follows fills e k = ap (reports_state (k.reserved - 1)) (map-append (report_stored fills) k.items (e ∷ []))

pub last_shown : (fills : List ReportedFill) (rs : List ReaderSpans) (e : StoredReport) (user : UserName) (ls : List (UserList StoredReport)) → find (is_named user) rs ≡ None
    → map (list_shown fills rs) (on_user user (with_last e) ls) ≡ on_user user (with_last (report_stored fills e)) (map (list_shown fills rs) ls)
last_shown fills rs e user ls none = change_shown fills rs (with_last e) (with_last (report_stored fills e)) user ls none (last_follows fills e)

pub kept_last_shown : (fills : List ReportedFill) (rs : List ReaderSpans) (e : StoredReport) (user : UserName) (ls : List (UserList StoredReport)) → find (is_named user) rs ≡ None
    → map (list_shown fills rs) (on_user user (with_reserved_last e) ls) ≡ on_user user (with_reserved_last (report_stored fills e)) (map (list_shown fills rs) ls)
kept_last_shown fills rs e user ls none = change_shown fills rs (with_reserved_last e) (with_reserved_last (report_stored fills e)) user ls none (kept_last_follows fills e)

pub places_made_shown : (fills : List ReportedFill) (rs : List ReaderSpans) (n : ℕ) (user : UserName) (ls : List (UserList StoredReport)) → find (is_named user) rs ≡ None
    → map (list_shown fills rs) (on_user user (with_reserved n) ls) ≡ on_user user (with_reserved n) (map (list_shown fills rs) ls)
places_made_shown fills rs n user ls none = change_shown fills rs (with_reserved n) (with_reserved n) user ls none (λ k. refl)

-- ---- the fills of entries are there

abbrev pub AllThere : ℕ → List (UserList StoredReport) → Type 0
AllThere n ls = AllByRecursion (λ (l : UserList StoredReport). AllByRecursion (IsFillThere n) l.kept.items) ls

there_last : (n : ℕ) (items : List StoredReport) (e : StoredReport) → AllByRecursion (IsFillThere n) items → IsFillThere n e → AllByRecursion (IsFillThere n) (items ++ e ∷ [])
there_last n [] e all here = (here, tt)
there_last n (x ∷ xs) e all here = (all.0, there_last n xs e all.1 here)

there_changed : (n : ℕ) (change : ReservedList StoredReport → ReservedList StoredReport) (user : UserName) (ls : List (UserList StoredReport))
    → ((k : ReservedList StoredReport) → AllByRecursion (IsFillThere n) k.items → AllByRecursion (IsFillThere n) (change k).items) → AllThere n ls → AllThere n (on_user user change ls)
there_changed n change user [] keeps all = tt
there_changed n change user (l ∷ ls) keeps all =
    (step (same_user user l.user), there_changed n change user ls keeps all.1)
  where
    step : (b : Bool) → AllByRecursion (IsFillThere n) ((if b then record { user = l.user; kept = change l.kept } else l).kept.items)
    step true = keeps l.kept all.0
    step false = all.0

pub there_with_last : (n : ℕ) (e : StoredReport) (user : UserName) (ls : List (UserList StoredReport)) → IsFillThere n e → AllThere n ls → AllThere n (on_user user (with_last e) ls)
there_with_last n e user ls here all = there_changed n (with_last e) user ls (λ k h. there_last n k.items e h here) all

pub there_with_kept_last : (n : ℕ) (e : StoredReport) (user : UserName) (ls : List (UserList StoredReport)) → IsFillThere n e → AllThere n ls → AllThere n (on_user user (with_reserved_last e) ls)
there_with_kept_last n e user ls here all = there_changed n (with_reserved_last e) user ls (λ k h. there_last n k.items e h here) all

pub there_with_places : (n places : ℕ) (user : UserName) (ls : List (UserList StoredReport)) → AllThere n ls → AllThere n (on_user user (with_reserved places) ls)
there_with_places n places user ls all = there_changed n (with_reserved places) user ls (λ k h. h) all

there_more : (m n : ℕ) (e : StoredReport) → m ≤ n → IsFillThere m e → IsFillThere n e
there_more m n (StoredReport.Typed report) h here = tt
there_more m n (StoredReport.Filled place party) h here = omega (arith, h, here)

there_all_more : (m n : ℕ) (items : List StoredReport) → m ≤ n → AllByRecursion (IsFillThere m) items → AllByRecursion (IsFillThere n) items
there_all_more m n [] h all = tt
there_all_more m n (e ∷ es) h all = (there_more m n e h all.0, there_all_more m n es h all.1)

there_more_fills : (m n : ℕ) (ls : List (UserList StoredReport)) → m ≤ n → AllThere m ls → AllThere n ls
there_more_fills m n [] h all = tt
there_more_fills m n (l ∷ ls) h all = (there_all_more m n l.kept.items h all.0, there_more_fills m n ls h all.1)

-- ---- one more fill

same_report : (fills : List ReportedFill) (f : ReportedFill) (e : StoredReport) → IsFillThere (length fills) e → report_stored (fills ++ f ∷ []) e ≡ report_stored fills e
same_report fills f (StoredReport.Typed report) here = refl
same_report fills f (StoredReport.Filled place party) here = ap (λ (o : Option ReportedFill). option_map_or (λ (g : ReportedFill). executed_report g party) o no_report) (get_before fills (f ∷ []) place here)

same_reports : (fills : List ReportedFill) (f : ReportedFill) (items : List StoredReport) → AllByRecursion (IsFillThere (length fills)) items → map (report_stored (fills ++ f ∷ [])) items ≡ map (report_stored fills) items
same_reports fills f [] all = refl
same_reports fills f (e ∷ es) all = ap (λ x. x ∷ map (report_stored (fills ++ f ∷ [])) es) (same_report fills f e all.0) ∙ ap (λ rest. report_stored fills e ∷ rest) (same_reports fills f es all.1)

-- both sides of the fill at this place put last, the taker's first
abbrev pub with_sides : ReportedFill → ℕ → List (UserList StoredReport) → List (UserList StoredReport)
with_sides f place told = on_user f.maker.user (with_last (StoredReport.Filled place FillRole.Maker)) (on_user f.taker.user (with_last (StoredReport.Filled place FillRole.Taker)) told)

-- a list with a party's side last, if it is the party's user's
abbrev with_side : ReportedFill → ℕ → FillRole → UserList StoredReport → UserList StoredReport
with_side f place party l = if same_user (fill_side f party).user l.user then record { user = l.user; kept = with_last (StoredReport.Filled place party) l.kept } else l

found_counted : (f : ReportedFill) (rs : List ReaderSpans) (name : UserName) → find (is_named name) (map (with_copies_counted f) rs) ≡ option_map (with_copies_counted f) (find (is_named name) rs)
found_counted f [] name = refl
found_counted f (r ∷ rs) name =
    elim (same_user name r.user) as (λ b. cond b (Some (with_copies_counted f r)) (find (is_named name) (map (with_copies_counted f) rs)) ≡ option_map (with_copies_counted f) (cond b (Some r) (find (is_named name) rs)))
    [ true ↦ refl | false ↦ found_counted f rs name ]

-- what holds of all readers holds of one that is found
pub found_reader : (P : ReaderSpans → Type 0) (rs : List ReaderSpans) (name : UserName) (r : ReaderSpans) → find (is_named name) rs ≡ Some r → AllByRecursion P rs → P r
found_reader P [] name r found all = cc
found_reader P (x ∷ xs) name r found all = by (same_user name x.user) found (λ later. found_reader P xs name r later all.1)
  where
    by : (b : Bool) → cond b (Some x) (find (is_named name) xs) ≡ Some r → (find (is_named name) xs ≡ Some r → P r) → P r
    by true is rest = subst P (same_Some _ _ is) all.0
    by false is rest = rest is

-- the list of one user after the fill, by whether either side is his
one_list : (fills : List ReportedFill) (f : ReportedFill) (rs : List ReaderSpans) (l : UserList StoredReport) → AllByRecursion (IsSound fills) rs → AllByRecursion (IsFillThere (length fills)) l.kept.items
    → list_shown (fills ++ f ∷ []) (map (with_copies_counted f) rs) (with_side f (length fills) FillRole.Maker (with_side f (length fills) FillRole.Taker l)) ≡ with_fill_reports (map reader_mask rs) f (list_shown fills rs l)
one_list fills f rs l sound there =
    ap (list_shown both (map (with_copies_counted f) rs))
    (elim (same_user f.taker.user l.user) as (λ a. with_side f (length fills) FillRole.Maker (taken a) ≡ sides a (same_user f.maker.user l.user)) [ true ↦ refl | false ↦ refl ])
    ∙ by (same_user f.taker.user l.user) (same_user f.maker.user l.user)
  where
    both : List ReportedFill
    both = fills ++ f ∷ []

    taken : Bool → UserList StoredReport
    taken a = if a then record { user = l.user; kept = with_last (StoredReport.Filled (length fills) FillRole.Taker) l.kept } else l

    sides : Bool → Bool → UserList StoredReport
    sides a b = let y = taken a in if b then record { user = y.user; kept = with_last (StoredReport.Filled (length fills) FillRole.Maker) y.kept } else y

    own : Bool → Bool → List Report
    own a b = (if a then executed_report f FillRole.Taker ∷ [] else []) ++ (if b then executed_report f FillRole.Maker ∷ [] else [])

    shows : (party : FillRole) → report_stored both (StoredReport.Filled (length fills) party) ≡ executed_report f party
    shows party = ap (λ (o : Option ReportedFill). option_map_or (λ (g : ReportedFill). executed_report g party) o no_report) (get_last fills f)

    was : map (report_stored both) l.kept.items ≡ map (report_stored fills) l.kept.items
    was = same_reports fills f l.kept.items there

    add : ReservedList Report → List Report → ReservedList Report
    add k more = record { items = k.items ++ more; reserved = k.reserved }

    with_found : Option ReaderSpans → List Report → List Report
    with_found o more = option_map_or (λ (mask : ℕ). fill_copies mask f) (option_map (λ (r : ReaderSpans). r.current.mask) o) more

    -- a reader has the copies, any other what his entries show more
    shown : (k : ReservedList StoredReport) (more : List Report) → kept_reports both k ≡ add (kept_reports fills l.kept) more
        → row l.user (kept_shown both (find (is_named l.user) (map (with_copies_counted f) rs)) k)
        ≡ row l.user (add (kept_shown fills (find (is_named l.user) rs) l.kept) (option_map_or (λ (mask : ℕ). fill_copies mask f) (mask_in (map reader_mask rs) l.user) more))
    shown k more follows =
        ap (λ o. row l.user (kept_shown both o k)) (found_counted f rs l.user)
        ∙ at (find (is_named l.user) rs) refl
        ∙ ap (λ o. row l.user (add (kept_shown fills (find (is_named l.user) rs) l.kept) (option_map_or (λ (mask : ℕ). fill_copies mask f) o more))) (sym (mask_found rs l.user))
      where
        at : (o : Option ReaderSpans) → find (is_named l.user) rs ≡ o
            → row l.user (kept_shown both (option_map (with_copies_counted f) (find (is_named l.user) rs)) k)
            ≡ row l.user (add (kept_shown fills (find (is_named l.user) rs) l.kept) (with_found (find (is_named l.user) rs) more))
        at None e =
            ap (λ o. row l.user (kept_shown both (option_map (with_copies_counted f) o) k)) e
            ∙ ap (row l.user) follows
            ∙ sym (ap (λ o. row l.user (add (kept_shown fills o l.kept) (with_found o more))) e)
        at (Some r) e =
            let good : IsSound fills r = found_reader (IsSound fills) rs l.user r e sound in
            ap (λ o. row l.user (kept_shown both (option_map (with_copies_counted f) o) k)) e
            ∙ ap (λ items. row l.user (reports_state 0 items)) (one_more fills f r.earlier r.current good.begun good.now_begun)
            ∙ sym (ap (λ o. row l.user (add (kept_shown fills o l.kept) (with_found o more))) e)

    items_state : List Report → ReservedList Report
    items_state items = record { items = items; reserved = l.kept.reserved }

    taker_last : map (report_stored both) (l.kept.items ++ StoredReport.Filled (length fills) FillRole.Taker ∷ []) ≡ map (report_stored fills) l.kept.items ++ executed_report f FillRole.Taker ∷ []
    taker_last =
        map-append (report_stored both) l.kept.items (StoredReport.Filled (length fills) FillRole.Taker ∷ [])
        ∙ ap (λ xs. xs ++ report_stored both (StoredReport.Filled (length fills) FillRole.Taker) ∷ []) was
        ∙ ap (λ r. map (report_stored fills) l.kept.items ++ r ∷ []) (shows FillRole.Taker)

    by : (a b : Bool) → list_shown both (map (with_copies_counted f) rs) (sides a b)
        ≡ row l.user (add (kept_shown fills (find (is_named l.user) rs) l.kept) (option_map_or (λ (mask : ℕ). fill_copies mask f) (mask_in (map reader_mask rs) l.user) (own a b)))
    by true true =
        shown (sides true true).kept (own true true)
        (ap items_state
        (map-append (report_stored both) (l.kept.items ++ StoredReport.Filled (length fills) FillRole.Taker ∷ []) (StoredReport.Filled (length fills) FillRole.Maker ∷ [])
        ∙ ap (λ xs. xs ++ report_stored both (StoredReport.Filled (length fills) FillRole.Maker) ∷ []) taker_last
        ∙ ap (λ r. (map (report_stored fills) l.kept.items ++ executed_report f FillRole.Taker ∷ []) ++ r ∷ []) (shows FillRole.Maker)
        ∙ append_assoc (map (report_stored fills) l.kept.items) (executed_report f FillRole.Taker ∷ []) (executed_report f FillRole.Maker ∷ [])))
    by true false = shown (sides true false).kept (own true false) (ap items_state taker_last)
    by false true =
        shown (sides false true).kept (own false true)
        (ap items_state
        (map-append (report_stored both) l.kept.items (StoredReport.Filled (length fills) FillRole.Maker ∷ [])
        ∙ ap (λ xs. xs ++ report_stored both (StoredReport.Filled (length fills) FillRole.Maker) ∷ []) was
        ∙ ap (λ r. map (report_stored fills) l.kept.items ++ r ∷ []) (shows FillRole.Maker)))
    by false false = shown l.kept [] (ap items_state (was ∙ sym (append-nil (map (report_stored fills) l.kept.items))))

pub fill_shown : (fills : List ReportedFill) (f : ReportedFill) (rs : List ReaderSpans) (ls : List (UserList StoredReport)) → AllByRecursion (IsSound fills) rs → AllThere (length fills) ls
    → map (list_shown (fills ++ f ∷ []) (map (with_copies_counted f) rs)) (with_sides f (length fills) ls) ≡ map (with_fill_reports (map reader_mask rs) f) (map (list_shown fills rs) ls)
fill_shown fills f rs [] sound all = refl
fill_shown fills f rs (l ∷ ls) sound all =
    ap (λ x. x ∷ map (list_shown (fills ++ f ∷ []) (map (with_copies_counted f) rs)) (with_sides f (length fills) ls)) (one_list fills f rs l sound all.0)
    ∙ ap (λ rest. with_fill_reports (map reader_mask rs) f (list_shown fills rs l) ∷ rest) (fill_shown fills f rs ls sound all.1)

pub fill_there : (fills : List ReportedFill) (f : ReportedFill) (ls : List (UserList StoredReport)) → AllThere (length fills) ls → AllThere (length (fills ++ f ∷ [])) (with_sides f (length fills) ls)
fill_there fills f ls all =
    let more : length (fills ++ f ∷ []) ≡ length fills + 1 = length-append fills (f ∷ []) in
    let n = length (fills ++ f ∷ []) in
    there_with_last n (StoredReport.Filled (length fills) FillRole.Maker) f.maker.user (on_user f.taker.user (with_last (StoredReport.Filled (length fills) FillRole.Taker)) ls) (omega (arith, more))
    (there_with_last n (StoredReport.Filled (length fills) FillRole.Taker) f.taker.user ls (omega (arith, more)) (there_more_fills (length fills) n ls (omega (arith, more)) all))

-- ---- another mask

-- nothing is told by it
same_found : (fills : List ReportedFill) (user : UserName) (mask : ℕ) (rs : List ReaderSpans) (name : UserName) (otherwise : ReservedList Report) → AllByRecursion (IsSound fills) rs
    → option_map_or (kept_copies fills) (find (is_named name) (at_first (is_named user) (entitled_from mask (length fills)) rs)) otherwise
    ≡ option_map_or (kept_copies fills) (find (is_named name) rs) otherwise
same_found fills user mask [] name otherwise all = refl
same_found fills user mask (r ∷ rs) name otherwise all =
    elim (same_user user r.user) as (λ b. copied (find (is_named name) (if b then entitled_from mask (length fills) r ∷ rs else r ∷ later)) ≡ copied (find (is_named name) (r ∷ rs))) [
      | true ↦ elim (same_user name r.user) as (λ d. copied (cond d (Some (entitled_from mask (length fills) r)) (find (is_named name) rs)) ≡ copied (cond d (Some r) (find (is_named name) rs)))
          [ true ↦ ap (reports_state 0) (none_yet fills r.earlier r.current _ (all.0).now_begun refl) | false ↦ refl ]
      | false ↦ elim (same_user name r.user) as (λ d. copied (cond d (Some r) (find (is_named name) later)) ≡ copied (cond d (Some r) (find (is_named name) rs)))
          [ true ↦ refl | false ↦ same_found fills user mask rs name otherwise all.1 ]
    ]
  where
    copied : Option ReaderSpans → ReservedList Report
    copied o = option_map_or (kept_copies fills) o otherwise

    later : List ReaderSpans
    later = at_first (is_named user) (entitled_from mask (length fills)) rs

pub mask_shown : (fills : List ReportedFill) (user : UserName) (mask : ℕ) (rs : List ReaderSpans) (ls : List (UserList StoredReport)) → AllByRecursion (IsSound fills) rs
    → map (list_shown fills (at_first (is_named user) (entitled_from mask (length fills)) rs)) ls ≡ map (list_shown fills rs) ls
mask_shown fills user mask rs [] all = refl
mask_shown fills user mask rs (l ∷ ls) all =
    ap (λ k. row l.user k ∷ map (list_shown fills (at_first (is_named user) (entitled_from mask (length fills)) rs)) ls) (same_found fills user mask rs l.user (kept_reports fills l.kept) all)
    ∙ ap (λ rest. list_shown fills rs l ∷ rest) (mask_shown fills user mask rs ls all)

-- ---- each reader is one of the users

abbrev pub AllKnown : List (UserList StoredReport) → List ReaderSpans → Type 0
AllKnown ls rs = AllByRecursion (λ (r : ReaderSpans). is_known ls r.user ≡ true) rs

pub known_counted : (ls : List (UserList StoredReport)) (f : ReportedFill) (rs : List ReaderSpans) → AllKnown ls rs → AllKnown ls (map (with_copies_counted f) rs)
known_counted ls f [] all = tt
known_counted ls f (r ∷ rs) all = (all.0, known_counted ls f rs all.1)

pub known_masked : (ls : List (UserList StoredReport)) (user : UserName) (mask fill : ℕ) (rs : List ReaderSpans) → AllKnown ls rs → AllKnown ls (at_first (is_named user) (entitled_from mask fill) rs)
known_masked ls user mask fill [] all = tt
known_masked ls user mask fill (r ∷ rs) all =
    elim (same_user user r.user) as (λ b. AllKnown ls (if b then entitled_from mask fill r ∷ rs else r ∷ at_first (is_named user) (entitled_from mask fill) rs))
    [ true ↦ (all.0, all.1) | false ↦ (all.0, known_masked ls user mask fill rs all.1) ]

pub known_changed : (ls : List (UserList StoredReport)) (user : UserName) (change : ReservedList StoredReport → ReservedList StoredReport) (rs : List ReaderSpans) → AllKnown ls rs → AllKnown (on_user user change ls) rs
known_changed ls user change [] all = tt
known_changed ls user change (r ∷ rs) all = (known_after ls user r.user change ∙ all.0, known_changed ls user change rs all.1)

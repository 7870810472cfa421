-- What is read of a stream.
use Rattle.std.proofs.{Common.{◌≡◌, ℕ, zero, suc, ◌+◌, ◌-◌, ◌<◌, Bool, true, false, cond, List, [], ◌∷◌, ◌++◌, length, map, take, drop, get_or, true≢false, refl, ◌∙◌, sym, ap, arith}, lemmas.Option.same_Some}
use Rattle.std.specs.{Prelude.{Option, Some, None, is_some}, Option.option_map_or, List.find}
use Rattle.gx_units.specs.{Names.same_user, declared.names.UserName.UserName}
use Rattle.gx_units.proofs.Names_equal.{user_is}
use Rattle.gx_policy.specs.Lists.{slice}
use Rattle.gx_history.specs.declared.report.Report.{Report}
use Rattle.gx_streams.specs.{declared.{fill.ReportedFill.ReportedFill, span.Span.Span, stored_report.StoredReport.StoredReport}, Fills.{fill_copies, copies_of_all}, Kept.{ReservedList, UserList, is_known, items_in, list_of, reserved_in}, Spans.{AreNumbered, IsSound, ReaderSpans, items_between, copies_before, copies_in, is_named, next_of}, Streams.{AllStreams, reports_in}, Table.{IsSoundTable, kept_copies, kept_reports, report_stored, streams_of}, Windows.{Taken, taken_after, window}}
use Rattle.gx_history.proofs.Lists_slice.{slice_is}
use Rattle.gx_streams.proofs.{Slots_table.mapped_slice, UserLists_shown.{found_reader, found_shown}, Windows_passed.after_both}

-- a reader reads his copies
pub read_copies : (fills : List ReportedFill) (told : List (UserList StoredReport)) (readers : List ReaderSpans) (self : AllStreams) (user : UserName) (r : ReaderSpans)
    → Some r ≡ find (is_named user) readers → IsSoundTable fills told readers → streams_of fills told readers ≡ self → copies_in fills r.earlier r.current ≡ reports_in self user
read_copies fills told readers self user r found sound view =
    sym (
    sym (ap (λ (s : AllStreams). reports_in s user) view)
    ∙ found_shown (λ (k : ReservedList Report). k.items) [] fills readers told user
    ∙ ap (λ (o : Option ReaderSpans). option_map_or (λ (l : UserList StoredReport). (option_map_or (kept_copies fills) o (kept_reports fills l.kept)).items) (list_of told user) []) (sym found)
    ∙ by (list_of told user) (ap (is_known told) (found_name readers (sym found)) ∙ found_reader (λ (x : ReaderSpans). is_known told x.user ≡ true) readers user r (sym found) sound.known)
    )
  where
    found_name : (rs : List ReaderSpans) → find (is_named user) rs ≡ Some r → user ≡ r.user
    found_name [] h = cc
    found_name (x ∷ xs) h = at (same_user user x.user) refl h (found_name xs)
      where
        at : (b : Bool) → same_user user x.user ≡ b → cond b (Some x) (find (is_named user) xs) ≡ Some r → (find (is_named user) xs ≡ Some r → user ≡ r.user) → user ≡ r.user
        at true is e later = user_is user x.user is ∙ ap (λ (q : ReaderSpans). q.user) (same_Some _ _ e)
        at false is e later = later e

    by : (o : Option (UserList StoredReport)) → is_some o ≡ true → option_map_or (λ (l : UserList StoredReport). copies_in fills r.earlier r.current) o [] ≡ copies_in fills r.earlier r.current
    by None h = absurd (true≢false (sym h))
    by (Some l) h = refl

-- anyone else reads his entries' reports
pub read_told : (fills : List ReportedFill) (told : List (UserList StoredReport)) (readers : List ReaderSpans) (self : AllStreams) (user : UserName)
    → None ≡ find (is_named user) readers → streams_of fills told readers ≡ self → map (report_stored fills) (items_in told user) ≡ reports_in self user
read_told fills told readers self user none view =
    sym (
    sym (ap (λ (s : AllStreams). reports_in s user) view)
    ∙ found_shown (λ (k : ReservedList Report). k.items) [] fills readers told user
    ∙ ap (λ (o : Option ReaderSpans). option_map_or (λ (l : UserList StoredReport). (option_map_or (kept_copies fills) o (kept_reports fills l.kept)).items) (list_of told user) []) (sym none)
    ∙ by (list_of told user)
    )
  where
    by : (o : Option (UserList StoredReport)) → option_map_or (λ (l : UserList StoredReport). map (report_stored fills) l.kept.items) o [] ≡ map (report_stored fills) (option_map_or (λ (l : UserList StoredReport). l.kept.items) o [])
    by None = refl
    by (Some l) = refl

-- the places of a reader, and of anyone else
pub read_spare : (fills : List ReportedFill) (told : List (UserList StoredReport)) (readers : List ReaderSpans) (self : AllStreams) (user : UserName)
    → streams_of fills told readers ≡ self → option_map_or (λ (r : ReaderSpans). 0) (find (is_named user) readers) (reserved_in told user) ≡ reserved_in self.lists user
read_spare fills told readers self user view =
    sym (
    sym (ap (λ (s : AllStreams). reserved_in s.lists user) view)
    ∙ found_shown (λ (k : ReservedList Report). k.reserved) 0 fills readers told user
    ∙ by (find (is_named user) readers) (list_of told user)
    )
  where
    by : (found : Option ReaderSpans) (o : Option (UserList StoredReport))
        → option_map_or (λ (l : UserList StoredReport). (option_map_or (kept_copies fills) found (kept_reports fills l.kept)).reserved) o 0
        ≡ option_map_or (λ (r : ReaderSpans). 0) found (option_map_or (λ (l : UserList StoredReport). l.kept.reserved) o 0)
    by None None = refl
    by None (Some l) = refl
    by (Some r) None = refl
    by (Some r) (Some l) = refl

-- the reader who is found is sound
pub sound_reader : (fills : List ReportedFill) (told : List (UserList StoredReport)) (readers : List ReaderSpans) (user : UserName) (r : ReaderSpans) → Some r ≡ find (is_named user) readers → IsSoundTable fills told readers → IsSound fills r
sound_reader fills told readers user r found sound = found_reader (IsSound fills) readers user r (sym found) sound.sound

pub count_read : (fills : List ReportedFill) (told : List (UserList StoredReport)) (readers : List ReaderSpans) (self : AllStreams) (user : UserName) (r : ReaderSpans)
    → Some r ≡ find (is_named user) readers → IsSoundTable fills told readers → streams_of fills told readers ≡ self → r.count ≡ length (reports_in self user)
count_read fills told readers self user r found sound view = (sound_reader fills told readers user r found sound).count_is ∙ ap length (read_copies fills told readers self user r found sound view)

length_map : {X Y : Type 0} (f : X → Y) (xs : List X) → length xs ≡ length (map f xs)
length_map f [] = refl
length_map f (x ∷ xs) = ap suc (length_map f xs)

pub told_count : (fills : List ReportedFill) (told : List (UserList StoredReport)) (readers : List ReaderSpans) (self : AllStreams) (user : UserName)
    → None ≡ find (is_named user) readers → streams_of fills told readers ≡ self → length (items_in told user) ≡ length (reports_in self user)
told_count fills told readers self user none view = length_map (report_stored fills) (items_in told user) ∙ ap length (read_told fills told readers self user none view)

pub told_slice : (fills : List ReportedFill) (told : List (UserList StoredReport)) (readers : List ReaderSpans) (self : AllStreams) (user : UserName) (from most : ℕ)
    → None ≡ find (is_named user) readers → streams_of fills told readers ≡ self → map (report_stored fills) (slice (items_in told user) from most) ≡ slice (reports_in self user) from most
told_slice fills told readers self user from most none view =
    mapped_slice (report_stored fills) (items_in told user) from most
    ∙ ap (λ (l : List Report). slice l from most) (read_told fills told readers self user none view)

pub taken_is : (reports : List Report) (from most : ℕ) → (taken_after reports (window (from - 1) most)).taken ≡ slice reports from most
taken_is reports from most = ap (λ n. take n (drop (from - 1) reports)) (let e : most - 0 ≡ most = omega arith in e) ∙ slice_is reports from most

-- one more span
copies_step : (fills : List ReportedFill) (spans : List Span) (current : Span) (i : ℕ) (d : Span) → i < length spans
    → copies_before fills (get_or spans i d) (drop (i + 1) spans) current ++ copies_in fills (drop (i + 1) spans) current ≡ copies_in fills (drop i spans) current
copies_step fills [] current i d within = absurd (omega (arith, within))
copies_step fills (s ∷ later) current zero d within = refl
copies_step fills (s ∷ later) current (suc i) d within =
    ap (λ n. copies_before fills (get_or later i d) (drop n (s ∷ later)) current ++ copies_in fills (drop n (s ∷ later)) current) (let e : suc i + 1 ≡ suc (i + 1) = omega arith in e)
    ∙ copies_step fills later current i d (omega (arith, within))

-- the next span's number tells how many reports a span has
numbers_step : (fills : List ReportedFill) (number : ℕ) (spans : List Span) (current : Span) (i : ℕ) (d : Span) → i < length spans → AreNumbered fills number spans current
    → (next_of (drop (i + 1) spans) current).first_report ≡ (get_or spans i d).first_report + length (copies_before fills (get_or spans i d) (drop (i + 1) spans) current)
numbers_step fills number [] current i d within h = absurd (omega (arith, within))
numbers_step fills number (s ∷ later) current zero d within h = first_number later h.1 ∙ ap (λ n. n + length (copies_before fills s later current)) (sym h.0)
  where
    first_number : (rest : List Span) → AreNumbered fills (number + length (copies_before fills s later current)) rest current → (next_of rest current).first_report ≡ number + length (copies_before fills s later current)
    first_number [] g = g
    first_number (t ∷ rest) g = g.0
numbers_step fills number (s ∷ later) current (suc i) d within h =
    ap (λ n. (next_of (drop n (s ∷ later)) current).first_report) (let e : suc i + 1 ≡ suc (i + 1) = omega arith in e)
    ∙ numbers_step fills (number + length (copies_before fills s later current)) later current i d (omega (arith, within)) h.1
    ∙ ap (λ n. (get_or later i d).first_report + length (copies_before fills (get_or later i d) (drop n (s ∷ later)) current)) (let e : suc (i + 1) ≡ suc i + 1 = omega arith in e)

-- the fills of a span, as they are looked up
part_is : (fills : List ReportedFill) (spans : List Span) (current : Span) (i : ℕ) (d : Span) (part : List ReportedFill) (size : ℕ) (next : Span) (later : List Span)
    → later ≡ drop (i + 1) spans → next ≡ next_of later current → size ≡ next.first_fill - (get_or spans i d).first_fill → part ≡ take size (drop (get_or spans i d).first_fill fills)
    → part ≡ items_between (get_or spans i d).first_fill (next_of (drop (i + 1) spans) current).first_fill fills
part_is fills spans current i d part size next later rest ends sizes is =
    is ∙ ap (λ n. take n (drop (get_or spans i d).first_fill fills))
    (sizes ∙ ap (λ (x : Span). x.first_fill - (get_or spans i d).first_fill) (ends ∙ ap (λ l. next_of l current) rest))

-- and how many copies they have
pub count_is : (fills : List ReportedFill) (spans : List Span) (current : Span) (i : ℕ) (d : Span) (part : List ReportedFill) (size count : ℕ) (next : Span) (later : List Span)
    → i < length spans → AreNumbered fills 1 spans current
    → later ≡ drop (i + 1) spans → next ≡ next_of later current → size ≡ next.first_fill - (get_or spans i d).first_fill → count ≡ next.first_report - (get_or spans i d).first_report
    → part ≡ take size (drop (get_or spans i d).first_fill fills)
    → count ≡ length (copies_of_all (get_or spans i d).mask part)
count_is fills spans current i d part size count next later within numbered rest ends sizes counts is =
    let s = get_or spans i d in
    let same : next.first_report ≡ (next_of (drop (i + 1) spans) current).first_report = ap (λ (x : Span). x.first_report) (ends ∙ ap (λ l. next_of l current) rest) in
    let more = numbers_step fills 1 spans current i d within numbered in
    let so_many : count ≡ length (copies_before fills s (drop (i + 1) spans) current) = omega (arith, counts, same, more) in
    so_many ∙ ap (λ l. length (copies_of_all s.mask l)) (sym (part_is fills spans current i d part size next later rest ends sizes is))

-- a window that one more span passed by
pub spans_step : (fills : List ReportedFill) (spans : List Span) (current : Span) (i : ℕ) (d : Span) (w now start : Taken) (part : List ReportedFill) (size : ℕ) (next : Span) (later : List Span)
    → i < length spans → later ≡ drop (i + 1) spans → next ≡ next_of later current → size ≡ next.first_fill - (get_or spans i d).first_fill → part ≡ take size (drop (get_or spans i d).first_fill fills)
    → now ≡ taken_after (copies_of_all (get_or spans i d).mask part) w
    → taken_after (copies_in fills (drop i spans) current) w ≡ start
    → taken_after (copies_in fills (drop (i + 1) spans) current) now ≡ start
spans_step fills spans current i d w now start part size next later within rest ends sizes is passed before =
    let s = get_or spans i d in
    ap (taken_after (copies_in fills (drop (i + 1) spans) current)) (passed ∙ ap (λ l. taken_after (copies_of_all s.mask l) w) (part_is fills spans current i d part size next later rest ends sizes is))
    ∙ after_both (copies_before fills s (drop (i + 1) spans) current) (copies_in fills (drop (i + 1) spans) current) w
    ∙ ap (λ l. taken_after l w) (copies_step fills spans current i d within)
    ∙ before

fills_left : (mask : ℕ) (fills : List ReportedFill) (i : ℕ) (d : ReportedFill) → i < length fills → fill_copies mask (get_or fills i d) ++ copies_of_all mask (drop (i + 1) fills) ≡ copies_of_all mask (drop i fills)
fills_left mask [] i d within = absurd (omega (arith, within))
fills_left mask (f ∷ fills) zero d within = refl
fills_left mask (f ∷ fills) (suc i) d within =
    ap (λ n. fill_copies mask (get_or fills i d) ++ copies_of_all mask (drop n (f ∷ fills))) (let e : suc i + 1 ≡ suc (i + 1) = omega arith in e)
    ∙ fills_left mask fills i d (omega (arith, within))

pub fills_step : (mask : ℕ) (fills : List ReportedFill) (i : ℕ) (d : ReportedFill) (w now start : Taken) → i < length fills → now ≡ taken_after (fill_copies mask (get_or fills i d)) w
    → taken_after (copies_of_all mask (drop i fills)) w ≡ start → taken_after (copies_of_all mask (drop (i + 1) fills)) now ≡ start
fills_step mask fills i d w now start within passed before =
    ap (taken_after (copies_of_all mask (drop (i + 1) fills))) passed
    ∙ after_both (fill_copies mask (get_or fills i d)) (copies_of_all mask (drop (i + 1) fills)) w
    ∙ ap (λ l. taken_after l w) (fills_left mask fills i d within)
    ∙ before

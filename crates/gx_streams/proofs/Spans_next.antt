-- Spans, when a fill is put last and when a mask changes.
use Rattle.std.proofs.{Common.{◌≡◌, ℕ, zero, suc, ◌+◌, ◌*◌, ◌-◌, ◌<◌, ◌≤◌, true, false, get_or, set, List, [], ◌∷◌, ◌++◌, length, map, take, drop, refl, ◌∙◌, sym, ap, subst, arith, append_assoc, if◌then◌else◌}, lemmas.List.{length-append, length-drop, drop-append-le, take-append-le}}
use Rattle.std.specs.List.{AllByRecursion}
use Rattle.gx_history.specs.declared.report.Report.{Report}
use Rattle.gx_units.specs.{Names.same_user, declared.names.UserName.UserName}
use Rattle.gx_streams.specs.{declared.{fill.ReportedFill.ReportedFill, span.Span.Span}, Fills.{fill_copies, copies_of_all}, Kept.at_first, Spans.{AreNumbered, IsSound, ReaderSpans, items_between, copies_before, copies_in, with_copies_counted, entitled_from, is_named, next_of}, Streams.{ReaderMask, with_mask}, Table.reader_mask}

nil_right : {X : Type 0} (xs : List X) → xs ++ [] ≡ xs
nil_right [] = refl
nil_right (x ∷ xs) = ap (λ rest. x ∷ rest) (nil_right xs)

all_copies : (mask : ℕ) (xs ys : List ReportedFill) → copies_of_all mask (xs ++ ys) ≡ copies_of_all mask xs ++ copies_of_all mask ys
all_copies mask [] ys = refl
all_copies mask (x ∷ xs) ys = ap (λ rest. fill_copies mask x ++ rest) (all_copies mask xs ys) ∙ sym (append_assoc (fill_copies mask x) (copies_of_all mask xs) (copies_of_all mask ys))

still_between : (from until : ℕ) (fills : List ReportedFill) (f : ReportedFill) → from ≤ length fills → until ≤ length fills → items_between from until (fills ++ f ∷ []) ≡ items_between from until fills
still_between from until fills f a b =
    ap (take (until - from)) (drop-append-le from fills (f ∷ []) a)
    ∙ take-append-le (until - from) (drop from fills) (f ∷ []) (let e : length (drop from fills) ≡ length fills - from = length-drop from fills in omega (arith, e, a, b))

-- where each span begins among the fills
begun_of : (fills : List ReportedFill) (later : List Span) (current : Span) → AllByRecursion (λ (s : Span). s.first_fill ≤ length fills) later → current.first_fill ≤ length fills → (next_of later current).first_fill ≤ length fills
begun_of fills [] current all here = here
begun_of fills (s ∷ later) current all here = all.0

-- one more fill is none of a span before the current one
still_before : (fills : List ReportedFill) (f : ReportedFill) (s : Span) (later : List Span) (current : Span) → AllByRecursion (λ (t : Span). t.first_fill ≤ length fills) (s ∷ later) → current.first_fill ≤ length fills
    → copies_before (fills ++ f ∷ []) s later current ≡ copies_before fills s later current
still_before fills f s later current all here =
    ap (copies_of_all s.mask) (still_between s.first_fill (next_of later current).first_fill fills f all.0 (begun_of fills later current all.1 here))

-- one more fill goes to the current span
pub one_more : (fills : List ReportedFill) (f : ReportedFill) (spans : List Span) (current : Span) → AllByRecursion (λ (s : Span). s.first_fill ≤ length fills) spans → current.first_fill ≤ length fills
    → copies_in (fills ++ f ∷ []) spans current ≡ copies_in fills spans current ++ fill_copies current.mask f
one_more fills f [] current all here =
    ap (copies_of_all current.mask) (drop-append-le current.first_fill fills (f ∷ []) here)
    ∙ all_copies current.mask (drop current.first_fill fills) (f ∷ [])
    ∙ ap (λ c. copies_of_all current.mask (drop current.first_fill fills) ++ c) (nil_right (fill_copies current.mask f))
one_more fills f (s ∷ later) current all here =
    ap (λ part. part ++ copies_in (fills ++ f ∷ []) later current) (still_before fills f s later current all here)
    ∙ ap (λ rest. copies_before fills s later current ++ rest) (one_more fills f later current all.1 here)
    ∙ sym (append_assoc (copies_before fills s later current) (copies_in fills later current) (fill_copies current.mask f))

-- and leaves the numbers of first reports
numbered_more : (fills : List ReportedFill) (f : ReportedFill) (number : ℕ) (spans : List Span) (current : Span) → AllByRecursion (λ (s : Span). s.first_fill ≤ length fills) spans → current.first_fill ≤ length fills
    → AreNumbered fills number spans current → AreNumbered (fills ++ f ∷ []) number spans current
numbered_more fills f number [] current all here h = h
numbered_more fills f number (s ∷ later) current all here h = (
  h.0,
  subst (λ (n : ℕ). AreNumbered (fills ++ f ∷ []) n later current) (ap (λ (part : List Report). number + length part) (sym (still_before fills f s later current all here)))
      (numbered_more fills f (number + length (copies_before fills s later current)) later current all.1 here h.1),
)

whole : {X : Type 0} (xs : List X) (n : ℕ) → length xs ≤ n → take n xs ≡ xs
whole [] zero h = refl
whole [] (suc n) h = refl
whole (x ∷ xs) zero h = absurd (omega (arith, h))
whole (x ∷ xs) (suc n) h = ap (λ rest. x ∷ rest) (whole xs n (omega (arith, h)))

past_all : {X : Type 0} (xs : List X) → drop (length xs) xs ≡ []
past_all [] = refl
past_all (x ∷ xs) = past_all xs

next_after : (later : List Span) (s next : Span) → next_of (later ++ s ∷ []) next ≡ next_of later s
next_after [] s next = refl
next_after (t ∷ later) s next = refl

-- the last of the earlier spans has all fills from its first on
all_behind : (fills : List ReportedFill) (current next : Span) → current.first_fill ≤ length fills → next.first_fill ≡ length fills → copies_before fills current [] next ≡ copies_in fills [] current
all_behind fills current next here behind =
    ap (λ n. copies_of_all current.mask (items_between current.first_fill n fills)) behind
    ∙ ap (copies_of_all current.mask) (whole (drop current.first_fill fills) (length fills - current.first_fill) (let e : length (drop current.first_fill fills) ≡ length fills - current.first_fill = length-drop current.first_fill fills in omega (arith, e)))

-- a span is followed by the same one
same_before : (fills : List ReportedFill) (s : Span) (later : List Span) (current next : Span) → copies_before fills s (later ++ current ∷ []) next ≡ copies_before fills s later current
same_before fills s later current next = ap (λ (x : Span). copies_of_all s.mask (items_between s.first_fill x.first_fill fills)) (next_after later current next)

-- a span that begins behind all fills has none
pub none_yet : (fills : List ReportedFill) (spans : List Span) (current next : Span) → current.first_fill ≤ length fills → next.first_fill ≡ length fills
    → copies_in fills (spans ++ current ∷ []) next ≡ copies_in fills spans current
none_yet fills [] current next here behind =
    ap (λ n. copies_before fills current [] next ++ copies_of_all next.mask (drop n fills)) behind
    ∙ ap (λ part. copies_before fills current [] next ++ copies_of_all next.mask part) (past_all fills)
    ∙ nil_right (copies_before fills current [] next)
    ∙ all_behind fills current next here behind
none_yet fills (s ∷ later) current next here behind =
    ap (λ part. part ++ copies_in fills (later ++ current ∷ []) next) (same_before fills s later current next)
    ∙ ap (λ rest. copies_before fills s later current ++ rest) (none_yet fills later current next here behind)

-- its first report has the number after all of those
numbered_last : (fills : List ReportedFill) (number : ℕ) (spans : List Span) (current next : Span) → current.first_fill ≤ length fills → next.first_fill ≡ length fills
    → AreNumbered fills number spans current → next.first_report ≡ number + length (copies_in fills spans current) → AreNumbered fills number (spans ++ current ∷ []) next
numbered_last fills number [] current next here behind h is =
    (h, is ∙ ap (λ (part : List Report). number + length part) (sym (all_behind fills current next here behind)))
numbered_last fills number (s ∷ later) current next here behind h is =
    let first : List Report = copies_before fills s later current in
    let rest : List Report = copies_in fills later current in
    let sum : length (first ++ rest) ≡ length first + length rest = length-append first rest in (
      h.0,
      subst (λ (n : ℕ). AreNumbered fills n (later ++ current ∷ []) next) (ap (λ (part : List Report). number + length part) (sym (same_before fills s later current next)))
          (numbered_last fills (number + length first) later current next here behind h.1 (omega (arith, is, sum))),
    )

all_more : (spans : List Span) (m n : ℕ) → m ≤ n → AllByRecursion (λ (s : Span). s.first_fill ≤ m) spans → AllByRecursion (λ (s : Span). s.first_fill ≤ n) spans
all_more [] m n h all = tt
all_more (s ∷ ss) m n h all = ((let p : s.first_fill ≤ m = all.0 in omega (arith, p, h)), all_more ss m n h all.1)

all_last : (spans : List Span) (s : Span) (n : ℕ) → AllByRecursion (λ (t : Span). t.first_fill ≤ n) spans → s.first_fill ≤ n → AllByRecursion (λ (t : Span). t.first_fill ≤ n) (spans ++ s ∷ [])
all_last [] s n all here = (here, tt)
all_last (t ∷ spans) s n all here = (all.0, all_last spans s n all.1 here)

-- a reader after one more fill
noted : (fills : List ReportedFill) (f : ReportedFill) (r : ReaderSpans) → length (fill_copies r.current.mask f) ≤ 2 → IsSound fills r → IsSound (fills ++ f ∷ []) (with_copies_counted f r)
noted fills f r two sound =
    let more : length (fills ++ f ∷ []) ≡ length fills + 1 = length-append fills (f ∷ []) in
    let few = sound.few in
    let open_now = sound.now_begun in
    record {
      begun = all_more r.earlier (length fills) (length (fills ++ f ∷ [])) (omega (arith, more)) sound.begun;
      now_begun = omega (arith, more, open_now);
      count_is = ap (λ n. n + length (fill_copies r.current.mask f)) sound.count_is ∙ sym (length-append (copies_in fills r.earlier r.current) (fill_copies r.current.mask f)) ∙ ap length (sym (one_more fills f r.earlier r.current sound.begun sound.now_begun));
      numbered = numbered_more fills f 1 r.earlier r.current sound.begun sound.now_begun sound.numbered;
      few = omega (arith, more, few, two);
    }

-- a reader with another mask
masked : (fills : List ReportedFill) (mask : ℕ) (r : ReaderSpans) → IsSound fills r → IsSound fills (entitled_from mask (length fills) r)
masked fills mask r sound = let counts = sound.count_is in record {
  begun = all_last r.earlier r.current (length fills) sound.begun sound.now_begun;
  now_begun = omega arith;
  count_is = sound.count_is ∙ ap length (sym (none_yet fills r.earlier r.current _ sound.now_begun refl));
  numbered = numbered_last fills 1 r.earlier r.current _ sound.now_begun refl sound.numbered (omega (arith, counts));
  few = sound.few;
}

two_at_most : (mask : ℕ) (f : ReportedFill) → length (fill_copies mask f) ≤ 2
two_at_most mask f = grind arith

pub all_noted : (fills : List ReportedFill) (f : ReportedFill) (rs : List ReaderSpans) → AllByRecursion (IsSound fills) rs → AllByRecursion (IsSound (fills ++ f ∷ [])) (map (with_copies_counted f) rs)
all_noted fills f [] all = tt
all_noted fills f (r ∷ rs) all = (noted fills f r (two_at_most r.current.mask f) all.0, all_noted fills f rs all.1)

pub all_masked : (fills : List ReportedFill) (user : UserName) (mask : ℕ) (rs : List ReaderSpans) → AllByRecursion (IsSound fills) rs → AllByRecursion (IsSound fills) (at_first (is_named user) (entitled_from mask (length fills)) rs)
all_masked fills user mask [] all = tt
all_masked fills user mask (r ∷ rs) all =
    elim (same_user user r.user) as (λ b. AllByRecursion (IsSound fills) (if b then entitled_from mask (length fills) r ∷ rs else r ∷ at_first (is_named user) (entitled_from mask (length fills)) rs))
    [ true ↦ (masked fills mask r all.0, all.1) | false ↦ (all.0, all_masked fills user mask rs all.1) ]

-- a fill changes no mask
pub masks_noted : (f : ReportedFill) (rs : List ReaderSpans) → map reader_mask (map (with_copies_counted f) rs) ≡ map reader_mask rs
masks_noted f [] = refl
masks_noted f (r ∷ rs) = ap (λ rest. reader_mask r ∷ rest) (masks_noted f rs)

-- another mask from a fill on is another mask
pub masks_changed : (fill mask : ℕ) (user : UserName) (rs : List ReaderSpans)
    → map reader_mask (at_first (is_named user) (entitled_from mask fill) rs) ≡ at_first (λ (q : ReaderMask). same_user user q.user) (with_mask mask) (map reader_mask rs)
masks_changed fill mask user [] = refl
masks_changed fill mask user (r ∷ rs) =
    elim (same_user user r.user) as (λ b. map reader_mask (if b then entitled_from mask fill r ∷ rs else r ∷ at_first (is_named user) (entitled_from mask fill) rs)
    ≡ (if b then with_mask mask (reader_mask r) ∷ map reader_mask rs else reader_mask r ∷ at_first (λ (q : ReaderMask). same_user user q.user) (with_mask mask) (map reader_mask rs)))
    [ true ↦ refl | false ↦ ap (λ rest. reader_mask r ∷ rest) (masks_changed fill mask user rs) ]

-- the counts stay small where the fills are few
pub few_enough : (fills : List ReportedFill) (rs : List ReaderSpans) (n : ℕ) → 2 * length fills + 2 < n → AllByRecursion (IsSound fills) rs → AllByRecursion (λ (r : ReaderSpans). r.count + 2 < n) rs
few_enough fills [] n few all = tt
few_enough fills (r ∷ rs) n few all = ((let p = (all.0).few in omega (arith, p, few)), few_enough fills rs n few all.1)

-- one more of them is changed
pub one_more_changed : (f : ReaderSpans → ReaderSpans) (xs : List ReaderSpans) (i : ℕ) (d : ReaderSpans) → i < length xs
    → set (map f (take i xs) ++ drop i xs) i (f (get_or xs i d)) ≡ map f (take (i + 1) xs) ++ drop (i + 1) xs
one_more_changed f [] i d within = absurd (omega (arith, within))
one_more_changed f (x ∷ xs) zero d within = refl
one_more_changed f (x ∷ xs) (suc i) d within =
    ap (λ rest. f x ∷ rest) (one_more_changed f xs i d (omega (arith, within)))
    ∙ ap (λ n. map f (take n (x ∷ xs)) ++ drop n (x ∷ xs)) (let e : suc (i + 1) ≡ suc i + 1 = omega arith in e)

pub item_at : (f : ReaderSpans → ReaderSpans) (xs : List ReaderSpans) (i : ℕ) (d : ReaderSpans) → i < length xs → get_or (map f (take i xs) ++ drop i xs) i d ≡ get_or xs i d
item_at f [] i d within = absurd (omega (arith, within))
item_at f (x ∷ xs) zero d within = refl
item_at f (x ∷ xs) (suc i) d within = item_at f xs i d (omega (arith, within))

pub few_at : (n : ℕ) (xs : List ReaderSpans) (i : ℕ) (d : ReaderSpans) → AllByRecursion (λ (r : ReaderSpans). r.count + 2 < n) xs → i < length xs → (get_or xs i d).count + 2 < n
few_at n [] i d all within = absurd (omega (arith, within))
few_at n (x ∷ xs) zero d all within = all.0
few_at n (x ∷ xs) (suc i) d all within = few_at n xs i d all.1 (omega (arith, within))

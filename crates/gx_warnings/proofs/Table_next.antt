-- One more place of the table, and one more warning under a mark.
use Rattle.std.proofs.{Common.{◌≡◌, ℕ, ◌+◌, ◌<◌, ◌≤◌, Bool, true, false, cond, not, List, [], ◌∷◌, ◌++◌, length, take, get_or, append_assoc, refl, sym, ap, ◌∙◌, arith}, lemmas.{Grind.flat_map-append, List.{append-nil, take_more, take_all, Concat.flat_map-cons}, Option.slice_get-get_or}}
use Rattle.std.specs.{Prelude.{Option, Some, None, ◌||◌, fold, is_some, slice_get}, Map.lookup, Option.option_map_or}
use Rattle.gx_units.specs.declared.names.RuleId.{RuleId}
use Rattle.gx_policy.specs.declared.policy.PolicyData.{PolicyData}
use Rattle.gx_history.specs.declared.record.RecordData.{RecordData}
use Rattle.gx_peaks.specs.{declared.{figure.Figure.Figure, key.PeakKey.PeakKey, peak.Reading.Reading}, Figures.used_of, Keys.key_of, Raising.reading_of}
use Rattle.gx_warnings.specs.{declared.{mark.Mark.Mark, warning.Warning.Warning}, Marks.same_mark, Moving.{figures_under, set_figure}, Noting.{with_figure, with_share, with_warning}, Warnings.passes}

one_alone : (rule : RuleId) (e : Mark × Warning) → figures_under rule (e ∷ []) ≡ set_figure rule e
one_alone rule e = flat_map-cons (set_figure rule) e [] ∙ append-nil (set_figure rule e)

one_more_place : (rule : RuleId) (entries : List (Mark × Warning)) (i : ℕ) → i < length entries
    → figures_under rule (take (i + 1) entries) ≡ figures_under rule (take i entries) ++ option_map_or (set_figure rule) (slice_get entries i) []
one_more_place rule [] i within = absurd (omega (arith, within))
one_more_place rule (e ∷ es) i within =
    let xs : List (Mark × Warning) = e ∷ es in
    ap (figures_under rule) (take_more xs i e within)
    ∙ flat_map-append (set_figure rule) (take i xs) (get_or xs i e ∷ [])
    ∙ ap (λ (gs : List Figure). figures_under rule (take i xs) ++ gs)
    (one_alone rule (get_or xs i e) ∙ sym (ap (λ (o : Option (Mark × Warning)). option_map_or (set_figure rule) o []) (slice_get-get_or xs i e within)))

-- the list with what one more place adds
pub place_added : (rule : RuleId) (entries : List (Mark × Warning)) (i : ℕ) (first mid last : List Figure) → i < length entries → mid ≡ first ++ figures_under rule (take i entries)
    → last ≡ mid ++ option_map_or (set_figure rule) (slice_get entries i) [] → last ≡ first ++ figures_under rule (take (i + 1) entries)
place_added rule entries i first mid last within so_far adds =
    adds
    ∙ ap (λ (gs : List Figure). gs ++ option_map_or (set_figure rule) (slice_get entries i) []) so_far
    ∙ append_assoc first (figures_under rule (take i entries)) (option_map_or (set_figure rule) (slice_get entries i) [])
    ∙ ap (λ (gs : List Figure). first ++ gs) (sym (one_more_place rule entries i within))

pub all_added : (rule : RuleId) (entries : List (Mark × Warning)) (i : ℕ) (first last : List Figure) → length entries ≤ i → last ≡ first ++ figures_under rule (take i entries) → last ≡ first ++ figures_under rule entries
all_added rule entries i first last whole so_far = so_far ∙ ap (λ (es : List (Mark × Warning)). first ++ figures_under rule es) (take_all i entries whole)

-- it is put
pub put_last : (entries new : List (Mark × Warning)) (mark : Mark) (w : Warning) (due kept : Bool) → due ≡ passes w.share w.reading.used w.reading.limit → kept ≡ is_some (lookup (same_mark mark) entries)
    → due ≡ true → kept ≡ false → new ≡ entries ++ (mark, w) ∷ [] → new ≡ with_warning entries mark w
put_last entries new mark w due kept is_due is_kept passed none puts =
    puts ∙ sym (λ i. cond (ap not (sym is_due ∙ passed) i || (sym is_kept ∙ none) i) entries (entries ++ (mark, w) ∷ []))

pub none_found : (found : Option Warning) → is_some found ≡ false → found ≡ None
none_found None h = refl
none_found (Some w) h = cc

-- a figure is read
pub read_so : (policy one : PolicyData) (records : List RecordData) (shares : List ℕ) (entries new : List (Mark × Warning)) (figure : Figure) (answer : Option ℕ) (used : ℕ) (key : PeakKey) (now : Reading)
    → one ≡ policy → answer ≡ used_of policy figure records → answer ≡ Some used → key ≡ key_of one figure → now ≡ reading_of policy records figure.rule used
    → new ≡ fold (with_share key figure now) entries shares → new ≡ with_figure policy records shares entries figure
read_so policy one records shares entries new figure answer used key now same asked found is_key is_now puts =
    puts
    ∙ (λ i. fold (with_share ((is_key ∙ ap (λ (p : PolicyData). key_of p figure) same) i) figure (is_now i)) entries shares)
    ∙ ap
    (λ (o : Option ℕ). option_map_or (λ (used : ℕ). fold (with_share (key_of policy figure) figure (reading_of policy records figure.rule used)) entries shares) o entries)
    (sym found ∙ asked)

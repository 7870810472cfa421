-- What one more record makes of a summary.
use Rattle.std.proofs.{Common.{◌≡◌, ℕ, ◌+◌, ◌-◌, Bool, true, false, List, [], ◌∷◌, ◌++◌, ◌<◌, length, map, drop, take, refl, sym, ap, ◌∙◌, subst, if◌then◌else◌, arith, append-nil}, lemmas.List.{append_assoc, drop-append-le, drop-drop, length-append, length-drop, Elements.{filter-append, filter_map-append}, Sums.sum_by-append}}
use Rattle.std.specs.Prelude.{count_by, filter, Option, Some, None, slice_get}
use Rattle.circular_buffer.specs.Buffer.{buffer, keep_last}
use Rattle.gx_units.specs.declared.names.RuleId.{RuleId}
use Rattle.gx_units.proofs.Lists_found.{found_within, one_more_taken}
use Rattle.gx_policy.specs.declared.policy.PolicyData.{PolicyData}
use Rattle.gx_history.specs.declared.record.RecordData.{RecordData}
use Rattle.gx_pass.specs.Views.{highest_line}
use Rattle.gx_pass.proofs.HighestLine_next.{highest_more}
use Rattle.gx_overview.specs.{Accounts.{capped_count, one_more}, Commands.{granted_command, granted_commands}}
use Rattle.gx_board.specs.{declared.summary.Summary.Summary, Counting.{commands, counts_with, counts_of, denied_row, denies, fills, grants, is_denied_by, row_counted, rule_names}, Summaries.{Counted, FollowsSummary, IsCounted, IsNoted, Notes, most_recent, pushed_if, recent_records}}

cap_more : (b : Bool) (n : ℕ) → capped_count (n + (if b then 1 else 0)) ≡ one_more b (capped_count n)
cap_more true n = grind arith
cap_more false n = grind arith

-- one more is counted, where it passes the test
one_counted : (p : RecordData → Bool) (records : List RecordData) (r : RecordData) → capped_count (count_by p (records ++ r ∷ [])) ≡ one_more (p r) (capped_count (count_by p records))
one_counted p records r =
    let more : count_by p (records ++ r ∷ []) ≡ count_by p records + (if p r then 1 else 0) = grind (arith, sum_by-append (λ (x : RecordData). if p x then 1 else 0) records (r ∷ [])) in
    ap capped_count more ∙ cap_more (p r) (count_by p records)

length_more : (records : List RecordData) (r : RecordData) → capped_count (length (records ++ r ∷ [])) ≡ capped_count (capped_count (length records) + 1)
length_more records r = let long = length-append records (r ∷ []) in grind (arith, long)

counts_next : (records : List RecordData) (r : RecordData) → counts_of (records ++ r ∷ []) ≡ counts_with r (counts_of records)
counts_next records r = λ i. record {
  records = length_more records r i;
  granted = one_counted grants records r i;
  denied = one_counted denies records r i;
  fills = one_counted fills records r i;
  highest_line = highest_more records r i;
}

row_next : (records : List RecordData) (r : RecordData) (name : RuleId) → denied_row (records ++ r ∷ []) name ≡ row_counted r (denied_row records name)
row_next records r name = λ i. record { rule = name; count = one_counted (is_denied_by name) records r i }

rows_next : (records : List RecordData) (r : RecordData) (names : List RuleId) → map (denied_row (records ++ r ∷ [])) names ≡ map (row_counted r) (map (denied_row records) names)
rows_next records r [] = refl
rows_next records r (name ∷ names) = λ i. row_next records r name i ∷ rows_next records r names i

-- the last of one more are the last of those that were kept, with it
keep_more : (n : ℕ) (xs : List RecordData) (x : RecordData) → keep_last n (keep_last n xs ++ x ∷ []) ≡ keep_last n (xs ++ x ∷ [])
keep_more n xs x =
    let k : ℕ = length xs - n in
    let kept : drop k xs ++ x ∷ [] ≡ drop k (xs ++ x ∷ []) = sym (drop-append-le k xs (x ∷ []) (omega arith)) in
    let long : length (drop k xs ++ x ∷ []) ≡ length xs - k + 1 = length-append (drop k xs) (x ∷ []) ∙ ap (λ (m : ℕ). m + 1) (length-drop k xs) in
    let whole : length (xs ++ x ∷ []) ≡ length xs + 1 = length-append xs (x ∷ []) in
    let place : k + (length (drop k xs ++ x ∷ []) - n) ≡ length (xs ++ x ∷ []) - n = omega (arith, long, whole) in
    ap (drop (length (drop k xs ++ x ∷ []) - n)) kept
    ∙ drop-drop (length (drop k xs ++ x ∷ []) - n) k (xs ++ x ∷ [])
    ∙ ap (λ (m : ℕ). drop m (xs ++ x ∷ [])) place

one_kept : (b : Bool) (found : List RecordData) (r : RecordData) → recent_records (found ++ (if b then r ∷ [] else [])) ≡ pushed_if b r (recent_records found)
one_kept true found r = ap (λ items. buffer items most_recent) (sym (keep_more most_recent found r))
one_kept false found r = ap recent_records (append-nil found)

recent_next : (p : RecordData → Bool) (records : List RecordData) (r : RecordData) → recent_records (filter p (records ++ r ∷ [])) ≡ pushed_if (p r) r (recent_records (filter p records))
recent_next p records r = ap recent_records (filter-append p records (r ∷ [])) ∙ one_kept (p r) (filter p records) r

counted_next : {policy : PolicyData} {records : List RecordData} (r : RecordData) (old new : Summary) → Notes r old new → IsCounted policy records old → IsCounted policy (records ++ r ∷ []) new
counted_next {policy} {records} r old new notes was = record {
  counts = notes.counts ∙ ap (counts_with r) was.counts ∙ sym (counts_next records r);
  denied = notes.denied ∙ ap (map (row_counted r)) was.denied ∙ sym (rows_next records r (rule_names policy));
  last_denied = notes.last_denied ∙ ap (pushed_if (denies r) r) was.last_denied ∙ sym (recent_next denies records r);
  last_commands = notes.last_commands ∙ ap (pushed_if (commands r) r) was.last_commands ∙ sym (recent_next commands records r);
}

-- those that were counted so far, and this one
pub one_further : (so_far : List RecordData) (r : RecordData) (first old new : Summary) → Notes r old new → Counted so_far first old → Counted (so_far ++ r ∷ []) first new
one_further so_far r first old new notes counts policy records was =
    subst (λ (all : List RecordData). IsCounted policy all new) (append_assoc records so_far (r ∷ []))
    (counted_next r old new notes (counts policy records was))

-- those that were counted so far, and the next
pub next_noted : (more : List RecordData) (i : ℕ) (first old new : Summary) → i < length more → IsNoted (slice_get more i) old new
    → Counted (take i more) first old × (old.commands.items ≡ first.commands.items)
    → Counted (take (i + 1) more) first new × (new.commands.items ≡ first.commands.items)
next_noted more i first old new within noted so_far = by (slice_get more i) refl noted
  where
    by : (found : Option RecordData) → slice_get more i ≡ found → IsNoted found old new → Counted (take (i + 1) more) first new × (new.commands.items ≡ first.commands.items)
    by None is notes = absurd (found_within more i within is)
    by (Some r) is notes = (
      subst (λ (all : List RecordData). Counted all first new) (sym (one_more_taken more i r is)) (one_further (take i more) r first old new notes so_far.0),
      notes.commands_kept ∙ so_far.1,
    )

-- with the commands that were granted too, all of them are followed
pub all_followed : (more : List RecordData) (old middle new : Summary) → ((policy : PolicyData) (records : List RecordData) → IsCounted policy records old → IsCounted policy records middle)
    → middle.commands.items ≡ old.commands.items ++ granted_commands more → Counted more middle new → new.commands.items ≡ middle.commands.items → FollowsSummary more old new
all_followed more old middle new same granted counts kept policy records was = record {
  counted = counts policy records (same policy records was.counted);
  commands = kept ∙ granted ∙ ap (λ earlier. earlier ++ granted_commands more) was.commands ∙ sym (filter_map-append granted_command records more);
}

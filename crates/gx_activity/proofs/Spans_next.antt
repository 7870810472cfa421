-- What one more record adds to the counts of a span.
use Rattle.std.proofs.{Common.{◌≡◌, ℕ, ◌+◌, ◌<◌, ◌≤◌, ◌^◌, Bool, true, false, cond, ◌&&◌, List, [], ◌∷◌, ◌++◌, length, take, get_or, arith, ap, sym, ◌∙◌}, lemmas.List.{take_more, Sums.{count_by-le-length, sum_by_push}}}
use Rattle.gx_history.specs.{declared.«record».RecordData.RecordData, Requests.{is_denied, is_fill}}
use Rattle.gx_laws.specs.HistoryLaws.{grants_order}
use Rattle.gx_overview.specs.Accounts.{capped_count}
use Rattle.gx_activity.specs.{declared.spans.SpanRow.SpanRow, Spans.{is_in_span, so_many_in, span_row}, Spanning.{span_noted, span_so_far, span_with}}
use Rattle.gx_activity.proofs.{Counts_next.{no_more, one_more_is}, Counts_bounds.fits}

abbrev the_row : ℕ → ℕ → ℕ → SpanRow
the_row orders fills denials = record { orders = orders; fills = fills; denials = denials }

module _ (from width k : ℕ) (records : List RecordData) (r : RecordData) where
  abbrev orders : ℕ
  orders = so_many_in from width k grants_order records

  abbrev fills : ℕ
  fills = so_many_in from width k (λ (x : RecordData). is_fill x.verdict) records

  abbrev denials : ℕ
  denials = so_many_in from width k (λ (x : RecordData). is_denied x.verdict) records

  in_span : (b : Bool) → the_row (capped_count (orders + cond (b && grants_order r) 1 0)) (capped_count (fills + cond (b && is_fill r.verdict) 1 0)) (capped_count (denials + cond (b && is_denied r.verdict) 1 0))
      ≡ cond b (span_with r (span_so_far records from width k)) (span_so_far records from width k)
  in_span true = λ i. the_row (one_more_is (grants_order r) orders i) (one_more_is (is_fill r.verdict) fills i) (one_more_is (is_denied r.verdict) denials i)
  in_span false = λ i. the_row (no_more orders i) (no_more fills i) (no_more denials i)

  one_further : (such : RecordData → Bool) → so_many_in from width k such (records ++ r ∷ []) ≡ so_many_in from width k such records + cond (is_in_span from width k r.moment && such r) 1 0
  one_further such = sum_by_push (λ (x : RecordData). cond (is_in_span from width k x.moment && such x) 1 0) records r

  span_next : span_noted from width r k (span_so_far records from width k) ≡ span_so_far (records ++ r ∷ []) from width k
  span_next =
      sym ((λ i. the_row (capped_count (one_further grants_order i)) (capped_count (one_further (λ (x : RecordData). is_fill x.verdict) i)) (capped_count (one_further (λ (x : RecordData). is_denied x.verdict) i)))
      ∙ in_span (is_in_span from width k r.moment))

-- of one more record
pub span_further : (from width k : ℕ) (records : List RecordData) (i : ℕ) (r d : RecordData) → i < length records → r ≡ get_or records i d
    → span_noted from width r k (span_so_far (take i records) from width k) ≡ span_so_far (take (i + 1) records) from width k
span_further from width k records i r d within is =
    span_next from width k (take i records) r
    ∙ ap (λ (rs : List RecordData). span_so_far rs from width k) (ap (λ (x : RecordData). take i records ++ x ∷ []) is ∙ sym (take_more records i d within))

-- no count comes near 64 bits
pub span_fits : (from width k : ℕ) (records : List RecordData) → length records < 2 ^ 64 → span_so_far records from width k ≡ span_row records from width k
span_fits from width k records few = λ i. the_row (one grants_order i) (one (λ (x : RecordData). is_fill x.verdict) i) (one (λ (x : RecordData). is_denied x.verdict) i)
  where
    one : (such : RecordData → Bool) → capped_count (so_many_in from width k such records) ≡ so_many_in from width k such records
    one such =
        let his : so_many_in from width k such records ≤ length records = count_by-le-length (λ (x : RecordData). is_in_span from width k x.moment && such x) records in
        fits (so_many_in from width k such records) (omega arith)

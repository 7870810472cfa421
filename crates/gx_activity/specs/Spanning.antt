-- What one more record changes in the rows of the spans.
use Rattle.std.specs.Prelude.{◌≡◌, ℕ, List, Some, slice_get, if◌then◌else◌}
use Rattle.gx_history.specs.{declared.«record».RecordData.RecordData, Requests.{is_denied, is_fill}}
use Rattle.gx_laws.specs.HistoryLaws.{grants_order}
use Rattle.gx_overview.specs.Accounts.{capped_count, one_more}
use Rattle.gx_activity.specs.{declared.spans.SpanRow.SpanRow, Spans.{is_in_span, span_row}}

-- before any record
abbrev pub no_records : SpanRow
no_records = record { orders = 0; fills = 0; denials = 0 }

-- with the record counted as what it is
abbrev pub span_with : RecordData → SpanRow → SpanRow
span_with r row = record {
  orders = one_more (grants_order r) row.orders;
  fills = one_more (is_fill r.verdict) row.fills;
  denials = one_more (is_denied r.verdict) row.denials;
}

-- the row of span k, once the record is counted, if its moment lies in it
abbrev pub span_noted : ℕ → ℕ → RecordData → ℕ → SpanRow → SpanRow
span_noted from width r k row = if is_in_span from width k r.moment then span_with r row else row

-- each row is so noted
abbrev pub IsNoted : ℕ → ℕ → RecordData → List SpanRow → List SpanRow → Type 0
IsNoted from width r before after = (k : ℕ) (row : SpanRow) → slice_get before k ≡ Some row → slice_get after k ≡ Some (span_noted from width r k row)

-- the row of a span, where a count stops at 64 bits
abbrev pub span_so_far : List RecordData → ℕ → ℕ → ℕ → SpanRow
span_so_far records from width k = record {
  orders = capped_count (span_row records from width k).orders;
  fills = capped_count (span_row records from width k).fills;
  denials = capped_count (span_row records from width k).denials;
}

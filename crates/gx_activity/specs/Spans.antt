-- What there was in spans of time.
use Rattle.gx_history.specs.{Requests.{is_fill, is_denied}, declared.«record».RecordData.RecordData}
use Rattle.std.specs.Prelude.{ℕ, ◌+◌, ◌*◌, Bool, ◌&&◌, nat_le, nat_lt, List, count_by}
use Rattle.gx_laws.specs.HistoryLaws.{grants_order}
use Rattle.gx_activity.specs.{declared.spans.SpanRow.SpanRow}

-- the moment lies in span k, where each is so wide, and the first begins here
abbrev pub is_in_span : ℕ → ℕ → ℕ → ℕ → Bool
is_in_span from width k moment = nat_le (from + k * width) moment && nat_lt moment (from + (k + 1) * width)

-- how many of the records in the span are such
abbrev pub so_many_in : ℕ → ℕ → ℕ → (RecordData → Bool) → List RecordData → ℕ
so_many_in from width k such records = count_by (λ (r : RecordData). is_in_span from width k r.moment && such r) records

-- what there was in the span
abbrev pub span_row : List RecordData → ℕ → ℕ → ℕ → SpanRow
span_row records from width k = record {
  orders = so_many_in from width k grants_order records;
  fills = so_many_in from width k (λ (r : RecordData). is_fill r.verdict) records;
  denials = so_many_in from width k (λ (r : RecordData). is_denied r.verdict) records;
}

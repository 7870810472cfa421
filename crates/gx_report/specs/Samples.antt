-- How much of gross and net limits was used at some times of the day.
use Rattle.std.specs.{Prelude.{◌≡◌, ◌≤◌, ℕ, true, false, List, Option, Some, None, fold, max, take, length, map, flat_map, if◌then◌else◌}, List.AllByRecursion}
use Rattle.gx_units.specs.declared.names.Symbol.{Symbol}
use Rattle.gx_policy.specs.declared.policy.{PolicyData.PolicyData, Stock.Stock}
use Rattle.gx_history.specs.declared.{facts.StockSide.StockSide, «record».RecordData.RecordData}
use Rattle.gx_records.specs.State.{gross_used, limit_in_force}
use Rattle.gx_peaks.specs.Figures.{used_of}
use Rattle.gx_report.specs.declared.samples.{Sample.Sample, Samples.Samples, Seat.Seat}

-- the greater of two figures, or the one that there is
abbrev pub more_of : Option ℕ → Option ℕ → Option ℕ
more_of None b = b
more_of (Some a) None = Some a
more_of (Some a) (Some b) = Some (max a b)

-- what is used of a net rule's limit on this side of a stock, as far as it is above 0
abbrev pub used_there : PolicyData → List RecordData → Seat → StockSide → Option ℕ
used_there policy records seat side = used_of policy (record { rule = seat.rule; account = seat.account; side = Some side }) records

-- on either side of the stock, where more is
abbrev pub used_in : PolicyData → List RecordData → Seat → Symbol → Option ℕ
used_in policy records seat stock =
    more_of (used_there policy records seat (record { stock = stock; buys = true })) (used_there policy records seat (record { stock = stock; buys = false }))

-- in the stock where most is, of these
abbrev pub most_used : PolicyData → List RecordData → Seat → List Stock → Option ℕ
most_used policy records seat stocks = fold more_of None (map (λ (s : Stock). used_in policy records seat s.name) stocks)

-- what is used of the rule's limit after these records, and the limit
abbrev pub sample_of : PolicyData → List RecordData → Seat → Sample
sample_of policy records seat = record {
  used = if seat.is_net then most_used policy records seat policy.stocks else gross_used policy records seat.rule seat.account;
  limit = limit_in_force policy records seat.rule;
}

-- after so many records: one of each seat
abbrev pub samples_after : PolicyData → List Seat → List RecordData → ℕ → List Sample
samples_after policy seats records count = map (sample_of policy (take count records)) seats

-- after each of these counts of records
abbrev pub samples_at : PolicyData → List Seat → List RecordData → List ℕ → List Sample
samples_at policy seats records counts = flat_map (samples_after policy seats records) counts

-- samples were taken at so many of the counts that are asked for, of which the day has come to each
pub record AreTaken (policy : PolicyData) (samples : Samples) (records : List RecordData) : Type 0 where
  pub taken : samples.list.items ≡ samples_at policy samples.seats.items records (take samples.taken samples.counts.items)
  pub came : AllByRecursion (λ (count : ℕ). count ≤ length records) (take samples.taken samples.counts.items)

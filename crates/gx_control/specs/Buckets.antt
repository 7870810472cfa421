-- How long answers took, as it is counted.
use Rattle.std.specs.Prelude.{ℕ, ◌+◌, ◌-◌, ◌^◌, List, [], ◌∷◌, length, min, nat_le, position, replicate, unwrap_or, slice_index, set, fold}
use Rattle.gx_control.specs.declared.answer_times.AnswerCounts.{AnswerCounts}

-- how many nanoseconds a time of each bucket takes at most; those of the last bucket have no bound
abbrev pub bounds : List ℕ
bounds =
    10000 ∷ 25000 ∷ 50000 ∷ 100000 ∷ 250000 ∷ 500000 ∷ 1000000 ∷ 2500000 ∷ 5000000 ∷ 10000000 ∷ 25000000 ∷ 50000000 ∷ 100000000 ∷ 250000000
    ∷ 500000000 ∷ 1000000000 ∷ []

-- the first bucket whose bound is not below the time; the last where all are
abbrev pub bucket_of : ℕ → ℕ
bucket_of time = unwrap_or (position (λ bound. nat_le time bound) bounds) (length bounds)

-- the sum, as far as 64 bits hold it
abbrev pub capped_sum : ℕ → ℕ → ℕ
capped_sum n more = min (n + more) (2 ^ 64 - 1)

-- nothing was counted
abbrev pub no_answers : AnswerCounts
no_answers = record { by_bucket = replicate 17 0; nanoseconds = 0 }

-- an answer that took so long is counted in its bucket, and in no other
abbrev pub with_answer_counted : AnswerCounts → ℕ → AnswerCounts
with_answer_counted counts time = record {
  by_bucket = set counts.by_bucket (bucket_of time) (capped_sum (slice_index counts.by_bucket (bucket_of time)) 1);
  nanoseconds = capped_sum counts.nanoseconds time;
}

-- and so is each of these
abbrev pub all_counted : List ℕ → AnswerCounts
all_counted times = fold with_answer_counted no_answers times

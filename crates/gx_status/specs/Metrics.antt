-- A view as a Prometheus server reads it: the text format, version 0.0.4.
use Rattle.std.specs.{Prelude.{◌≡◌, ℕ, ℤ, ◌+◌, ◌-◌, ◌*◌, ◌/◌, ◌%◌, ◌==◌, List, [], ◌∷◌, ◌++◌, codes, decimal, drop, flat_map, get_or, map, sum, unwrap_or, if◌then◌else◌, Bool, Option, Some, None}, Fmt.signed_decimal}
use Rattle.gx_text.specs.{Moments.with_zeros, Shown.json_name}
use Rattle.gx_control.specs.{declared.answer_times.AnswerCounts.AnswerCounts, Buckets.bounds}
use Rattle.gx_overview.specs.declared.{day.DayRow.DayRow, rules.LimitRow.LimitRow}
use Rattle.gx_board.specs.declared.{accounts.AccountState.AccountState, counts.Counts.Counts, denied.DeniedRow.DeniedRow, uses.{GrossUse.GrossUse, NetUse.NetUse}, view.BoardView.BoardView}
use Rattle.gx_status.specs.declared.server.ServerFigures.{ServerFigures}

-- what a figure is, in front of its samples: its name, what it says, and whether it is a counter, a gauge or a histogram
unfoldable pub family : List ℕ → List ℕ → List ℕ → List ℕ
family name help kind = codes "# HELP " ++ name ++ codes " " ++ help ++ codes "\n# TYPE " ++ name ++ codes " " ++ kind ++ codes "\n"

-- a sample without labels
unfoldable pub sample_line : List ℕ → ℕ → List ℕ
sample_line name value = name ++ codes " " ++ decimal value ++ codes "\n"

-- of an account, of a rule or of a bucket
abbrev pub sample_of : List ℕ → List ℕ → List ℕ → ℕ → List ℕ
sample_of name label labelled value = name ++ codes "{" ++ label ++ codes "=" ++ json_name labelled ++ codes "} " ++ decimal value ++ codes "\n"

-- of an account under a rule
unfoldable pub sample_under : List ℕ → List ℕ → List ℕ → ℕ → List ℕ
sample_under name rule account value =
    name ++ codes "{rule=" ++ json_name rule ++ codes ",account=" ++ json_name account ++ codes "} " ++ decimal value ++ codes "\n"

-- what the account has used of the limit of a gross rule, and what is left of it
unfoldable pub used_sample : GrossUse → List ℕ
used_sample seen = sample_under (codes "boskurige_limit_used") seen.rule.bytes seen.row.account.bytes (unwrap_or seen.row.used 0)

unfoldable pub left_sample : GrossUse → List ℕ
left_sample seen = sample_under (codes "boskurige_limit_left") seen.rule.bytes seen.row.account.bytes (unwrap_or seen.row.left 0)

unfoldable pub denied_sample : DeniedRow → List ℕ
denied_sample row = sample_of (codes "boskurige_denied_total") (codes "rule") row.rule.bytes row.count

unfoldable pub live_sample : AccountState → List ℕ
live_sample row = sample_of (codes "boskurige_live_orders") (codes "account") row.account.bytes row.orders

-- 1 where the account is killed
unfoldable pub killed_sample : AccountState → List ℕ
killed_sample row = sample_of (codes "boskurige_account_killed") (codes "account") row.account.bytes (if row.killed.is_killed then 1 else 0)

-- a figure of one sample
abbrev pub figure : List ℕ → List ℕ → List ℕ → ℕ → List ℕ
figure name help kind value = family name help kind ++ sample_line name value

-- what the records say in numbers
unfoldable pub records_figure : Counts → List ℕ
records_figure c = figure (codes "boskurige_records_total") (codes "Records of the day.") (codes "counter") c.records

unfoldable pub granted_figure : Counts → List ℕ
granted_figure c = figure (codes "boskurige_granted_total") (codes "Requests that were granted.") (codes "counter") c.granted

unfoldable pub fills_figure : Counts → List ℕ
fills_figure c = figure (codes "boskurige_fills_total") (codes "Fills.") (codes "counter") c.fills

-- what is left of the day
unfoldable pub records_left_figure : DayRow → List ℕ
records_left_figure day = figure (codes "boskurige_records_left") (codes "Records that may come.") (codes "gauge") day.left

unfoldable pub lines_left_figure : ℕ → List ℕ
lines_left_figure line = figure (codes "boskurige_lines_left") (codes "Connections that may come.") (codes "gauge") (65535 - line)

-- how often each rule denied a request
unfoldable pub denied_family : List ℕ
denied_family = family (codes "boskurige_denied_total") (codes "Requests that the rule denied.") (codes "counter")

abbrev pub denied_figure : List DeniedRow → List ℕ
denied_figure rows = denied_family ++ flat_map denied_sample rows

-- of each account of the viewer's, how many orders it has live, and whether it is killed
unfoldable pub live_family : List ℕ
live_family = family (codes "boskurige_live_orders") (codes "Live orders of the account.") (codes "gauge")

abbrev pub live_figure : List AccountState → List ℕ
live_figure rows = live_family ++ flat_map live_sample rows

unfoldable pub killed_family : List ℕ
killed_family = family (codes "boskurige_account_killed") (codes "1 where the account is killed.") (codes "gauge")

abbrev pub killed_figure : List AccountState → List ℕ
killed_figure rows = killed_family ++ flat_map killed_sample rows

unfoldable pub used_family : List ℕ
used_family = family (codes "boskurige_limit_used") (codes "Used of a gross limit.") (codes "gauge")

abbrev pub used_figure : List GrossUse → List ℕ
used_figure rows = used_family ++ flat_map used_sample rows

unfoldable pub left_family : List ℕ
left_family = family (codes "boskurige_limit_left") (codes "Left of a gross limit.") (codes "gauge")

abbrev pub left_figure : List GrossUse → List ℕ
left_figure rows = left_family ++ flat_map left_sample rows

-- the limit of the rule, where it has one in force
unfoldable pub limit_sample : LimitRow → List ℕ
limit_sample row = limit_of_rule row.limit
  where
    limit_of_rule : Option ℕ → List ℕ
    limit_of_rule None = []
    limit_of_rule (Some limit) = sample_of (codes "boskurige_limit") (codes "rule") row.rule.bytes limit

unfoldable pub limit_family : List ℕ
limit_family = family (codes "boskurige_limit") (codes "The limit in force.") (codes "gauge")

abbrev pub limit_figure : List LimitRow → List ℕ
limit_figure rows = limit_family ++ flat_map limit_sample rows

-- which rule, account and stock
unfoldable pub net_labels : NetUse → List ℕ
net_labels seen = codes "rule=" ++ json_name seen.rule.bytes ++ codes ",account=" ++ json_name seen.account.bytes ++ codes ",stock=" ++ json_name seen.row.stock.bytes

-- and which side
unfoldable pub side_labels : NetUse → List ℕ → List ℕ
side_labels seen side = codes "{" ++ net_labels seen ++ codes ",side=\"" ++ side ++ codes "\"}"

-- a value that may be below 0, and the end of its line
unfoldable pub value_end : ℤ → List ℕ
value_end value = codes " " ++ signed_decimal value ++ codes "\n"

-- a sample of a side of a stock
unfoldable pub sample_on : List ℕ → NetUse → List ℕ → ℤ → List ℕ
sample_on name seen side value = name ++ side_labels seen side ++ value_end value

-- what is used of the net limit on this side, where anything is told of it
unfoldable pub side_sample : NetUse → List ℕ → Option ℤ → List ℕ
side_sample seen side None = []
side_sample seen side (Some used) = sample_on (codes "boskurige_net_used") seen side used

-- on both
unfoldable pub net_sample : NetUse → List ℕ
net_sample seen = side_sample seen (codes "buys") seen.row.buys ++ side_sample seen (codes "sells") seen.row.sells

unfoldable pub net_family : List ℕ
net_family = family (codes "boskurige_net_used") (codes "Used of a net limit.") (codes "gauge")

abbrev pub net_figure : List NetUse → List ℕ
net_figure rows = net_family ++ flat_map net_sample rows

-- all of them
abbrev pub view_figures : BoardView → List ℕ
view_figures v =
    records_figure v.counts ++ granted_figure v.counts ++ fills_figure v.counts ++ records_left_figure v.day ++ lines_left_figure v.counts.highest_line
    ++ denied_figure v.denied.items ++ live_figure v.accounts.items ++ killed_figure v.accounts.items
    ++ limit_figure v.limits.items ++ used_figure v.gross.items ++ left_figure v.gross.items ++ net_figure v.net.items

-- what the server says of itself
unfoldable pub connections_figure : ℕ → List ℕ
connections_figure n = figure (codes "boskurige_connections") (codes "Connections that are served.") (codes "gauge") n

unfoldable pub journaled_figure : Bool → List ℕ
journaled_figure is_journaled = figure (codes "boskurige_journaled") (codes "1 where each record is kept before it is told.") (codes "gauge") (if is_journaled then 1 else 0)

-- what this run has written to its journal
unfoldable pub journal_bytes_figure : ℕ → List ℕ
journal_bytes_figure n = figure (codes "boskurige_journal_bytes_total") (codes "Bytes of records that were written to the journal.") (codes "counter") n

unfoldable pub journal_failures_figure : ℕ → List ℕ
journal_failures_figure n = figure (codes "boskurige_journal_failures_total") (codes "Writes to the journal that failed.") (codes "counter") n

-- the bounds of the buckets of times, in seconds, with spaces behind the shorter ones
abbrev pub bound_names : List (List ℕ)
bound_names =
    codes "0.00001 " ∷ codes "0.000025" ∷ codes "0.00005 " ∷ codes "0.0001  " ∷ codes "0.00025 " ∷ codes "0.0005  " ∷ codes "0.001   " ∷ codes "0.0025  "
    ∷ codes "0.005   " ∷ codes "0.01    " ∷ codes "0.025   " ∷ codes "0.05    " ∷ codes "0.1     " ∷ codes "0.25    " ∷ codes "0.5     " ∷ codes "1       " ∷ []

-- the last bucket has none
abbrev pub bound_name : ℕ → List ℕ
bound_name bucket = get_or bound_names bucket (codes "+Inf    ")

-- the nanoseconds that the decimals of such a name tell, of which the first is worth so many
abbrev pub decimals_in : ℕ → List ℕ → ℕ
decimals_in worth [] = 0
decimals_in worth (byte ∷ bytes) = if byte == 32 then 0 else (byte - 48) * worth + decimals_in (worth / 10) bytes

-- the nanoseconds that it tells: a digit, the point, and decimals
abbrev pub nanoseconds_in : List ℕ → ℕ
nanoseconds_in name = (get_or name 0 48 - 48) * 1000000000 + decimals_in 100000000 (drop 2 name)

-- the names are those of the bounds that times are counted by
abbrev pub BoundsAreTold : Type 0
BoundsAreTold = map nanoseconds_in bound_names ≡ bounds

-- so many answers took no longer than the bound of the bucket
unfoldable pub bucket_sample : ℕ → ℕ → List ℕ
bucket_sample bucket count = sample_of (codes "boskurige_answer_seconds_bucket") (codes "le") (bound_name bucket) count

-- of this bucket and of those behind it, each of which counts what falls into the ones before it, too
abbrev pub bucket_samples : ℕ → ℕ → List ℕ → List ℕ
bucket_samples bucket before [] = []
bucket_samples bucket before (n ∷ ns) = bucket_sample bucket (before + n) ++ bucket_samples (bucket + 1) (before + n) ns

-- nanoseconds, as seconds
abbrev pub seconds_text : ℕ → List ℕ
seconds_text nanoseconds = decimal (nanoseconds / 1000000000) ++ codes "." ++ with_zeros 9 (nanoseconds % 1000000000)

abbrev pub seconds_sample : List ℕ → ℕ → List ℕ
seconds_sample name nanoseconds = name ++ codes " " ++ seconds_text nanoseconds ++ codes "\n"

-- how long it took until users were told of steps: in buckets, all together, and how many there were
unfoldable pub answers_family : List ℕ
answers_family = family (codes "boskurige_answer_seconds") (codes "From a step until its report was sent.") (codes "histogram")

unfoldable pub answers_sum : ℕ → List ℕ
answers_sum nanoseconds = seconds_sample (codes "boskurige_answer_seconds_sum") nanoseconds

unfoldable pub answers_count : ℕ → List ℕ
answers_count all = sample_line (codes "boskurige_answer_seconds_count") all

abbrev pub answers_figure : AnswerCounts → List ℕ
answers_figure a = answers_family ++ bucket_samples 0 0 a.by_bucket ++ answers_sum a.nanoseconds ++ answers_count (sum a.by_bucket)

abbrev pub server_figures : ServerFigures → List ℕ
server_figures s =
    connections_figure s.connections ++ journaled_figure s.is_journaled ++ journal_bytes_figure s.journal.bytes ++ journal_failures_figure s.journal.failures
    ++ answers_figure s.answers

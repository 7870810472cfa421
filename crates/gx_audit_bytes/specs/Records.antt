-- The 128 bytes of a record: where each part stands, and how many bytes it has.
use Rattle.gx_history.specs.{Requests.{line_asked, handed_moment}, declared.«record».{Step.Step, Verdict.Verdict, RecordData.RecordData}}
use Rattle.std.specs.{Prelude.{ℕ, List, [], ◌∷◌, codes}, Int.{w16, w32, w64, to_be_bytes}}
use Rattle.gx_ouch.specs.{Layout.{Field, HasSizes, Layout, field, laid_out}, Writing.letter}
use Rattle.gx_policy.specs.RuleNames.{rule_id}
use Rattle.gx_audit_bytes.specs.{declared.version.AuditVersion.AuditVersion, Versions.mark_of, Bodies.{request_kind, request_body, zero_padded}}

-- `XA2`, behind the first letter of the mark; in version 1 `XA1`, in version 3 `XA3`
abbrev pub mark_place : Field
mark_place = field 1 3

-- the number of the record, from 1
abbrev pub number_place : Field
number_place = field 4 8

-- the moment as it was handed in, in nanoseconds past midnight
abbrev pub handed_place : Field
handed_place = field 12 8

-- the handed moment, or that of the record before where it is later
abbrev pub moment_place : Field
moment_place = field 20 8

-- the number of the connection, from 1; 0 for a matching step
abbrev pub line_place : Field
line_place = field 28 2

-- who asked, padded with spaces, without a lower-case letter; spaces for a matching step
abbrev pub user_place : Field
user_place = field 30 6

-- the type byte of an order, a cancel or a command; `1` a login, `2` a logout, `3` what is unreadable, `4` a matching step
abbrev pub kind_place : Field
kind_place = field 36 1

-- what was asked for, then zero bytes
abbrev pub body_place : Field
body_place = field 37 58

-- `G` granted, `D` denied, `F` filled, `R` rested, `E` expired
abbrev pub verdict_place : Field
verdict_place = field 95 1

-- the name of the rule that denies, padded; else spaces
abbrev pub rule_place : Field
rule_place = field 96 8

-- the order that came in, of a fill; the one that rests or expires; else 0
abbrev pub order_place : Field
order_place = field 104 8

-- the order that rested, of a fill; else 0
abbrev pub maker_place : Field
maker_place = field 112 8

-- the shares of a fill; else 0
abbrev pub shares_place : Field
shares_place = field 120 4

-- the price of a fill; else 0
abbrev pub price_place : Field
price_place = field 124 4

-- an audit record: the mark, and the parts in their order
abbrev pub audit_record : Layout
audit_record = record {
  kind = 71;
  size = 128;
  fields =
      mark_place ∷
      number_place ∷
      handed_place ∷
      moment_place ∷
      line_place ∷
      user_place ∷
      kind_place ∷
      body_place ∷
      verdict_place ∷
      rule_place ∷
      order_place ∷
      maker_place ∷
      shares_place ∷
      price_place ∷
      [];
}

-- who asked: spaces, where nobody did
abbrev pub user_shown : Step → List ℕ
user_shown (Step.Asked a) = a.user.bytes
user_shown (Step.Matching handed) = codes "      "

-- the kind of a matching step is `4`
abbrev pub kind_shown : Step → ℕ
kind_shown (Step.Asked a) = request_kind a.request
kind_shown (Step.Matching handed) = 52

abbrev pub body_shown : Step → List ℕ
body_shown (Step.Asked a) = request_body a.request
body_shown (Step.Matching handed) = []

-- `G`, `D`, `F`, `R`, `E`
abbrev pub verdict_letter : Verdict → ℕ
verdict_letter Verdict.Granted = 71
verdict_letter (Verdict.Denied rule) = 68
verdict_letter (Verdict.Filled fill) = 70
verdict_letter (Verdict.Rested order) = 82
verdict_letter (Verdict.Expired order) = 69

-- the rule that denies
abbrev pub rule_shown : Verdict → List ℕ
rule_shown (Verdict.Denied rule) = (rule_id rule).bytes
rule_shown other = codes "        "

-- the taker, or the order that rests or expires
abbrev pub order_shown : Verdict → ℕ
order_shown (Verdict.Filled fill) = fill.taker
order_shown (Verdict.Rested order) = order
order_shown (Verdict.Expired order) = order
order_shown other = 0

abbrev pub maker_shown : Verdict → ℕ
maker_shown (Verdict.Filled fill) = fill.maker
maker_shown other = 0

abbrev pub shares_shown : Verdict → ℕ
shares_shown (Verdict.Filled fill) = fill.shares
shares_shown other = 0

abbrev pub price_shown : Verdict → ℕ
price_shown (Verdict.Filled fill) = fill.price
price_shown other = 0

-- what stands at each place
abbrev pub record_contents : AuditVersion → RecordData → List (List ℕ)
record_contents version r =
    mark_of version ∷
    to_be_bytes w64 r.number ∷
    to_be_bytes w64 (handed_moment r.step) ∷
    to_be_bytes w64 r.moment ∷
    to_be_bytes w16 (line_asked r.step) ∷
    user_shown r.step ∷
    letter (kind_shown r.step) ∷
    zero_padded 58 (body_shown r.step) ∷
    letter (verdict_letter r.verdict) ∷
    rule_shown r.verdict ∷
    to_be_bytes w64 (order_shown r.verdict) ∷
    to_be_bytes w64 (maker_shown r.verdict) ∷
    to_be_bytes w32 (shares_shown r.verdict) ∷
    to_be_bytes w32 (price_shown r.verdict) ∷
    []

-- the bytes of a record, in an audit of this version
unfoldable pub record_bytes : AuditVersion → RecordData → List ℕ
record_bytes version r = laid_out audit_record (record_contents version r)

-- each part has as many bytes as its place
abbrev pub HasPlaces : AuditVersion → RecordData → Type 0
HasPlaces version r = HasSizes audit_record (record_contents version r)

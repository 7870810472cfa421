-- The record that some bytes show.
use Rattle.std.specs.{Prelude.{◌≡◌, ◌<◌, ◌^◌, ℕ, Bool, true, ◌==◌, ◌&&◌, List, ◌++◌, take, drop, Option, Some, None, option_map, option_and_then, unwrap_or, if◌then◌else◌, bytes_eq, IsTrue}, Int.{w8, w16, w32, w64, from_be_bytes}, List.find}
use Rattle.gx_ouch.specs.{Layout.bytes_at, Messages.{enter_order, replace_order, cancel_order}}
use Rattle.gx_desk.specs.Messages.{kill, lift, set_limit, restrict, unrestrict, grant, revoke, close_day}
use Rattle.gx_history.specs.{declared.«record».{Request.Request, Step.Step, Verdict.Verdict, RecordData.RecordData}, Payloads.request_of, Showing.{is_askable, is_showable, is_rule_shown}, Requests.{handed_moment, line_asked}}
use Rattle.gx_policy.specs.{declared.rule_name.RuleName.RuleName, RuleNames.{rule_id, rules_before, rules_behind}}
use Rattle.gx_audit_bytes.specs.{declared.version.AuditVersion.AuditVersion, Records.{number_place, handed_place, moment_place, line_place, user_place, kind_place, body_place, verdict_place, rule_place, order_place, maker_place, shares_place, price_place, record_bytes, HasPlaces, user_shown, kind_shown, body_shown, verdict_letter, rule_shown, order_shown, maker_shown, shares_shown, price_shown}, Bodies.zero_padded}

-- the bytes from an offset on, so many of them
abbrev pub part : ℕ → ℕ → List ℕ → List ℕ
part offset size bytes = take size (drop offset bytes)

-- how many bytes a message of this type has
abbrev pub message_size : ℕ → Option ℕ
message_size kind =
    if kind == enter_order.kind then Some enter_order.size
    else (if kind == replace_order.kind then Some replace_order.size
    else (if kind == cancel_order.kind then Some cancel_order.size
    else (if kind == kill.kind then Some kill.size
    else (if kind == lift.kind then Some lift.size
    else (if kind == set_limit.kind then Some set_limit.size
    else (if kind == restrict.kind then Some restrict.size
    else (if kind == unrestrict.kind then Some unrestrict.size
    else (if kind == grant.kind then Some grant.size
    else (if kind == revoke.kind then Some revoke.size
    else (if kind == close_day.kind then Some close_day.size
    else None))))))))))

abbrev pub login_in : List ℕ → Request
login_in body = Request.Login (record {
  password_is_right = from_be_bytes w8 (part 0 1 body) == 89;
  session_is_right = from_be_bytes w8 (part 1 1 body) == 89;
  wanted = from_be_bytes w64 (part 2 8 body);
})

abbrev pub unreadable_in : List ℕ → Request
unreadable_in body = Request.Unreadable (record { length = from_be_bytes w16 (part 0 2 body); first = from_be_bytes w8 (part 2 1 body) })

-- the request in the body, by its kind: what a message asks for is read as it is from a payload
unfoldable pub request_in : ℕ → List ℕ → Option Request
request_in kind body =
    if kind == 49 then Some (login_in body)
    else (if kind == 50 then Some Request.Logout
    else (if kind == 51 then Some (unreadable_in body)
    else option_map (λ (size : ℕ). request_of (take size body)) (message_size kind)))

-- the step, by its kind: the bytes of its other parts
unfoldable pub step_of_bytes : ℕ → ℕ → ℕ → List ℕ → List ℕ → Option Step
step_of_bytes kind handed line user body =
    if kind == 52 then Some (Step.Matching handed)
    else option_map (λ (q : Request). Step.Asked (record { line = line; user = record { bytes = user }; request = q; handed = handed })) (request_in kind body)

-- the built-in rule of this name, else the file's
unfoldable pub rule_of_bytes : List ℕ → RuleName
rule_of_bytes name = unwrap_or (find (λ rule. bytes_eq (rule_id rule).bytes name) (rules_before ++ rules_behind)) (RuleName.File (record { bytes = name }))

-- the verdict, by its letter: the rule, and the numbers of its other parts
unfoldable pub verdict_of_bytes : ℕ → List ℕ → ℕ → ℕ → ℕ → ℕ → Option Verdict
verdict_of_bytes letter rule order maker shares price =
    if letter == 71 then Some Verdict.Granted
    else (if letter == 68 then Some (Verdict.Denied (rule_of_bytes rule))
    else (if letter == 70 then Some (Verdict.Filled (record { taker = order; maker = maker; shares = shares; price = price }))
    else (if letter == 82 then Some (Verdict.Rested order)
    else (if letter == 69 then Some (Verdict.Expired order)
    else None))))

-- the step that the bytes show
unfoldable pub step_shown : List ℕ → Option Step
step_shown bytes =
    step_of_bytes
    (from_be_bytes w8 (bytes_at kind_place bytes))
    (from_be_bytes w64 (bytes_at handed_place bytes))
    (from_be_bytes w16 (bytes_at line_place bytes))
    (bytes_at user_place bytes)
    (bytes_at body_place bytes)

-- the verdict that the bytes show
unfoldable pub verdict_shown : List ℕ → Option Verdict
verdict_shown bytes =
    verdict_of_bytes
    (from_be_bytes w8 (bytes_at verdict_place bytes))
    (bytes_at rule_place bytes)
    (from_be_bytes w64 (bytes_at order_place bytes))
    (from_be_bytes w64 (bytes_at maker_place bytes))
    (from_be_bytes w32 (bytes_at shares_place bytes))
    (from_be_bytes w32 (bytes_at price_place bytes))

-- the record with this step and this verdict, and the number and the moment that the bytes show
abbrev pub content_with : List ℕ → Step → Verdict → RecordData
content_with bytes step verdict =
    record { number = from_be_bytes w64 (bytes_at number_place bytes); moment = from_be_bytes w64 (bytes_at moment_place bytes); step = step; verdict = verdict }

-- what the bytes show
unfoldable pub content_in : List ℕ → Option RecordData
content_in bytes = option_and_then (λ (step : Step). option_map (content_with bytes step) (verdict_shown bytes)) (step_shown bytes)

-- it is a record, and these are its bytes in this version
abbrev pub is_record_of : AuditVersion → List ℕ → RecordData → Bool
is_record_of version bytes r = is_showable r && bytes_eq (record_bytes version r) bytes

-- the record whose bytes these are in this version
unfoldable pub record_of : AuditVersion → List ℕ → Option RecordData
record_of version bytes = option_and_then (λ (r : RecordData). if is_record_of version bytes r then Some r else None) (content_in bytes)

-- each part of the record has its place, and its bytes show the record
pub record IsRecordShown (version : AuditVersion) (r : RecordData) : Type 0 where
  pub places : HasPlaces version r
  pub read_back : record_of version (record_bytes version r) ≡ Some r

-- each number of the record is within its field
pub record NumbersFit (r : RecordData) : Type 0 where
  pub number : r.number < 2 ^ 64
  pub moment : r.moment < 2 ^ 64
  pub handed : handed_moment r.step < 2 ^ 64
  pub line : line_asked r.step < 2 ^ 16
  pub order : order_shown r.verdict < 2 ^ 64
  pub maker : maker_shown r.verdict < 2 ^ 64
  pub shares : shares_shown r.verdict < 2 ^ 32
  pub price : price_shown r.verdict < 2 ^ 32

-- the step is read from its parts as itself
abbrev pub StepIsRead : Step → Type 0
StepIsRead s = step_of_bytes (kind_shown s) (handed_moment s) (line_asked s) (user_shown s) (zero_padded 58 (body_shown s)) ≡ Some s

-- the verdict is read from its parts as itself
abbrev pub VerdictIsRead : Verdict → Type 0
VerdictIsRead v = verdict_of_bytes (verdict_letter v) (rule_shown v) (order_shown v) (maker_shown v) (shares_shown v) (price_shown v) ≡ Some v

-- a denial names a rule that a record can show
abbrev pub shows_rule : Verdict → Bool
shows_rule (Verdict.Denied rule) = is_rule_shown rule
shows_rule other = true

-- what a request is asked by has a line and a name
abbrev pub IsAskableStep : Step → Type 0
IsAskableStep (Step.Asked a) = IsTrue (is_askable a)
IsAskableStep (Step.Matching handed) = Unit {0}

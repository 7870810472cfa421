-- A record is read from its bytes as itself.
use Rattle.gx_units.proofs.Test_known.{is_true}
use Rattle.std.proofs.{Common.{◌≡◌, ℕ, ◌<◌, ◌^◌, ◌&&◌, Bool, true, List, [], get_or, refl, sym, ap, ◌∙◌}, lemmas.{Nat.{from_be_bytes-to_be_bytes_2, from_be_bytes-to_be_bytes_4, from_be_bytes-to_be_bytes_8}, Slice.Eq.bytes_eq-Decides}}
use Rattle.std.specs.{Prelude.{Option, Some, None, option_map, option_and_then, if◌then◌else◌, bytes_eq, IsTrue}, Int.{w8, w16, w32, w64, from_be_bytes}}
use Rattle.gx_ouch.proofs.{Fields_placed.known_to_lie, Requests_read.one_byte}
use Rattle.gx_ouch.specs.Layout.{LiesIn, field_bytes}
use Rattle.gx_history.specs.{Requests.{handed_moment, line_asked}, Showing.is_showable, declared.«record».{RecordData.RecordData, Step.Step, Verdict.Verdict}}
use Rattle.gx_audit_bytes.specs.{declared.version.AuditVersion.AuditVersion, Bodies.zero_padded, Records.{audit_record, record_contents, record_bytes, HasPlaces, user_shown, kind_shown, body_shown, verdict_letter, rule_shown, order_shown, maker_shown, shares_shown, price_shown}, Reading.{step_of_bytes, verdict_of_bytes, step_shown, verdict_shown, content_in, record_of, is_record_of, NumbersFit, StepIsRead, VerdictIsRead, shows_rule, IsRecordShown}}
use Rattle.gx_audit_bytes.proofs.{Verdict_read.shown_names_rule}

-- what the parts of a record show
abbrev step_of : List (List ℕ) → Option Step
step_of parts =
    step_of_bytes
    (from_be_bytes w8 (get_or parts 6 []))
    (from_be_bytes w64 (get_or parts 2 []))
    (from_be_bytes w16 (get_or parts 4 []))
    (get_or parts 5 [])
    (get_or parts 7 [])

abbrev verdict_of : List (List ℕ) → Option Verdict
verdict_of parts =
    verdict_of_bytes
    (from_be_bytes w8 (get_or parts 8 []))
    (get_or parts 9 [])
    (from_be_bytes w64 (get_or parts 10 []))
    (from_be_bytes w64 (get_or parts 11 []))
    (from_be_bytes w32 (get_or parts 12 []))
    (from_be_bytes w32 (get_or parts 13 []))

abbrev content_of : List (List ℕ) → Option RecordData
content_of parts =
    option_and_then (λ (step : Step). option_map (λ (v : Verdict). record { number = from_be_bytes w64 (get_or parts 1 []); moment = from_be_bytes w64 (get_or parts 3 []); step = step; verdict = v }) (verdict_of parts)) (step_of parts)

shown_by_parts : (bytes : List ℕ) → content_in bytes ≡ content_of (field_bytes audit_record bytes)
unfolding content_in step_shown verdict_shown
shown_by_parts bytes = refl

step_back : (version : AuditVersion) (r : RecordData) → handed_moment r.step < 2 ^ 64 → line_asked r.step < 2 ^ 16
    → step_of (record_contents version r) ≡ step_of_bytes (kind_shown r.step) (handed_moment r.step) (line_asked r.step) (user_shown r.step) (zero_padded 58 (body_shown r.step))
step_back version r handed line =
    λ i. step_of_bytes (one_byte (kind_shown r.step) i) (from_be_bytes-to_be_bytes_8 (handed_moment r.step) handed i) (from_be_bytes-to_be_bytes_2 (line_asked r.step) line i) (user_shown r.step) (zero_padded 58 (body_shown r.step))

verdict_back : (version : AuditVersion) (r : RecordData) → order_shown r.verdict < 2 ^ 64 → maker_shown r.verdict < 2 ^ 64 → shares_shown r.verdict < 2 ^ 32 → price_shown r.verdict < 2 ^ 32
    → verdict_of (record_contents version r) ≡ verdict_of_bytes (verdict_letter r.verdict) (rule_shown r.verdict) (order_shown r.verdict) (maker_shown r.verdict) (shares_shown r.verdict) (price_shown r.verdict)
verdict_back version r order maker shares price =
    λ i. verdict_of_bytes (one_byte (verdict_letter r.verdict) i) (rule_shown r.verdict) (from_be_bytes-to_be_bytes_8 (order_shown r.verdict) order i)
    (from_be_bytes-to_be_bytes_8 (maker_shown r.verdict) maker i) (from_be_bytes-to_be_bytes_4 (shares_shown r.verdict) shares i) (from_be_bytes-to_be_bytes_4 (price_shown r.verdict) price i)

abbrev made : ℕ → ℕ → Step → Verdict → RecordData
made n m x y = record { number = n; moment = m; step = x; verdict = y }

joined : (number moment : ℕ) (step : Step) (verdict : Verdict) (s : Option Step) (v : Option Verdict) (n m : ℕ) → s ≡ Some step → v ≡ Some verdict → n ≡ number → m ≡ moment
    → option_and_then (λ (x : Step). option_map (λ (y : Verdict). made n m x y) v) s ≡ Some (record { number = number; moment = moment; step = step; verdict = verdict })
joined number moment step verdict s v n m is_step is_verdict is_number is_moment =
    λ i. option_and_then (λ (x : Step). option_map (λ (y : Verdict). made (is_number i) (is_moment i) x y) (is_verdict i)) (is_step i)

content_shown : (version : AuditVersion) (r : RecordData) (bytes : List ℕ) → bytes ≡ record_bytes version r → HasPlaces version r → NumbersFit r → StepIsRead r.step → VerdictIsRead r.verdict → content_in bytes ≡ Some r
unfolding record_bytes
content_shown version r bytes known places fit step verdict =
    shown_by_parts bytes
    ∙ ap content_of (known_to_lie audit_record (record_contents version r) bytes known (record { offsets = refl; size = refl }) places).fields
    ∙ joined r.number r.moment r.step r.verdict _ _ _ _
    (step_back version r fit.handed fit.line ∙ step)
    (verdict_back version r fit.order fit.maker fit.shares fit.price ∙ verdict)
    (from_be_bytes-to_be_bytes_8 r.number fit.number)
    (from_be_bytes-to_be_bytes_8 r.moment fit.moment)

-- a record that can be shown is read from its bytes
pub read_back : (version : AuditVersion) (r : RecordData) (bytes : List ℕ) → bytes ≡ record_bytes version r → HasPlaces version r → NumbersFit r → StepIsRead r.step
    → (IsTrue (shows_rule r.verdict) → VerdictIsRead r.verdict) → IsTrue (is_showable r) → record_of version bytes ≡ Some r
unfolding record_of
read_back version r bytes known places fit step verdict showable =
    ap (λ (c : Option RecordData). option_and_then (λ (x : RecordData). if is_record_of version bytes x then Some x else None) c)
    (content_shown version r bytes known places fit step (verdict (shown_names_rule r showable)))
    ∙ ap (λ (b : Bool). if b then Some r else None) is_it
  where
    is_it : is_record_of version bytes r ≡ true
    is_it =
        ap (λ (b : Bool). b && bytes_eq (record_bytes version r) bytes) (is_true (is_showable r) showable)
        ∙ ap (λ (bs : List ℕ). bytes_eq bs bytes) (sym known) ∙ (bytes_eq-Decides bytes bytes).1 refl

pub is_shown : (version : AuditVersion) (r : RecordData) (bytes : List ℕ) → bytes ≡ record_bytes version r → HasPlaces version r → NumbersFit r → StepIsRead r.step
    → (IsTrue (shows_rule r.verdict) → VerdictIsRead r.verdict) → IsTrue (is_showable r) → IsRecordShown version r
is_shown version r bytes known places fit step verdict showable =
    record { places = places; read_back = read_back version r (record_bytes version r) refl places fit step verdict showable }

-- the parts of a record stand at their places
pub fields_lie : (version : AuditVersion) (r : RecordData) (bytes : List ℕ) → bytes ≡ record_bytes version r → HasPlaces version r → LiesIn audit_record (record_contents version r) bytes
unfolding record_bytes
fields_lie version r bytes known places = known_to_lie audit_record (record_contents version r) bytes known (record { offsets = refl; size = refl }) places

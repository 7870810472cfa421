-- What stands of the bytes that were read.
use Rattle.std.proofs.{Common.{◌≡◌, ℕ, ◌≤◌, ◌<◌, true, false, List, ◌++◌, length, drop, refl, sym, ap, ◌∙◌, subst, arith, inl, inr}, lemmas.List.{drop_at, take_at, take-append-drop, length-append}}
use Rattle.std.specs.Prelude.{Option, Some, None, unwrap_or, IfSome, IsTrue}
use Rattle.gx_access_gate.specs.Gates.{GateData}
use Rattle.gx_audit.specs.{declared.fault.AuditFault.AuditFault, Replaying.{EndsAt, IsReplayFault}, Resuming.{IsNewFile, Stands}}
use Rattle.gx_audit_bytes.specs.{declared.version.AuditVersion.AuditVersion, Versions.{has_header, version_of}, Audits.whole_audit}
use Rattle.gx_audit.proofs.Header_call.{is_headed}
use Rattle.gx_follower.specs.{Followers.AreWhole, Readings.{read_of, whole_of, HasBegun, IsKnown, IsSettled}, declared.piece.Reading.Reading}
use Rattle.gx_follower.proofs.Version_next.{version_on}

-- the version of what is whole is that of all
pub version_behind : (version : AuditVersion) (gate : GateData) (rest : List ℕ) → IsKnown version gate.policy gate.records → version_of (whole_audit version gate.policy gate.records ++ rest) ≡ version
version_behind version gate rest begun = version_on (whole_audit version gate.policy gate.records) rest begun.long ∙ begun.known

ends_there : (version : AuditVersion) (gate : GateData) (rest : List ℕ) (whole : ℕ) → IsKnown version gate.policy gate.records → whole ≡ length (whole_audit version gate.policy gate.records) → length rest < 128
    → EndsAt version gate.policy (whole_audit version gate.policy gate.records ++ rest) gate.records whole
ends_there version gate rest whole begun counted short =
    let front = whole_audit version gate.policy gate.records in
    record {
      within = omega (arith, counted, length-append front rest);
      short = omega (arith, counted, short, length-append front rest);
      shown = begun.shown;
      bytes_are = ap (λ (behind : List ℕ). front ++ behind) (drop_at front rest whole (sym counted));
    }

whole_by : (version : Option AuditVersion) (gate : GateData) (rest : List ℕ) (whole : ℕ) → HasBegun version gate → whole ≡ length (whole_of version gate) → length rest < 128
    → AreWhole gate.policy (whole_of version gate ++ rest) gate.records whole
whole_by None gate rest whole begun counted short = inl (short, begun, counted)
whole_by (Some version) gate rest whole begun counted short =
    let front = whole_audit version gate.policy gate.records in
    let long = begun.long in
    inr (
      omega (arith, long, length-append front rest),
      subst (λ (v : AuditVersion). EndsAt v gate.policy (front ++ rest) gate.records whole) (sym (version_behind version gate rest begun)) (ends_there version gate rest whole begun counted short),
    )

-- the records are those of all that is whole
pub are_whole : (reading : Reading) (gate : GateData) → IsSettled reading gate → AreWhole gate.policy (read_of reading gate) gate.records reading.whole
are_whole reading gate settled = whole_by reading.version gate reading.rest.items reading.whole settled.0.begun settled.0.counted settled.1

-- the version is that of all bytes
pub shows : (reading : Reading) (gate : GateData) → IsSettled reading gate → IfSome reading.version (λ version. version_of (read_of reading gate) ≡ version)
shows reading gate settled = shown_by reading.version gate reading.rest.items settled.0.begun
  where
    shown_by : (found : Option AuditVersion) (gate : GateData) (rest : List ℕ) → HasBegun found gate → IfSome found (λ version. version_of (whole_of found gate ++ rest) ≡ version)
    shown_by None gate rest begun = tt
    shown_by (Some found) gate rest begun = version_behind found gate rest begun

-- a day was begun in the journal
pub is_day : (reading : Reading) (gate : GateData) (version : AuditVersion) → IsSettled reading gate → reading.version ≡ Some version → IsTrue (has_header version)
    → Stands gate.policy (read_of reading gate) gate.records reading.whole
is_day reading gate version settled is headed =
    day_by reading.version version gate reading.rest.items reading.whole settled.0.begun settled.0.counted settled.1 is headed
  where
    day_by : (found : Option AuditVersion) (version : AuditVersion) (gate : GateData) (rest : List ℕ) (whole : ℕ) → HasBegun found gate → whole ≡ length (whole_of found gate) → length rest < 128
        → found ≡ Some version → IsTrue (has_header version) → Stands gate.policy (whole_of found gate ++ rest) gate.records whole
    day_by None version gate rest whole begun counted short is headed = cc
    day_by (Some found) version gate rest whole begun counted short is headed =
        let front = whole_audit found gate.policy gate.records in
        let seen : version_of (front ++ rest) ≡ found = version_behind found gate rest begun in
        let same : found ≡ version = ap (λ (v : Option AuditVersion). unwrap_or v version) is in
        inr (record {
          headed = subst (λ (v : AuditVersion). IsTrue (has_header v)) (sym (seen ∙ same)) headed;
          whole = take_at front rest whole (sym counted) ∙ ap (λ (v : AuditVersion). whole_audit v gate.policy gate.records) (sym seen);
          cut = omega (arith, counted, short, length-append front rest);
        })

-- no day was begun there
pub is_new_day : (reading : Reading) (gate : GateData) → IsSettled reading gate → reading.version ≡ None → IsNewFile gate.policy reading.rest.items → Stands gate.policy (read_of reading gate) gate.records 0
is_new_day reading gate settled is new = new_by reading.version gate reading.rest.items settled.0.begun is new
  where
    new_by : (found : Option AuditVersion) (gate : GateData) (rest : List ℕ) → HasBegun found gate → found ≡ None → IsNewFile gate.policy rest → Stands gate.policy (whole_of found gate ++ rest) gate.records 0
    new_by None gate rest begun is new = inl (begun, refl, new)
    new_by (Some found) gate rest begun is new = cc

-- the bytes are too few for a header
pub is_cut : (reading : Reading) (gate : GateData) → IsSettled reading gate → reading.version ≡ None → IsReplayFault gate.policy (read_of reading gate) AuditFault.Truncated
is_cut reading gate settled is = cut_by reading.version gate reading.rest.items is settled.1
  where
    cut_by : (found : Option AuditVersion) (gate : GateData) (rest : List ℕ) → found ≡ None → length rest < 128 → IsReplayFault gate.policy (whole_of found gate ++ rest) AuditFault.Truncated
    cut_by None gate rest is short = inl short
    cut_by (Some found) gate rest is short = cc

-- the bytes begin with no header
pub is_bare : (reading : Reading) (gate : GateData) (version : AuditVersion) → IsSettled reading gate → reading.version ≡ Some version → has_header version ≡ false
    → IsReplayFault gate.policy (read_of reading gate) AuditFault.OtherPolicy
is_bare reading gate version settled is bare = bare_by reading.version version gate reading.rest.items settled.0.begun is bare
  where
    clash : true ≡ false → ⊥
    clash e = cc

    bare_by : (found : Option AuditVersion) (version : AuditVersion) (gate : GateData) (rest : List ℕ) → HasBegun found gate → found ≡ Some version → has_header version ≡ false
        → IsReplayFault gate.policy (whole_of found gate ++ rest) AuditFault.OtherPolicy
    bare_by None version gate rest begun is bare = cc
    bare_by (Some found) version gate rest begun is bare =
        let front = whole_audit found gate.policy gate.records in
        let bytes = front ++ rest in
        let long = begun.long in
        let seen : version_of bytes ≡ found = version_behind found gate rest begun in
        let same : found ≡ version = ap (λ (v : Option AuditVersion). unwrap_or v version) is in
        let enough : 128 ≤ length bytes = omega (arith, long, length-append front rest) in
        inl (
          enough,
          λ equal.
              clash (sym (is_headed (version_of bytes) gate.policy (drop 128 bytes) bytes refl (ap (λ (header : List ℕ). header ++ drop 128 bytes) (sym equal) ∙ take-append-drop 128 bytes))
              ∙ ap has_header (seen ∙ same) ∙ bare),
        )

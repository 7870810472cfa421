-- What stands behind one more whole record, or the header.
use Rattle.std.proofs.{Common.{◌≡◌, ℕ, ◌+◌, ◌<◌, ◌^◌, List, [], ◌++◌, length, sym, ap, ◌∙◌, append_assoc, subst, arith}, lemmas.List.{append-nil, length-append}}
use Rattle.std.specs.Prelude.{Option, Some, Err}
use Rattle.gx_access_gate.specs.Gates.{GateData}
use Rattle.gx_policy.specs.declared.policy.PolicyData.{PolicyData}
use Rattle.gx_audit.specs.{declared.fault.AuditFault.AuditFault, Auditing.IsAnswer}
use Rattle.gx_audit_bytes.specs.declared.version.AuditVersion.{AuditVersion}
use Rattle.gx_follower.specs.{declared.piece.Reading.Reading, Readings.{read_of, whole_of, IsReading, HasBegun, IsTold}}

-- the rest has become a part of what is whole
pub settled_on : (reading next : Reading) (gate left : GateData) (version : AuditVersion) (block : List ℕ) → IsReading reading gate → HasBegun (Some version) left
    → whole_of (Some version) left ≡ whole_of reading.version gate ++ block → block ≡ reading.rest.items → length block ≡ 128
    → next.version ≡ Some version → next.whole ≡ reading.whole + 128 → next.rest.items ≡ [] → IsReading next left
settled_on reading next gate left version block reads begun whole is size version_is whole_is rest_is =
    let known : whole_of next.version left ≡ whole_of reading.version gate ++ block = ap (λ (v : Option AuditVersion). whole_of v left) version_is ∙ whole in
    let sizes : length (whole_of next.version left) ≡ length (whole_of reading.version gate) + length block =
    ap length known ∙ length-append (whole_of reading.version gate) block in
    let before : length (read_of reading gate) ≡ length (whole_of reading.version gate) + length reading.rest.items = length-append (whole_of reading.version gate) reading.rest.items in
    let after : length (read_of next left) ≡ length (whole_of next.version left) + length next.rest.items = length-append (whole_of next.version left) next.rest.items in
    let counted = reads.counted in
    let few = reads.few in
    record {
      begun = subst (λ (v : Option AuditVersion). HasBegun v left) (sym version_is) begun;
      counted = omega (arith, counted, whole_is, sizes, size);
      few = omega (arith, few, before, after, sizes, size, ap length is, ap length rest_is);
    }

pub read_on : (reading next : Reading) (gate left : GateData) (version : AuditVersion) (block : List ℕ) → whole_of (Some version) left ≡ whole_of reading.version gate ++ block
    → block ≡ reading.rest.items → next.version ≡ Some version → next.rest.items ≡ [] → read_of next left ≡ read_of reading gate
read_on reading next gate left version block whole is version_is rest_is =
    ap (λ (bytes : List ℕ). whole_of next.version left ++ bytes) rest_is
    ∙ append-nil (whole_of next.version left)
    ∙ ap (λ (v : Option AuditVersion). whole_of v left) version_is
    ∙ whole
    ∙ ap (λ (bytes : List ℕ). whole_of reading.version gate ++ bytes) is

pub told_on : (reading : Reading) (gate : GateData) (policy : PolicyData) (block : List ℕ) (fault : AuditFault) → block ≡ reading.rest.items
    → IsTold policy (whole_of reading.version gate ++ block) fault → IsTold policy (read_of reading gate) fault
told_on reading gate policy block fault is told = subst (λ (bytes : List ℕ). IsTold policy (whole_of reading.version gate ++ bytes) fault) is told

-- there is room to count it
pub counts : (reading : Reading) (gate : GateData) → IsReading reading gate → length reading.rest.items ≡ 128 → reading.whole + 128 < 2 ^ 64
counts reading gate reads size =
    let few = reads.few in
    let counted = reads.counted in
    omega (arith, few, counted, length-append (whole_of reading.version gate) reading.rest.items, size)

-- what was filled and what is left are what was there
parts : (reading next : Reading) (gate : GateData) (left behind total : List ℕ) → next.version ≡ reading.version → next.rest.items ++ behind ≡ reading.rest.items ++ left
    → read_of reading gate ++ left ≡ total → read_of next gate ++ behind ≡ total
parts reading next gate left behind total version_is filled all =
    ap (λ (v : Option AuditVersion). (whole_of v gate ++ next.rest.items) ++ behind) version_is
    ∙ append_assoc (whole_of reading.version gate) next.rest.items behind
    ∙ ap (λ (bytes : List ℕ). whole_of reading.version gate ++ bytes) filled
    ∙ sym (append_assoc (whole_of reading.version gate) reading.rest.items left)
    ∙ all

-- the rest was filled
pub filled_on : (reading next : Reading) (gate : GateData) (left behind total : List ℕ) → IsReading reading gate → next.version ≡ reading.version → next.whole ≡ reading.whole
    → next.rest.items ++ behind ≡ reading.rest.items ++ left → read_of reading gate ++ left ≡ total → length total < 2 ^ 64 → IsReading next gate
filled_on reading next gate left behind total reads version_is whole_is filled all few =
    let sizes : length total ≡ length (read_of next gate) + length behind =
    ap length (sym (parts reading next gate left behind total version_is filled all)) ∙ length-append (read_of next gate) behind in
    record {
      begun = subst (λ (v : Option AuditVersion). HasBegun v gate) (sym version_is) reads.begun;
      counted = whole_is ∙ reads.counted ∙ ap (λ (v : Option AuditVersion). length (whole_of v gate)) (sym version_is);
      few = omega (arith, few, sizes);
    }

-- what is told of the bytes up to the fault is told of all
pub answered_on : (policy held : PolicyData) (reading next : Reading) (gate : GateData) (left behind total : List ℕ) (fault : AuditFault) → held ≡ policy → next.version ≡ reading.version
    → next.rest.items ++ behind ≡ reading.rest.items ++ left → read_of reading gate ++ left ≡ total → IsTold held (read_of next gate) fault → IsAnswer policy total (Err fault)
answered_on policy held reading next gate left behind total fault same version_is filled all told =
    subst (λ (p : PolicyData). IsAnswer p total (Err fault)) same
    (subst (λ (bytes : List ℕ). IsAnswer held bytes (Err fault)) (parts reading next gate left behind total version_is filled all) (told behind))

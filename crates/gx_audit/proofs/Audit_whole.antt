-- The records of a day, and the audit of them.
use Rattle.std.proofs.{Common.{◌≡◌, ℕ, List, ◌++◌, length, refl, sym, ap, ◌∙◌, subst, arith}, lemmas.List.take_all}
use Rattle.gx_history.specs.{declared.record.RecordData.RecordData, Verdicts.IsLegal}
use Rattle.gx_policy.specs.{declared.policy.PolicyData.PolicyData, Lists.slice}
use Rattle.gx_audit_bytes.specs.{declared.version.AuditVersion.AuditVersion, Headers.front_of, Audits.{all_bytes, whole_audit, AreShown}, Versions.{version_of, DayFits}}
use Rattle.gx_audit.specs.Auditing.{IsLegalAudit}
use Rattle.gx_audit.proofs.Header_call.{version_known}

-- all records, from the first on
pub whole_day : (all part : List RecordData) → part ≡ slice all 1 (length all) → part ≡ all
whole_day all part is = is ∙ take_all (length all) all (omega arith)

-- the records' bytes behind what stands in front of them
pub whole_is : (version : AuditVersion) (policy : PolicyData) (records part : List RecordData) (front bytes : List ℕ) → part ≡ slice records 1 (length records)
    → front ≡ front_of version policy → bytes ≡ all_bytes version part → front ++ bytes ≡ whole_audit version policy records
whole_is version policy records part front bytes is begun written =
    (λ i. begun i ++ written i) ∙ ap (λ (rs : List RecordData). whole_audit version policy rs) (whole_day records part is)

pub is_audit : (version : AuditVersion) (policy : PolicyData) (records part : List RecordData) (audit : List ℕ) → part ≡ slice records 1 (length records)
    → DayFits version → IsLegal policy records → AreShown version part → audit ≡ whole_audit version policy records → IsLegalAudit policy audit (length records)
is_audit version policy records part audit is fits legal shown written =
    record {
      version = version;
      version_is = ap version_of written ∙ version_known version policy records fits;
      records = records;
      legal = legal;
      shown = subst (AreShown version) (whole_day records part is) shown;
      bytes_are = sym written;
      count_is = refl;
    }

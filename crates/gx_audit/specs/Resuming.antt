-- What a file holds of a day that goes on.
use Rattle.std.specs.Prelude.{◌≡◌, ℕ, ◌+◌, ◌<◌, List, [], ◌++◌, take, length, ◌⊎◌, IsTrue}
use Rattle.gx_policy.specs.declared.policy.PolicyData.{PolicyData}
use Rattle.gx_history.specs.declared.record.RecordData.{RecordData}
use Rattle.gx_audit_bytes.specs.{Versions.{has_header, version_of}, Audits.{record_size, whole_audit}, Headers.header_in}

-- the file holds a front of the policy's header, or nothing: no day was begun in it
pub record IsNewFile (policy : PolicyData) (file : List ℕ) : Type 0 where
  pub rest : List ℕ
  pub short : length file < record_size
  pub begins : file ++ rest ≡ header_in (version_of file) policy

-- so many of the file's bytes are the journal of these records, and behind them is at most a part of one
pub record IsDay (policy : PolicyData) (file : List ℕ) (records : List RecordData) (kept : ℕ) : Type 0 where
  pub headed : IsTrue (has_header (version_of file))
  pub whole : take kept file ≡ whole_audit (version_of file) policy records
  pub cut : length file < kept + record_size

-- so many bytes of the file stand: those of a day with these records, or none
abbrev pub Stands : PolicyData → List ℕ → List RecordData → ℕ → Type 0
Stands policy file records kept = ((records ≡ []) × (kept ≡ 0) × IsNewFile policy file) ⊎ IsDay policy file records kept

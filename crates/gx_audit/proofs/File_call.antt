-- What a file holds.
use Rattle.std.proofs.{Common.{◌≡◌, ℕ, ◌+◌, ◌<◌, Bool, true, List, length, take, drop, nat_eq, inr, sym, ap, ◌∙◌, arith, length-append}, lemmas.{List.take_at, Slice.Eq.starts_is, Bool.Decides.Decides-eqb}}
use Rattle.std.specs.List.{starts_with}
use Rattle.gx_policy.specs.declared.policy.PolicyData.{PolicyData}
use Rattle.gx_history.specs.declared.record.RecordData.{RecordData}
use Rattle.gx_audit_bytes.specs.{Audits.whole_audit, Headers.header_in, Versions.version_of}
use Rattle.gx_audit.specs.{Replaying.{journal_size, HoldsRecords}, Resuming.{IsNewFile, Stands}}
use Rattle.gx_audit.proofs.Journal_call.{audit_size}

-- the file is a front of the header
pub begins_header : (policy : PolicyData) (file header : List ℕ) (answer : Bool) → length file < 128 → header ≡ header_in (version_of file) policy → answer ≡ starts_with nat_eq header file → answer ≡ true → IsNewFile policy file
begins_header policy file header answer short is tested agreed = record {
  rest = drop (length file) header;
  short = short;
  begins = sym ((starts_is {E = nat_eq} Decides-eqb header file answer tested).0 agreed) ∙ is;
}

-- the file is the journal of these records, and at most a part of one
pub is_day : {policy : PolicyData} (file : List ℕ) {records : List RecordData} (kept count : ℕ) → HoldsRecords policy file records → count ≡ length records → kept ≡ journal_size count → Stands policy file records kept
is_day {policy} file {records} kept count holds counted is =
    let audit = whole_audit (version_of file) policy records in
    let size : kept ≡ length audit = is ∙ ap journal_size counted ∙ sym (audit_size (version_of file) policy records holds.headed holds.shown) in
    let all : length file ≡ length audit + length holds.rest = ap length (sym holds.bytes_are) ∙ length-append audit holds.rest in
    let short = holds.short in
    inr (record {
      headed = holds.headed;
      whole = ap (take kept) (sym holds.bytes_are) ∙ take_at audit holds.rest kept (sym size);
      cut = omega (arith, size, all, short);
    })

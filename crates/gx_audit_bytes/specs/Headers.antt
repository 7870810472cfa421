-- The 128 bytes of a header, which says whose audit it is.
use Rattle.std.specs.{Prelude.{ℕ, List, [], ◌∷◌, ◌++◌, length, take, replicate, codes}, Int.{w16, w32, to_be_bytes}}
use Rattle.sha2.specs.Sha256.{sha256}
use Rattle.gx_ouch.specs.{Layout.{Field, Layout, field, laid_out}, Writing.letter}
use Rattle.gx_policy.specs.declared.policy.PolicyData.{PolicyData}
use Rattle.gx_history.specs.InForce.{lifters_asked}
use Rattle.gx_clock.specs.Offsets.{minutes_in}
use Rattle.gx_digest.specs.PolicyText.{policy_text}
use Rattle.gx_audit_bytes.specs.{declared.{day.AuditDay.AuditDay, version.AuditVersion.AuditVersion}, Days.{date_place, sign_place, minutes_place, sign_shown}}

-- where the session stands, the lifters, and how many accounts, stocks, users and rules there are
abbrev pub policy_places : List Field
policy_places = field 4 10 ∷ field 14 1 ∷ field 15 2 ∷ field 17 2 ∷ field 19 2 ∷ field 21 2 ∷ []

-- where the digest of the policy stands
abbrev pub digest_place : Field
digest_place = field 23 32

-- a header of version 2: `GXH2`, what it says of the policy, and zero bytes
abbrev pub audit_header : Layout
audit_header = record {
  kind = 71;
  size = 128;
  fields = field 1 3 ∷ policy_places ++ field 23 105 ∷ [];
}

-- a header of version 3: `GXH3`, the same, the digest, the date, the offset's sign and minutes, and zero bytes
abbrev pub dated_header : Layout
dated_header = record {
  kind = 71;
  size = 128;
  fields = field 1 3 ∷ policy_places ++ digest_place ∷ date_place ∷ sign_place ∷ minutes_place ∷ field 62 66 ∷ [];
}

-- the session's name, padded with spaces
abbrev pub session_shown : PolicyData → List ℕ
session_shown policy = take 10 (policy.session.bytes ++ codes "          ")

-- what a header says of the policy
abbrev pub policy_shown : PolicyData → List (List ℕ)
policy_shown policy =
    session_shown policy ∷
    letter (lifters_asked policy.lifters) ∷
    to_be_bytes w16 (length policy.accounts) ∷
    to_be_bytes w16 (length policy.stocks) ∷
    to_be_bytes w16 (length policy.users) ∷
    to_be_bytes w16 (length policy.rules) ∷
    []

-- the SHA-256 of the policy's text
abbrev pub digest_shown : PolicyData → List ℕ
digest_shown policy = sha256 (policy_text policy)

-- what stands at each place of a header of version 2
abbrev pub header_contents : PolicyData → List (List ℕ)
header_contents policy = codes "XH2" ∷ policy_shown policy ++ replicate 105 0 ∷ []

-- and of version 3
abbrev pub dated_contents : PolicyData → AuditDay → List (List ℕ)
dated_contents policy day =
    codes "XH3" ∷ policy_shown policy
    ++ digest_shown policy ∷ to_be_bytes w32 day.date ∷ letter (sign_shown day.offset) ∷ to_be_bytes w16 (minutes_in day.offset) ∷ replicate 66 0 ∷ []

-- the policy's header in version 2
unfoldable pub header_bytes : PolicyData → List ℕ
header_bytes policy = laid_out audit_header (header_contents policy)

-- and in version 3, with the day
unfoldable pub dated_bytes : PolicyData → AuditDay → List ℕ
dated_bytes policy day = laid_out dated_header (dated_contents policy day)

-- the policy's header in a version that has one
abbrev pub header_in : AuditVersion → PolicyData → List ℕ
header_in (AuditVersion.Three day) policy = dated_bytes policy day
header_in other policy = header_bytes policy

-- what stands in front of the records
abbrev pub front_of : AuditVersion → PolicyData → List ℕ
front_of AuditVersion.One policy = []
front_of AuditVersion.Two policy = header_bytes policy
front_of (AuditVersion.Three day) policy = dated_bytes policy day

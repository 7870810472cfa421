-- The parts of a header.
use Rattle.std.proofs.{Common.{◌≡◌, ℕ, ◌<◌, ◌^◌, ◌-◌, ◌==◌, List, [], ◌∷◌, ◌++◌, length, replicate, get_or, slice_index, refl, ap, ◌∙◌, arith}, lemmas.{List.{append-nil, length-append, length-take, take_at}, Nat.{from_be_bytes-to_be_bytes_2, from_be_bytes-to_be_bytes_4}, Bool.{eqb-true, and_parts}}}
use Rattle.std.specs.{Prelude.codes, Int.{w8, w16, w32, from_be_bytes, to_be_bytes}}
use Rattle.gx_ouch.proofs.Fields_placed.{known_to_lie}
use Rattle.sha2.proofs.Facts256.{length-sha256}
use Rattle.gx_ouch.specs.{Layout.{HasSizes, LiesIn}, Writing.letter}
use Rattle.gx_clock.specs.{Offsets.minutes_in, declared.offset.UtcOffset.UtcOffset}
use Rattle.gx_digest.specs.PolicyText.{policy_text}
use Rattle.gx_policy.specs.declared.policy.PolicyData.{PolicyData}
use Rattle.gx_audit_bytes.specs.{declared.{day.AuditDay.AuditDay, version.AuditVersion.AuditVersion}, Bodies.zero_padded, Days.{day_in, day_shown, offset_shown, sign_shown}, Headers.{audit_header, dated_header, dated_bytes, dated_contents, header_bytes, header_contents, header_in, session_shown}, Versions.{version_of, DayFits}}

session_size : (policy : PolicyData) → length (session_shown policy) ≡ 10
session_size policy =
    omega (arith, length-take 10 (policy.session.bytes ++ codes "          "), length-append policy.session.bytes (codes "          "))

sizes : (policy : PolicyData) → HasSizes audit_header (header_contents policy)
sizes policy = λ i. 3 ∷ session_size policy i ∷ 1 ∷ 2 ∷ 2 ∷ 2 ∷ 2 ∷ 105 ∷ []

-- the parts of a header stand at their places
pub parts_lie : (policy : PolicyData) (bytes : List ℕ) → bytes ≡ header_bytes policy → LiesIn audit_header (header_contents policy) bytes
unfolding header_bytes
parts_lie policy bytes known = known_to_lie audit_header (header_contents policy) bytes known (record { offsets = refl; size = refl }) (sizes policy)

-- a header has 128 bytes
pub header_size : (policy : PolicyData) → length (header_bytes policy) ≡ 128
header_size policy =
    eqb-true (length (header_bytes policy)) 128
    (and_parts (slice_index (header_bytes policy) 0 == 71) (length (header_bytes policy) == 128) (parts_lie policy (header_bytes policy) refl).is_of).1

dated_sizes : (policy : PolicyData) (day : AuditDay) → HasSizes dated_header (dated_contents policy day)
dated_sizes policy day = λ i. 3 ∷ session_size policy i ∷ 1 ∷ 2 ∷ 2 ∷ 2 ∷ 2 ∷ length-sha256 (policy_text policy) i ∷ 4 ∷ 1 ∷ 2 ∷ 66 ∷ []

-- and those of a header of version 3
pub dated_lie : (policy : PolicyData) (day : AuditDay) (bytes : List ℕ) → bytes ≡ dated_bytes policy day → LiesIn dated_header (dated_contents policy day) bytes
unfolding dated_bytes
dated_lie policy day bytes known =
    known_to_lie dated_header (dated_contents policy day) bytes known (record { offsets = refl; size = refl }) (dated_sizes policy day)

pub dated_size : (policy : PolicyData) (day : AuditDay) → length (dated_bytes policy day) ≡ 128
dated_size policy day =
    eqb-true (length (dated_bytes policy day)) 128
    (and_parts (slice_index (dated_bytes policy day) 0 == 71) (length (dated_bytes policy day) == 128) (dated_lie policy day (dated_bytes policy day) refl).is_of).1

-- the day that the parts of a header show
abbrev day_of : List (List ℕ) → AuditDay
day_of parts = record {
  date = from_be_bytes w32 (get_or parts 8 []);
  offset = offset_shown (from_be_bytes w8 (get_or parts 9 [])) (from_be_bytes w16 (get_or parts 10 []));
}

offset_back : (offset : UtcOffset) → minutes_in offset < 2 ^ 16
    → offset_shown (from_be_bytes w8 (letter (sign_shown offset))) (from_be_bytes w16 (to_be_bytes w16 (minutes_in offset))) ≡ offset
offset_back (UtcOffset.Ahead minutes) fits = ap (λ (n : ℕ). UtcOffset.Ahead n) (from_be_bytes-to_be_bytes_2 minutes fits)
offset_back (UtcOffset.Behind minutes) fits = ap (λ (n : ℕ). UtcOffset.Behind n) (from_be_bytes-to_be_bytes_2 minutes fits)

day_back : (policy : PolicyData) (day : AuditDay) → day.date < 2 ^ 32 → minutes_in day.offset < 2 ^ 16 → day_of (dated_contents policy day) ≡ day
day_back policy day date minutes = λ i. record { date = from_be_bytes-to_be_bytes_4 day.date date i; offset = offset_back day.offset minutes i }

-- a whole header is all that is looked at
whole_header : (header behind : List ℕ) → length header ≡ 128 → day_in (header ++ behind) ≡ day_shown header
unfolding day_in
whole_header header behind size =
    ap (λ (bytes : List ℕ). day_shown (zero_padded 128 bytes)) (take_at header behind 128 size)
    ∙ ap (λ (n : ℕ). day_shown (header ++ replicate (128 - n) 0)) size
    ∙ ap day_shown (append-nil header)

is_third : (policy : PolicyData) (day : AuditDay) (behind : List ℕ) → version_of (dated_bytes policy day ++ behind) ≡ AuditVersion.Three (day_in (dated_bytes policy day ++ behind))
unfolding dated_bytes
is_third policy day behind = refl

-- the version and the day of an audit are found in its header
pub day_known : (policy : PolicyData) (day : AuditDay) (behind : List ℕ) → DayFits (AuditVersion.Three day) → version_of (dated_bytes policy day ++ behind) ≡ AuditVersion.Three day
day_known policy day behind fits =
    is_third policy day behind
    ∙ ap (λ (d : AuditDay). AuditVersion.Three d)
    (whole_header (dated_bytes policy day) behind (dated_size policy day)
    ∙ ap day_of (dated_lie policy day (dated_bytes policy day) refl).fields
    ∙ day_back policy day fits.0 fits.1)

pub day_read : (policy : PolicyData) (day : AuditDay) (bytes : List ℕ) → bytes ≡ dated_bytes policy day → DayFits (AuditVersion.Three day)
    → (behind : List ℕ) → version_of (bytes ++ behind) ≡ AuditVersion.Three day
day_read policy day bytes known fits behind = ap (λ (bs : List ℕ). version_of (bs ++ behind)) known ∙ day_known policy day behind fits

-- a header has 128 bytes in each version
pub size_in : (version : AuditVersion) (policy : PolicyData) → length (header_in version policy) ≡ 128
size_in AuditVersion.One policy = header_size policy
size_in AuditVersion.Two policy = header_size policy
size_in (AuditVersion.Three day) policy = dated_size policy day

-- The version that bytes show, when more come behind them.
use Rattle.std.proofs.{Common.{◌≡◌, ℕ, ◌≤◌, List, ◌++◌, length, nat_eq, ap, arith}, lemmas.List.take-append-le}
use Rattle.std.specs.{Cmp.Lexicographic.pointwise, Prelude.{codes, if◌then◌else◌}, List.starts_with}
use Rattle.gx_audit_bytes.specs.{declared.version.AuditVersion.AuditVersion, Bodies.zero_padded, Days.{day_in, day_shown}, Versions.version_of}

starts_on : (mark xs ys : List ℕ) → length mark ≤ length xs → starts_with nat_eq (xs ++ ys) mark ≡ starts_with nat_eq xs mark
starts_on mark xs ys enough = ap (λ (front : List ℕ). pointwise nat_eq mark front) (take-append-le (length mark) xs ys enough)

day_on : (xs ys : List ℕ) → 128 ≤ length xs → day_in (xs ++ ys) ≡ day_in xs
unfolding day_in
day_on xs ys enough = ap (λ (front : List ℕ). day_shown (zero_padded 128 front)) (take-append-le 128 xs ys enough)

-- it is that of the bytes in front, where these are as many as a header has
pub version_on : (xs ys : List ℕ) → 128 ≤ length xs → version_of (xs ++ ys) ≡ version_of xs
version_on xs ys enough =
    let four : 4 ≤ length xs = omega (arith, enough) in
    let second = starts_on (codes "GXH2") xs ys four in
    let third = starts_on (codes "GXH3") xs ys four in
    let day = day_on xs ys enough in
    λ i. if second i then AuditVersion.Two else (if third i then AuditVersion.Three (day i) else AuditVersion.One)

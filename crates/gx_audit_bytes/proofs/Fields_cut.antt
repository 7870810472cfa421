-- Fields cut out of bytes.
use Rattle.std.proofs.{Common.{◌≡◌, ℕ, ◌<◌, List, ◌++◌, length, take, sym, ap, arith}, lemmas.List.{take_all, take_at}}
use Rattle.gx_audit_bytes.specs.Bodies.{zero_padded}

-- and of ten
pub take_session : (bytes rest : List ℕ) → length bytes ≡ 10 → take 10 (bytes ++ rest) ≡ bytes
take_session bytes rest h = take_at bytes rest 10 h

-- all of bytes that are fewer than a header's
pub take_short : (bytes : List ℕ) → length bytes < 128 → zero_padded 128 bytes ≡ zero_padded 128 (take 128 bytes)
take_short bytes short = ap (zero_padded 128) (sym (take_all 128 bytes (omega arith)))

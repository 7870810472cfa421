-- So much is more than 255 hundredths of any limit.
use Rattle.std.proofs.{Common.{◌≡◌, ℕ, ◌*◌, ◌<◌, ◌≤◌, ◌^◌, true, sym, arith}, lemmas.{Bool.le-leb, Nat.mul-le}}
use Rattle.std.specs.Prelude.{nat_le}

pub plenty_is_enough : (share limit used : ℕ) → share < 2 ^ 8 → limit < 2 ^ 64 → 2 ^ 72 ≤ used → true ≡ nat_le (share * limit) (used * 100)
plenty_is_enough share limit used small narrow plenty =
    let product : share * limit ≤ (2 ^ 8) * (2 ^ 64) = mul-le share limit (2 ^ 8) (2 ^ 64) (omega (arith, small)) (omega (arith, narrow)) in
    sym (le-leb (share * limit) (used * 100) (omega (arith, product, plenty)))

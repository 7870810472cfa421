-- What is left behind a place.
use Rattle.std.proofs.{Common.{◌≡◌, ◌-◌, ◌≤◌, ℕ, List, length, take, drop, arith}, lemmas.List.{take_all, length-drop}}

-- all that is left
pub take_the_rest : (bytes : List ℕ) (at : ℕ) → take (length bytes - at) (drop at bytes) ≡ drop at bytes
take_the_rest bytes at =
    let within : length (drop at bytes) ≤ length bytes - at = omega (arith, length-drop at bytes) in
    take_all (length bytes - at) (drop at bytes) within

-- what is left has the bytes that are not passed
pub rest_size : (bytes : List ℕ) (at : ℕ) → length (drop at bytes) ≡ length bytes - at
rest_size bytes at = length-drop at bytes

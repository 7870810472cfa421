-- A name that fills its field.
use Rattle.std.proofs.{Common.{◌≡◌, ℕ, List, ◌++◌, length, take}, lemmas.List.take_at}

pub take_whole : (bytes rest : List ℕ) → length bytes ≡ 8 → take 8 (bytes ++ rest) ≡ bytes
take_whole bytes rest h = take_at bytes rest 8 h

-- How a seed hashes what a trader chooses.
use Rattle.std.specs.{Prelude.{ℕ, ◌+◌, ◌-◌, ◌*◌, ◌/◌, ◌%◌, ◌^◌, List, [], ◌∷◌, length, fold, bit_and, bit_or, bit_xor, nat_lt, slice_index, if◌then◌else◌}, Int.{w32, w64, from_le_bytes}}
use Rattle.gx_orders.specs.declared.seed.Seed.{Seed}

-- the two halves of the product, joined
abbrev pub folded_halves : ℕ → ℕ → ℕ
folded_halves a b = bit_xor (bit_and (a * b) (2 ^ 64 - 1)) (a * b / 2 ^ 64)

-- the eight bytes from this place on
abbrev pub word_at : List ℕ → ℕ → ℕ
word_at bs i = from_le_bytes w64 (slice_index bs i ∷ slice_index bs (i + 1) ∷ slice_index bs (i + 2) ∷ slice_index bs (i + 3) ∷ slice_index bs (i + 4) ∷ slice_index bs (i + 5) ∷ slice_index bs (i + 6) ∷ slice_index bs (i + 7) ∷ [])

-- one byte more
abbrev pub with_byte : ℕ → ℕ → ℕ
with_byte word b = bit_or (word * 2 ^ 8 % 2 ^ 64) b

-- fewer than four bytes
abbrev pub few_bytes : List ℕ → ℕ
few_bytes bs = fold with_byte 0 bs

-- the four bytes from this place on
abbrev pub half_at : List ℕ → ℕ → ℕ
half_at bs i = from_le_bytes w32 (slice_index bs i ∷ slice_index bs (i + 1) ∷ slice_index bs (i + 2) ∷ slice_index bs (i + 3) ∷ [])

-- fewer than eight bytes: of four and more the first four and the last four, which may overlap
abbrev pub short_word : List ℕ → ℕ
short_word bs = if nat_lt (length bs) 4 then few_bytes bs else bit_or (half_at bs 0 * 2 ^ 32 % 2 ^ 64) (half_at bs (length bs - 4))

-- the first eight bytes, or all of fewer
abbrev pub first_word : List ℕ → ℕ
first_word bs = if nat_lt (length bs) 8 then short_word bs else word_at bs 0

-- the last eight bytes, or nothing of fewer
abbrev pub last_word : List ℕ → ℕ
last_word bs = if nat_lt (length bs) 8 then 0 else word_at bs (length bs - 8)

-- the state behind the bytes of a field
unfoldable pub seed_after : Seed → List ℕ → Seed
seed_after seed bs = record { state = folded_halves (bit_xor (first_word bs) seed.state) (bit_xor (last_word bs) seed.factor); factor = seed.factor }

-- Enters counted by cells.
use Rattle.std.specs.{Prelude.{◌≡◌, ℕ, ◌+◌, ◌-◌, ◌*◌, ◌/◌, ◌%◌, ◌^◌, ◌<◌, ◌==◌, List, length, slice_index, count_by, if◌then◌else◌}, Int.{w64, from_le_bytes}}
use Rattle.gx_ledger.specs.declared.group.RepeatKey.{RepeatKey}

-- all that like Enters have in common, spread over the numbers of 64 bits
unfoldable pub spread_key : RepeatKey → ℕ
spread_key e = ((e.price * 2 ^ 32 + e.shares) * 11400714819323198485 % 2 ^ 64 + (from_le_bytes w64 e.stock.bytes + e.side) % 2 ^ 64 * 14029467366897019727 % 2 ^ 64) % 2 ^ 64

-- which of so many cells an Enter falls into
abbrev pub cell_of : ℕ → RepeatKey → ℕ
cell_of cells e = spread_key e * cells / 2 ^ 64

-- each cell holds how many of the Enters fall into it, but for one that came to 255: it counts no more
abbrev pub AreCounted : List ℕ → List RepeatKey → Type 0
AreCounted cells enters = (cell : ℕ) → cell < length cells → slice_index cells cell < 255 → slice_index cells cell ≡ count_by (λ e. cell_of (length cells) e == cell) enters

-- what such a cell holds with one Enter fewer
abbrev pub one_less : ℕ → ℕ
one_less count = if count == 255 then 255 else count - 1

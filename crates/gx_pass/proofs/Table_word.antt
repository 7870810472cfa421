-- A table of one word.
use Rattle.std.proofs.Common.{◌≡◌, ◌<◌, ap, ◌∙◌, arith}
use Rattle.atomic_table.specs.Seated.{TableId}

pub one_word : (z t : TableId) → z ≡ t → t.words ≡ 1 → 0 < z.words
one_word z t e h = let w : z.words ≡ 1 = ap (λ (x : TableId). x.words) e ∙ h in omega arith

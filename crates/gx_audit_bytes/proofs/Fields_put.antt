-- Fields, put one behind the other.
use Rattle.std.proofs.Common.{◌≡◌, ℕ, List, ◌++◌, ◌∙◌}

-- a field is put behind what stands there
pub put_on : {before draft after field shown : List ℕ} → after ≡ draft ++ field → draft ≡ before → field ≡ shown → after ≡ before ++ shown
put_on put was is = put ∙ (λ i. was i ++ is i)

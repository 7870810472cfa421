-- What a keeper has of records that were there before it.
use Rattle.std.specs.Prelude.{◌≡◌, ℕ, zero, suc, List, [], ◌∷◌}
use Rattle.gx_pass.specs.{declared.view.KeeperView.KeeperView, Views.highest_line}

-- the lines up to this one, the last first
abbrev pub lines_to : ℕ → List ℕ
lines_to zero = []
lines_to (suc n) = suc n ∷ lines_to n

-- the lines up to the highest of the records' were issued, and are entered
pub record IsResuming (k : KeeperView) : Type 0 where
  pub issued : k.issued ≡ highest_line k.list
  pub entered : k.entered ≡ lines_to k.issued

-- A file that is taken piece by piece.
use Rattle.std.proofs.{Common.{ℕ, ◌+◌, ◌≤◌, List, ◌++◌, Option, length, length-append, arith}, KnownBytes.Consumes-trans}
use Rattle.std.specs.Io.KnownBytes.{Consumes}
use Rattle.gx_files.specs.Reading.{TakesAtMost}

-- behind some bytes a few more were taken
pub taken_on : (a b c : Option (List ℕ)) (bytes : List ℕ) (few most : ℕ) → Consumes a b bytes → length bytes + few ≤ most → TakesAtMost b c few → TakesAtMost a c most
taken_on a b c bytes few most begun fits more = record {
  piece = bytes ++ more.piece;
  taken = Consumes-trans a b c bytes more.piece begun more.taken;
  few = omega (arith, length-append bytes more.piece, more.few, fits);
}

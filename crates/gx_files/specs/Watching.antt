-- What a file is to be like while it is written.
use Rattle.std.specs.Prelude.{ℕ, true}
use Rattle.gx_files.specs.declared.watched.Measure.{Measure}

-- it has its name, and so many bytes
abbrev pub standing : ℕ → Measure
standing length = record { length = length; is_named = true }

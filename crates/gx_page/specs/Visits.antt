-- What comes on a connection, and what goes out on it.
use Rattle.std.specs.{Prelude.{◌≡◌, ◌<◌, ◌≤◌, ℕ, ◌-◌, List, ◌++◌, length, take, drop, Option}, Io.KnownBytes.{Appends, Consumes, Keeps}}
use Rattle.gx_page.specs.declared.visit.Gulp.{Gulp}

-- some bytes came behind those that had come
pub record HasCome (left left' : Option (List ℕ)) (bytes bytes' : List ℕ) : Type 0 where
  pub piece : List ℕ
  pub some : 0 < length piece
  pub consumed : Consumes left left' piece
  pub behind : bytes' ≡ bytes ++ piece

-- a look for more bytes: where none came, those that had come stay, and nothing was taken from the stream
abbrev pub IsHeard : Option (List ℕ) → Option (List ℕ) → List ℕ → List ℕ → Gulp → Type 0
IsHeard left left' bytes bytes' Gulp.Waits = Keeps left left' × (bytes' ≡ bytes)
IsHeard left left' bytes bytes' Gulp.Came = HasCome left left' bytes bytes'
IsHeard left left' bytes bytes' Gulp.Ended = bytes' ≡ bytes

-- of the text, what lies from one place to the other was written
pub record IsSentOn (output output' : Option (List ℕ)) (text : List ℕ) (sent sent' : ℕ) : Type 0 where
  pub further : sent ≤ sent'
  pub written : Appends output output' (take (sent' - sent) (drop sent text))

-- Steps of which each may end the reading of a request.
use Rattle.std.specs.Prelude.{Result, Ok, Err}
use Rattle.gx_http.specs.declared.request.RequestFault.{RequestFault}

-- what follows, where there is no fault
infixl 10 ◌>>=◌
abbrev pub ◌>>=◌ : {A B : Type 0} → Result A RequestFault → (A → Result B RequestFault) → Result B RequestFault
(Ok value) >>= following = following value
(Err fault) >>= following = Err fault

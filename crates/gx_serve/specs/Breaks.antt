-- What breaks a session off.
use Rattle.gx_session.specs.Happenings.{Happening}
use Rattle.gx_session.specs.Happenings as happens
use Rattle.gx_serve.specs.declared.state.Break.{Break}

-- what the session is told
abbrev pub break_of : Break → Happening
break_of (Break.Refused fault) = happens.Refused fault
break_of Break.Fault = happens.Fault

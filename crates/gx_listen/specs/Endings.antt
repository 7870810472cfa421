-- Why servers end.
use Rattle.std.specs.Prelude.{IsTrue, Option, None, Some}
use Rattle.gx_listen.specs.declared.{fault.ServeFault.ServeFault, ending.Halt.Halt}

-- why a server that halts gave up, if it did
abbrev pub fault_of : Halt → Option ServeFault
fault_of (Halt.Asked asked) = None
fault_of (Halt.Fault fault) = Some fault

-- a server halts where its end was asked for, or where it gave up
abbrev pub IsHalted : Halt → Type 0
IsHalted (Halt.Asked asked) = IsTrue asked
IsHalted (Halt.Fault fault) = Unit {0}

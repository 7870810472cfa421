-- What a fault of writing says of its writer.
use Rattle.std.specs.Prelude.{◌≡◌, ℕ, ◌<◌}
use Rattle.gx_devices.specs.declared.fault.WriteFault.{WriteFault}

-- of the counts of failed calls of a writer, before and after: it is blamed exactly where a call of it failed
abbrev pub IsBlamed : (writes writes' : ℕ) → WriteFault → Type 0
IsBlamed writes writes' WriteFault.OutOfMemory = writes' ≡ writes
IsBlamed writes writes' WriteFault.WriteFailed = writes < writes'

-- What a piece of a connection's bytes leaves of its session.
use Rattle.std.specs.{Prelude.{◌≡◌, ◌<◌, ℕ, ◌⊎◌, List, ◌++◌, Option, Some, None}, Io.KnownBytes.{Consumes, IsAtEnd}}
use Rattle.gx_soup.specs.{Feeding.{Held, HasRead}, Packets.packets_of, declared.packet.SoupFault.SoupFault}
use Rattle.gx_access_gate.specs.declared.outcome.StepFault.{StepFault}
use Rattle.gx_session.specs.Happenings.{Happening}
use Rattle.gx_session.specs.Happenings as happens
use Rattle.gx_serve.specs.declared.reading.{Cut.Cut, Left.Left}

-- it goes on where the bytes are packets, and else it was told of the fault
abbrev pub IsCut : Option SoupFault → Left → Type 0
IsCut fault Left.Open = fault ≡ None
IsCut fault (Left.Over over) = ⊥
IsCut fault (Left.Refused told) = ⊥
IsCut fault (Left.Broken found told) = (fault ≡ Some found) × (told ≡ happens.Fault)
IsCut fault (Left.Excluded why told) = ⊥

-- packets leave it open, or it is over, or its user was put out and it was told that it ends
abbrev pub IsSessionKept : Left → Type 0
IsSessionKept Left.Open = Unit {0}
IsSessionKept (Left.Over over) = Unit {0}
IsSessionKept (Left.Refused told) = ⊥
IsSessionKept (Left.Broken found told) = ⊥
IsSessionKept (Left.Excluded why told) = told ≡ happens.Fault

-- the same, or it was over before, or it was told that there is no memory
abbrev pub IsLeft : Option SoupFault → Left → Type 0
IsLeft fault Left.Open = fault ≡ None
IsLeft fault (Left.Over over) = Unit {0}
IsLeft fault (Left.Refused told) = told ≡ happens.Refused StepFault.OutOfMemory
IsLeft fault (Left.Broken found told) = (fault ≡ Some found) × (told ≡ happens.Fault)
IsLeft fault (Left.Excluded why told) = told ≡ happens.Fault

-- why the session was cut off, if it was
abbrev pub cut_in : Left → Option Cut
cut_in Left.Open = None
cut_in (Left.Over over) = None
cut_in (Left.Refused told) = None
cut_in (Left.Broken found told) = Some (Cut.Broken found)
cut_in (Left.Excluded why told) = Some (Cut.Excluded why)

-- the fact, where the session goes on
abbrev pub IfOpen : Left → Type 0 → Type 0
IfOpen Left.Open Fact = Fact
IfOpen (Left.Over over) Fact = Unit {0}
IfOpen (Left.Refused told) Fact = Unit {0}
IfOpen (Left.Broken found told) Fact = Unit {0}
IfOpen (Left.Excluded why told) Fact = Unit {0}

-- a front of the bytes is no packets, and the session was told so
pub record IsReadBroken (found : SoupFault) (t : Happening) (bytes : List ℕ) : Type 0 where
  pub front : List ℕ
  pub rest : List ℕ
  pub whole : bytes ≡ front ++ rest
  pub fault : (packets_of front).fault ≡ Some found
  pub told : t ≡ happens.Fault

-- what the bytes that were read leave of a session: it goes on where they are packets; else it is over, or was told why not
abbrev pub Leaves : List ℕ → Left → Type 0
Leaves bytes Left.Open = (packets_of bytes).fault ≡ None
Leaves bytes (Left.Over over) = Unit {0}
Leaves bytes (Left.Refused told) = told ≡ happens.Refused StepFault.OutOfMemory
Leaves bytes (Left.Broken found told) = IsReadBroken found told bytes
Leaves bytes (Left.Excluded why told) = told ≡ happens.Fault

-- and while it goes on the feeder was fed all of them
abbrev pub Stands : Left → Held → List ℕ → Type 0
Stands left feeder bytes = IfOpen left (HasRead feeder bytes) × Leaves bytes left

-- a connection that began with these bytes was read to its end, or until its reader failed, and this is what its bytes leave
-- of the session
pub record WasHeard (before : List ℕ) (input left : Option (List ℕ)) (failed : ℕ) (heard : Left) : Type 0 where
  pub bytes : List ℕ
  pub consumed : Consumes input left bytes
  pub leaves : Leaves (before ++ bytes) heard
  pub ended : IsAtEnd left ⊎ (0 < failed)

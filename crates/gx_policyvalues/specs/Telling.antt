-- How a fault of a policy file is told.
use Rattle.std.specs.Prelude.{ℕ, List, codes}
use Rattle.gx_policyvalues.specs.declared.fault.FaultKind.{FaultKind, TheVariants.{NotToml, MissingKey, UnknownKey, BadValue, UnknownName, DuplicateName, TooMany, OutOfMemory}}

-- the number and the name of each kind
abbrev pub kind_words : FaultKind → List ℕ
kind_words NotToml = codes "1 NotToml"
kind_words MissingKey = codes "2 MissingKey"
kind_words UnknownKey = codes "3 UnknownKey"
kind_words BadValue = codes "4 BadValue"
kind_words UnknownName = codes "5 UnknownName"
kind_words DuplicateName = codes "6 DuplicateName"
kind_words TooMany = codes "7 TooMany"
kind_words OutOfMemory = codes "8 OutOfMemory"

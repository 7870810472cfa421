-- The tree of a policy file.
use Rattle.std.specs.{Prelude.{ℕ, List, Result, Err, if◌then◌else◌}, Option.ok_or, Str.is_utf8}
use Rattle.toml.specs.{Data.Members, Parse.parse_document}
use Rattle.gx_policyvalues.specs.declared.fault.FaultKind.{FaultKind, TheVariants.NotToml}

-- the tree that the bytes are
unfoldable pub tree : List ℕ → Result Members FaultKind
tree bytes = if is_utf8 bytes then ok_or (parse_document bytes) NotToml else Err NotToml

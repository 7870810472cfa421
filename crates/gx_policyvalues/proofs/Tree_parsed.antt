-- The tree of the bytes, from what the crate toml says.
use Rattle.std.proofs.{Common.{◌≡◌, ℕ, List, Some, None, Ok, Err, inl, inr}, lemmas.{Bool.cases_Bool, Str.{IsUtf8-from_is_utf8, is_utf8-from_IsUtf8}}}
use Rattle.std.specs.Str.{IsUtf8, is_utf8}
use Rattle.toml.specs.{Data.Members, Parse.parse_document}
use Rattle.gx_policyvalues.specs.{declared.fault.FaultKind.TheVariants.NotToml, Parsing.tree}

pub tree_some : (bytes : List ℕ) (top : Members) → IsUtf8 bytes × (parse_document bytes ≡ Some top) → tree bytes ≡ Ok top
unfolding tree
tree_some bytes top h = rw (is_utf8-from_IsUtf8 bytes h.0, h.1)

pub tree_none : (bytes : List ℕ) → (IsUtf8 bytes → parse_document bytes ≡ None) → tree bytes ≡ Err NotToml
unfolding tree
tree_none bytes h =
    elim (cases_Bool (is_utf8 bytes)) [
      | inl is ↦ rw (is, h (IsUtf8-from_is_utf8 bytes is))
      | inr not ↦ rw not
    ]

-- Records, copied one behind the other.
use Rattle.std.proofs.{Common.{◌≡◌, ℕ, ◌+◌, ◌≤◌, List, [], ◌∷◌, ◌++◌, length, take, Some, sym, ap, ◌∙◌, append_assoc}, lemmas.List.take_all}
use Rattle.std.specs.List.{slice_get}
use Rattle.gx_units.proofs.Lists_found.{one_more_taken}
use Rattle.gx_history.specs.declared.record.RecordData.{RecordData}

-- one more is copied
pub one_copied : (before list more records : List RecordData) (place : ℕ) (r : RecordData) → list ≡ before ++ take place records → more ≡ list ++ r ∷ [] → slice_get records place ≡ Some r → more ≡ before ++ take (place + 1) records
one_copied before list more records place r so_far put found =
    put
    ∙ ap (λ (rs : List RecordData). rs ++ r ∷ []) so_far
    ∙ append_assoc before (take place records) (r ∷ [])
    ∙ ap (λ (rs : List RecordData). before ++ rs) (sym (one_more_taken records place r found))

-- all are
pub all_copied : (before list records : List RecordData) (place : ℕ) → list ≡ before ++ take place records → length records ≤ place → list ≡ before ++ records
all_copied before list records place so_far all = so_far ∙ ap (λ (rs : List RecordData). before ++ rs) (take_all place records all)

use Rattle.std.proofs.Common.{◌≡◌, ◌&&◌, ◌||◌, ℕ, List, [], ◌∷◌, map, Bor, string_bytes, bytes_eq, refl, ap, ◌∙◌}
use Rattle.std.specs.{List.{list_all, list_any}, Map.keys_of}
use Rattle.toml.specs.View.{members_view}
use Rattle.toml.proofs.Views.{Entry}
use Rattle.gx_policyvalues.specs.Field.{has_only, is_key}

-- the keys behind references
pub is_key_view : (known : List (Bor (List ℕ))) (key : List ℕ) → list_any (λ k. bytes_eq k.now key) known ≡ is_key (map (λ k. k.now) known) key
is_key_view [] key = refl
is_key_view (k ∷ known) key = ap (λ b. bytes_eq k.now key || b) (is_key_view known key)

-- over the entries of a table's map
pub has_only_view : (known : List (Bor (List ℕ))) (es : List Entry) → list_all (λ key. list_any (λ k. bytes_eq k.now (string_bytes key)) known) (keys_of es) ≡ has_only (map (λ k. k.now) known) (members_view es)
has_only_view known [] = refl
has_only_view known (e ∷ es) = ap (λ b. b && list_all (λ key. list_any (λ k. bytes_eq k.now (string_bytes key)) known) (keys_of es)) (is_key_view known (string_bytes e.0)) ∙ ap (λ b. is_key (map (λ k. k.now) known) (string_bytes e.0) && b) (has_only_view known es)

-- How a message lies in its bytes: a type byte, and behind it fields, each at its offset.
use Rattle.std.specs.Prelude.{◌≡◌, ℕ, Bool, IsTrue, ◌+◌, ◌&&◌, ◌==◌, List, [], ◌∷◌, ◌++◌, length, take, drop, map, fold, slice_index}

-- where a field begins, counted from 0, and how many bytes it has
pub record Field : Type 0 where
  pub offset : ℕ
  pub size : ℕ

-- a message's type byte, how many bytes it has, and its fields behind the type
pub record Layout : Type 0 where
  pub kind : ℕ
  pub size : ℕ
  pub fields : List Field

abbrev pub field : ℕ → ℕ → Field
field offset size = record { offset = offset; size = size }

-- the bytes at a field's place
abbrev pub bytes_at : Field → List ℕ → List ℕ
bytes_at place bytes = take place.size (drop place.offset bytes)

-- the bytes at each field's place
abbrev pub field_bytes : Layout → List ℕ → List (List ℕ)
field_bytes layout bytes = map (λ place. bytes_at place bytes) layout.fields

-- the bytes have the message's type and length
abbrev pub is_of : Layout → List ℕ → Bool
is_of layout bytes = (slice_index bytes 0 == layout.kind) && (length bytes == layout.size)

-- the fields one behind the other, behind the bytes
abbrev pub with_fields : List ℕ → List (List ℕ) → List ℕ
with_fields bytes contents = fold ◌++◌ bytes contents

-- the type byte, and the fields one behind the other
abbrev pub laid_out : Layout → List (List ℕ) → List ℕ
laid_out layout contents = with_fields (layout.kind ∷ []) contents

-- where fields begin that stand one behind the other from n on
abbrev pub offsets_from : ℕ → List Field → List ℕ
offsets_from n [] = []
offsets_from n (f ∷ fs) = n ∷ offsets_from (n + f.size) fs

-- where the last of such fields ends
abbrev pub end_from : ℕ → List Field → ℕ
end_from n [] = n
end_from n (f ∷ fs) = end_from (n + f.size) fs

-- the fields begin behind the type, each where the one before it ends, and the last ends with the message
pub record IsWithoutGaps (layout : Layout) : Type 0 where
  pub offsets : map (λ place. place.offset) layout.fields ≡ offsets_from 1 layout.fields
  pub size : end_from 1 layout.fields ≡ layout.size

-- each field has as many bytes as the layout says
abbrev pub HasSizes : Layout → List (List ℕ) → Type 0
HasSizes layout contents = map length contents ≡ map (λ place. place.size) layout.fields

-- the bytes have the message's type and length, and at each field's place stand that field's bytes
pub record LiesIn (layout : Layout) (contents : List (List ℕ)) (bytes : List ℕ) : Type 0 where
  pub is_of : IsTrue (is_of layout bytes)
  pub fields : field_bytes layout bytes ≡ contents

-- A search over fields, a field further.
use Rattle.std.proofs.{Common.{◌≡◌, ℕ, ◌+◌, ◌<◌, Bool, true, false, List, ◌∷◌, length, drop, map, get_or, Option, Some, ap, ◌∙◌}, lemmas.List.drop_more}
use Rattle.std.specs.Prelude.{find, option_map, if◌then◌else◌}
use Rattle.httparse.specs.{Spans.{header_bytes, span_bytes}, declared.spans.HeaderSpan.HeaderSpan}
use Rattle.http1.specs.{Fields.{Header, is_named}, Text.eq_ignore_case}
use Rattle.gx_http.specs.Credentials.{value_named}

-- with this field in front
one_more : (bytes name : List ℕ) (fields : List HeaderSpan) (i : ℕ) (d : HeaderSpan) → i < length fields
    → value_named name (map (header_bytes bytes) (drop i fields)) ≡ value_named name (map (header_bytes bytes) (get_or fields i d ∷ drop (i + 1) fields))
one_more bytes name fields i d within = ap (λ (left : List HeaderSpan). value_named name (map (header_bytes bytes) left)) (drop_more fields i d within)

-- of these two the one that the answer is
by_test : (field : Header) (fields : List Header) (name : List ℕ) → Bool → Option (List ℕ)
by_test field fields name is = option_map (λ (h : Header). h.1) (if is then Some field else find (is_named name) fields)

pub found_here : (bytes name : List ℕ) (fields : List HeaderSpan) (i : ℕ) (d : HeaderSpan) → i < length fields
    → eq_ignore_case (span_bytes bytes (get_or fields i d).name) name ≡ true
    → value_named name (map (header_bytes bytes) (drop i fields)) ≡ Some (span_bytes bytes (get_or fields i d).value)
unfolding by_test
found_here bytes name fields i d within is =
    one_more bytes name fields i d within ∙ ap (by_test (header_bytes bytes (get_or fields i d)) (map (header_bytes bytes) (drop (i + 1) fields)) name) is

pub found_later : (bytes name : List ℕ) (fields : List HeaderSpan) (i : ℕ) (d : HeaderSpan) → i < length fields
    → eq_ignore_case (span_bytes bytes (get_or fields i d).name) name ≡ false
    → value_named name (map (header_bytes bytes) (drop i fields)) ≡ value_named name (map (header_bytes bytes) (drop (i + 1) fields))
unfolding by_test
found_later bytes name fields i d within is =
    one_more bytes name fields i d within ∙ ap (by_test (header_bytes bytes (get_or fields i d)) (map (header_bytes bytes) (drop (i + 1) fields)) name) is

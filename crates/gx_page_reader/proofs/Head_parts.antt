-- What is known of a head by where its parts stand.
use Rattle.std.proofs.{Common.{◌≡◌, ℕ, ◌≤◌, List, length, take, drop, ap, sym, ◌∙◌, inl, subst, arith}, Math.Seq.take-length, lemmas.List.{length-map, length-take}}
use Rattle.std.specs.Prelude.{All, Result}
use Rattle.httparse.specs.{Grammar.{Field, ResponseHead}, Spans.{AreFieldsAt, IsHeaderWithin, IsResponseAt, IsResponseOf, IsResponseWithin, header_bytes, name_and_value}, declared.spans.{HeaderSpan.HeaderSpan, ResponseSpans.ResponseSpans}}
use Rattle.gx_page_reader.specs.{declared.fault.PageFault.PageFault, Responses.{parts_at, parts_of, IsBegun, IsReadAs, body_in}}

-- all its fields stand in front of the bytes
pub all_within : (bytes : List ℕ) (fields : List HeaderSpan) (head : ResponseSpans) → IsResponseWithin bytes fields head → head.headers ≡ length fields
    → All (IsHeaderWithin (length bytes)) fields
all_within bytes fields head within all =
    let same : take head.headers fields ≡ fields = ap (λ (n : ℕ). take n fields) all ∙ take-length fields in
    let few : head.len ≤ length bytes = within.section.len_fits in
    let each : All (IsHeaderWithin head.len) fields = subst (λ (front : List HeaderSpan). All (IsHeaderWithin head.len) front) same within.section.headers_fit in
    λ k d inside.
    let here = each k d inside in
    ((here.0.0, omega arith), (here.1.0, omega arith))

-- they are the parts of the head
parts_are : (bytes : List ℕ) (room : List HeaderSpan) (head : ResponseSpans) (h : ResponseHead) → IsResponseAt bytes room head h
    → parts_at bytes (take head.headers room) head ≡ parts_of h
parts_are bytes room head h at =
    λ i. record { code = at.code i; minor = at.version i; fields = at.fields i }

-- it has no more fields than there was room for
few_fields : (bytes : List ℕ) (room : List HeaderSpan) (count : ℕ) (fields : List Field) → AreFieldsAt bytes room count fields → length fields ≤ length room
few_fields bytes room count fields are =
    let same : length (take count room) ≡ length fields = sym (length-map (take count room) (header_bytes bytes)) ∙ ap length are ∙ length-map fields name_and_value in
    omega (arith, same, length-take count room)

begun_at : (bytes : List ℕ) (room : List HeaderSpan) (head : ResponseSpans) (h : ResponseHead) (result : Result (List ℕ) PageFault) → length room ≤ 64
    → IsResponseAt bytes room head h → result ≡ body_in (parts_at bytes (take head.headers room) head) (drop head.len bytes) → IsBegun bytes result
begun_at bytes room head h result small at is = record {
  head = h;
  rest = drop head.len bytes;
  begin = record { reads = at.reads; few = omega (arith, few_fields bytes room head.headers h.fields at.fields) };
  body = is ∙ ap (λ parts. body_in parts (drop head.len bytes)) (parts_are bytes room head h at);
}

-- what was read of them is the body of a response that they begin with
pub read_as : (bytes : List ℕ) (room : List HeaderSpan) (head : ResponseSpans) (result : Result (List ℕ) PageFault) → length room ≤ 64
    → IsResponseOf bytes room head → result ≡ body_in (parts_at bytes (take head.headers room) head) (drop head.len bytes) → IsReadAs bytes result
read_as bytes room head result small of is = inl (begun_at bytes room head of.0 result small of.1 is)

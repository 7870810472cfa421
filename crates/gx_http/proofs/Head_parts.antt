-- What is known of a head by where its parts stand.
use Rattle.std.proofs.{Common.{◌≡◌, ℕ, ◌≤◌, List, length, take, drop, ap, sym, ◌∙◌, inl, refl, subst, arith}, Math.Seq.take-length, lemmas.List.{length-map, length-take}}
use Rattle.std.specs.Prelude.{All, Bool, true, false, Option, Result, Ok, Err, IsTrue, OnOk, codes, if◌then◌else◌}
use Rattle.http1.specs.Fields.{known_fields}
use Rattle.httparse.specs.{Grammar.{Field, RequestHead}, Spans.{AreFieldsAt, IsHeaderWithin, IsRequestAt, IsRequestOf, IsRequestWithin, header_bytes, name_and_value}, declared.spans.{HeaderSpan.HeaderSpan, RequestSpans.RequestSpans}}
use Rattle.gx_http.specs.{declared.request.{Request.Request, RequestFault.RequestFault}, Credentials.{credentials_in, value_named}, Hosts.is_for_own_host, Requests.{asked_by, body_length, own_host, parts_at, parts_of, request_by, whole_body, within_bounds, HeadParts, IsBegun, IsForOwnHost, IsReadAs, request_in}, Routes.route_of, Words.◌>>=◌}

-- all its fields stand in front of the bytes
pub all_within : (bytes : List ℕ) (fields : List HeaderSpan) (head : RequestSpans) → IsRequestWithin bytes fields head → head.headers ≡ length fields
    → All (IsHeaderWithin (length bytes)) fields
all_within bytes fields head within all =
    let same : take head.headers fields ≡ fields = ap (λ (n : ℕ). take n fields) all ∙ take-length fields in
    let few : head.len ≤ length bytes = within.section.len_fits in
    let each : All (IsHeaderWithin head.len) fields = subst (λ (front : List HeaderSpan). All (IsHeaderWithin head.len) front) same within.section.headers_fit in
    λ k d inside.
    let here = each k d inside in
    ((here.0.0, omega arith), (here.1.0, omega arith))

-- they are the parts of the head
parts_are : (bytes : List ℕ) (room : List HeaderSpan) (head : RequestSpans) (h : RequestHead) → IsRequestAt bytes room head h
    → parts_at bytes (take head.headers room) head ≡ parts_of h
parts_are bytes room head h at =
    λ i. record { method = at.method i; target = at.path i; minor = at.version i; fields = at.fields i; length = at.len i }

-- it has no more fields than there was room for
few_fields : (bytes : List ℕ) (room : List HeaderSpan) (count : ℕ) (fields : List Field) → AreFieldsAt bytes room count fields → length fields ≤ length room
few_fields bytes room count fields are =
    let same : length (take count room) ≡ length fields = sym (length-map (take count room) (header_bytes bytes)) ∙ ap length are ∙ length-map fields name_and_value in
    omega (arith, same, length-take count room)

begun_at : (bytes : List ℕ) (room : List HeaderSpan) (head : RequestSpans) (h : RequestHead) (result : Result Request RequestFault) → length room ≤ 32
    → IsRequestAt bytes room head h → result ≡ request_in (parts_at bytes (take head.headers room) head) (drop head.len bytes) → IsBegun bytes result
begun_at bytes room head h result small at is = record {
  head = h;
  rest = drop head.len bytes;
  begin = record { reads = at.reads; few = omega (arith, few_fields bytes room head.headers h.fields at.fields) };
  request = is ∙ ap (λ parts. request_in parts (drop head.len bytes)) (parts_are bytes room head h at);
}

-- what was read of them is the request of a head that they begin with
pub read_as : (bytes : List ℕ) (room : List HeaderSpan) (head : RequestSpans) (result : Result Request RequestFault) → length room ≤ 32
    → IsRequestOf bytes room head → result ≡ request_in (parts_at bytes (take head.headers room) head) (drop head.len bytes) → IsReadAs bytes result
read_as bytes room head result small of is = inl (begun_at bytes room head of.0 result small of.1 is)

both_ways : {A : Type 0} (following : Result A RequestFault) → OnOk following (IsTrue true)
both_ways (Ok value) = refl
both_ways (Err fault) = tt

-- what follows a test is Ok only where the test is passed
by_test : {A : Type 0} (is : Bool) (following : Result A RequestFault) → OnOk ((if is then Ok tt else Err RequestFault.Misdirected) >>= λ (own : Unit {0}). following) (IsTrue is)
by_test true following = both_ways following
by_test false following = tt

behind_length : {A : Type 0} (told : Result ℕ RequestFault) (value : Option (List ℕ)) (following : ℕ → Result A RequestFault)
    → OnOk (told >>= λ n. own_host value >>= λ own. following n) (IsTrue (is_for_own_host value))
behind_length (Ok n) value following = by_test (is_for_own_host value) (following n)
behind_length (Err fault) value following = tt

-- a request is one only where the field Host names the machine itself
own_in : (head : HeadParts) (rest : List ℕ) → OnOk (request_in head rest) (IsTrue (is_for_own_host (value_named (codes "Host") head.fields)))
own_in head rest =
    behind_length (body_length head.method head.minor (known_fields head.fields)) (value_named (codes "Host") head.fields) (λ told.
    within_bounds head.length told >>= λ fitting. route_of head.method head.target >>= λ route. whole_body fitting rest >>= λ body. asked_by route body >>= λ asked.
    request_by (credentials_in head.fields) asked)

on_ok : {A E P Q : Type 0} (result : Result A E) → (P → Q) → OnOk result P → OnOk result Q
on_ok (Ok value) f p = f p
on_ok (Err fault) f p = tt

own_begun : (bytes : List ℕ) (result : Result Request RequestFault) → IsBegun bytes result → OnOk result (IsForOwnHost bytes)
own_begun bytes result begun =
    let own = subst (λ r. OnOk r (IsTrue (is_for_own_host (value_named (codes "Host") (parts_of begun.head).fields)))) (sym begun.request) (own_in (parts_of begun.head) begun.rest) in
    on_ok result (λ is. record { head = begun.head; rest = begun.rest; begin = begun.begin; own = is }) own

-- and what was read of bytes is none but of a head that does
pub for_own_host : (bytes : List ℕ) (room : List HeaderSpan) (head : RequestSpans) (result : Result Request RequestFault) → length room ≤ 32
    → IsRequestOf bytes room head → result ≡ request_in (parts_at bytes (take head.headers room) head) (drop head.len bytes) → OnOk result (IsForOwnHost bytes)
for_own_host bytes room head result small of is = own_begun bytes result (begun_at bytes room head of.0 result small of.1 is)

-- Which request bytes are, or why they are none that is served.
use Rattle.std.specs.Prelude.{◌≡◌, ◌⊎◌, ℕ, ◌+◌, ◌<◌, ◌≤◌, Bool, ◌==◌, ◌&&◌, ◌||◌, List, length, map, take, Option, Some, None, Result, Ok, Err, IsTrue, if◌then◌else◌, nat_lt, codes}
use Rattle.httparse.specs.{Grammar.{RequestHead, print_request, ReadsRequest, HasNoRequest, MayBecomeRequest}, Spans.{RequestOverflows, header_bytes, name_and_value, span_bytes}, declared.spans.{HeaderSpan.HeaderSpan, RequestSpans.RequestSpans}}
use Rattle.http1.specs.{Fields.{Header, known_fields}, Framing.{method_kind, request_framing}, declared.{fields.KnownFields.KnownFields, framing.{Framing.Framing, FramingError.FramingError}}}
use Rattle.gx_http.specs.{declared.{credentials.Credentials.Credentials, forms.KillForm.KillForm, request.{RequestTarget.RequestTarget, Request.Request, RequestFault.RequestFault}, routes.Route.Route}, Credentials.{credentials_in, value_named}, Forms.kill_form, Hosts.is_for_own_host, Routes.route_of, Words.◌>>=◌}

-- a request has no more bytes than these
abbrev pub most_bytes : ℕ
most_bytes = 4096

-- and its head no more fields
abbrev pub most_fields : ℕ
most_fields = 32

-- what of a head says what is asked for
pub record HeadParts : Type 0 where
  pub method : List ℕ
  pub target : List ℕ
  pub minor : ℕ
  pub fields : List Header
  pub length : ℕ

abbrev pub parts_of : RequestHead → HeadParts
parts_of h = record {
  method = h.method;
  target = h.target;
  minor = h.minor;
  fields = map name_and_value h.fields;
  length = length (print_request h);
}

-- the same, as they stand in front of bytes
abbrev pub parts_at : List ℕ → List HeaderSpan → RequestSpans → HeadParts
parts_at bytes fields head = record {
  method = span_bytes bytes head.method;
  target = span_bytes bytes head.path;
  minor = head.version;
  fields = map (header_bytes bytes) fields;
  length = head.len;
}

-- the length of a body that is told in no other way than by its length
abbrev pub length_told : Result Framing FramingError → Result ℕ RequestFault
length_told (Ok Framing.NoBody) = Ok 0
length_told (Ok (Framing.Length n)) = Ok n
length_told other = Err RequestFault.BadRequest

-- one field Host, and in HTTP/1.0 at most one
abbrev pub has_its_host : ℕ → ℕ → Bool
has_its_host minor hosts = hosts == 1 || (minor == 0 && hosts == 0)

-- the length of the body, by the head
abbrev pub body_length : List ℕ → ℕ → KnownFields → Result ℕ RequestFault
body_length method minor known =
    if has_its_host minor known.hosts then length_told (request_framing (method_kind method) minor known) else Err RequestFault.BadRequest

-- the field Host, where there is one, names the machine itself
abbrev pub own_host : Option (List ℕ) → Result (Unit {0}) RequestFault
own_host value = if is_for_own_host value then Ok tt else Err RequestFault.Misdirected

-- a body of this length, where it fits behind a head of that
abbrev pub within_bounds : ℕ → ℕ → Result ℕ RequestFault
within_bounds head body = if nat_lt most_bytes (head + body) then Err RequestFault.TooLarge else Ok body

-- the whole body of this length
abbrev pub whole_body : ℕ → List ℕ → Result (List ℕ) RequestFault
whole_body n bytes = if nat_lt (length bytes) n then Err RequestFault.Unfinished else Ok (take n bytes)

abbrev pub killed_by : Option KillForm → Result RequestTarget RequestFault
killed_by None = Err RequestFault.BadRequest
killed_by (Some form) = Ok (RequestTarget.Kill form)

-- what is asked for by this route and this body
abbrev pub asked_by : Route → List ℕ → Result RequestTarget RequestFault
asked_by Route.Page body = Ok RequestTarget.Page
asked_by Route.Script body = Ok RequestTarget.Script
asked_by Route.Style body = Ok RequestTarget.Style
asked_by Route.State body = Ok RequestTarget.State
asked_by Route.Metrics body = Ok RequestTarget.Metrics
asked_by Route.Health body = Ok RequestTarget.Health
asked_by Route.Kill body = killed_by (kill_form body)

abbrev pub request_by : Option Credentials → RequestTarget → Result Request RequestFault
request_by caller asked = Ok (record { caller = caller; asked = asked })

-- the request that a head and the bytes behind it are, by the first fault where there is one
abbrev pub request_in : HeadParts → List ℕ → Result Request RequestFault
request_in head rest = do
  told ← body_length head.method head.minor (known_fields head.fields)
  own ← own_host (value_named (codes "Host") head.fields)
  fitting ← within_bounds head.length told
  route ← route_of head.method head.target
  body ← whole_body fitting rest
  asked ← asked_by route body
  request_by (credentials_in head.fields) asked

abbrev pub request_of : RequestHead → List ℕ → Result Request RequestFault
request_of h rest = request_in (parts_of h) rest

-- bytes begin with this head, which has no more fields than it may, and rest stands behind it
pub record BeginWith (bytes : List ℕ) (h : RequestHead) (rest : List ℕ) : Type 0 where
  pub reads : ReadsRequest bytes h rest
  pub few : length h.fields ≤ most_fields

-- they begin with a head, and what was read is the request of it
pub record IsBegun (bytes : List ℕ) (result : Result Request RequestFault) : Type 0 where
  pub head : RequestHead
  pub rest : List ℕ
  pub begin : BeginWith bytes head rest
  pub request : result ≡ request_of head rest

-- they begin with no head, and this is said of them: one may become of them, and they are not too many; they are; or none can
-- become of them that has no more fields than it may
abbrev pub IsHeadless : List ℕ → Result Request RequestFault → Type 0
IsHeadless bytes (Err RequestFault.Unfinished) = HasNoRequest bytes × MayBecomeRequest bytes × (length bytes < most_bytes)
IsHeadless bytes (Err RequestFault.TooLarge) = HasNoRequest bytes × (most_bytes ≤ length bytes)
IsHeadless bytes (Err RequestFault.BadRequest) = RequestOverflows most_fields bytes
IsHeadless bytes other = ⊥

-- they begin with a head that names no host but the machine itself
pub record IsForOwnHost (bytes : List ℕ) : Type 0 where
  pub head : RequestHead
  pub rest : List ℕ
  pub begin : BeginWith bytes head rest
  pub own : IsTrue (is_for_own_host (value_named (codes "Host") (parts_of head).fields))

-- what bytes are read as
abbrev pub IsReadAs : List ℕ → Result Request RequestFault → Type 0
IsReadAs bytes result = IsBegun bytes result ⊎ IsHeadless bytes result

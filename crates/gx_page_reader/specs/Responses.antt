-- Which body a response has, or why bytes are no response.
use Rattle.std.specs.{Prelude.{◌≡◌, ◌⊎◌, ℕ, ◌≤◌, ◌==◌, List, length, map, take, Result, Ok, Err, if◌then◌else◌, nat_le}, Borrow.Bor}
use Rattle.httparse.specs.{Grammar.{ResponseHead, ReadsResponse, HasNoResponse, MayBecomeResponse, status_code}, Spans.{ResponseOverflows, header_bytes, name_and_value}, declared.spans.{HeaderSpan.HeaderSpan, ResponseSpans.ResponseSpans}}
use Rattle.http1.specs.{Fields.{Header, known_fields}, Framing.response_framing, declared.framing.{Framing.Framing, FramingError.FramingError, MethodKind.MethodKind}}
use Rattle.gx_page_reader.specs.declared.fault.PageFault.{PageFault}

-- the head of a response has no more fields than these
abbrev pub most_fields : ℕ
most_fields = 64

-- what of a head says which body is behind it
pub record HeadParts : Type 0 where
  pub code : ℕ
  pub minor : ℕ
  pub fields : List Header

abbrev pub parts_of : ResponseHead → HeadParts
parts_of h = record { code = status_code h; minor = h.minor; fields = map name_and_value h.fields }

-- the same, as they stand in front of bytes
abbrev pub parts_at : List ℕ → List HeaderSpan → ResponseSpans → HeadParts
parts_at bytes fields head = record { code = head.code; minor = head.version; fields = map (header_bytes bytes) fields }

-- the body: so many bytes where its length is told, or all to the end where nothing is told of it
abbrev pub body_with : Result Framing FramingError → List ℕ → Result (List ℕ) PageFault
body_with (Ok Framing.UntilClose) rest = Ok rest
body_with (Ok (Framing.Length n)) rest = if nat_le n (length rest) then Ok (take n rest) else Err PageFault.CutShort
body_with other rest = Err PageFault.NoResponse

-- the body of a response with this head, which has to have the status 200
abbrev pub body_in : HeadParts → List ℕ → Result (List ℕ) PageFault
body_in head rest =
    if head.code == 200 then body_with (response_framing MethodKind.Other 200 head.minor (known_fields head.fields)) rest
    else Err (PageFault.OtherStatus head.code)

abbrev pub response_of : ResponseHead → List ℕ → Result (List ℕ) PageFault
response_of h rest = body_in (parts_of h) rest

-- what was read, as it is seen
abbrev pub body_seen : Result (Bor (List ℕ)) PageFault → Result (List ℕ) PageFault
body_seen (Ok body) = Ok body.now
body_seen (Err fault) = Err fault

-- bytes begin with this head, which has no more fields than it may, and rest stands behind it
pub record BeginWith (bytes : List ℕ) (h : ResponseHead) (rest : List ℕ) : Type 0 where
  pub reads : ReadsResponse bytes h rest
  pub few : length h.fields ≤ most_fields

-- they begin with a head, and what was read is the body of it
pub record IsBegun (bytes : List ℕ) (result : Result (List ℕ) PageFault) : Type 0 where
  pub head : ResponseHead
  pub rest : List ℕ
  pub begin : BeginWith bytes head rest
  pub body : result ≡ response_of head rest

-- they begin with no head, and this is said of them: one may become of them; or none can that has no more fields than it may
abbrev pub IsHeadless : List ℕ → Result (List ℕ) PageFault → Type 0
IsHeadless bytes (Err PageFault.CutShort) = HasNoResponse bytes × MayBecomeResponse bytes
IsHeadless bytes (Err PageFault.NoResponse) = ResponseOverflows most_fields bytes
IsHeadless bytes other = ⊥

-- what bytes are read as
abbrev pub IsReadAs : List ℕ → Result (List ℕ) PageFault → Type 0
IsReadAs bytes result = IsBegun bytes result ⊎ IsHeadless bytes result

-- What a reader of HTTP finds in a response.
use Rattle.std.specs.Prelude.{◌≡◌, ◌^◌, ◌<◌, ℕ, List, map, length}
use Rattle.httparse.specs.{Grammar.{ReadsResponse, ResponseHead, status_code}, Spans.name_and_value}
use Rattle.http1.specs.Fields.{known_fields}
use Rattle.http1.specs.declared.fields.ContentLength.TheVariants as Length
use Rattle.gx_http.specs.{declared.response.{Content.Content, Status.Status}, Responses.{code_of, fields_of, response_bytes}}

-- a head of the grammar and behind it the body; in the head this status, these fields, and this length of the body
pub record IsReadBack (status : Status) (content : Content) (body : List ℕ) : Type 0 where
  pub head : ResponseHead
  pub reads : ReadsResponse (response_bytes status content body) head body
  pub code : status_code head ≡ code_of status
  pub fields : map name_and_value head.fields ≡ fields_of status content (length body)
  pub told : (known_fields (map name_and_value head.fields)).content_length ≡ Length.Value (length body)

abbrev pub ResponsesReadBack : Type 0
ResponsesReadBack = (status : Status) (content : Content) (body : List ℕ) → length body < 2 ^ 64 → IsReadBack status content body

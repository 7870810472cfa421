-- Responses, as bytes.
use Rattle.std.specs.{Prelude.{ℕ, List, [], ◌∷◌, ◌++◌, length, Option, Some, None, codes, decimal}, Option.option_to_list}
use Rattle.http1.specs.{Fields.Header, Head.response_text}
use Rattle.gx_http.specs.{declared.{request.RequestFault.RequestFault, response.{Content.Content, Status.Status}, routes.Method.Method}, Routes.method_text}

abbrev pub code_of : Status → ℕ
code_of Status.Done = 200
code_of Status.SeePage = 303
code_of Status.BadRequest = 400
code_of Status.Unauthorized = 401
code_of Status.Forbidden = 403
code_of Status.NotFound = 404
code_of (Status.MethodNotAllowed method) = 405
code_of Status.TooLarge = 413
code_of Status.Misdirected = 421
code_of Status.Unavailable = 503

-- the words behind the code
abbrev pub reason_of : Status → List ℕ
reason_of Status.Done = codes "OK"
reason_of Status.SeePage = codes "See Other"
reason_of Status.BadRequest = codes "Bad Request"
reason_of Status.Unauthorized = codes "Unauthorized"
reason_of Status.Forbidden = codes "Forbidden"
reason_of Status.NotFound = codes "Not Found"
reason_of (Status.MethodNotAllowed method) = codes "Method Not Allowed"
reason_of Status.TooLarge = codes "Content Too Large"
reason_of Status.Misdirected = codes "Misdirected Request"
reason_of Status.Unavailable = codes "Service Unavailable"

-- what answers bytes that are no request, once no more of them come
abbrev pub status_of : RequestFault → Status
status_of RequestFault.Unfinished = Status.BadRequest
status_of RequestFault.BadRequest = Status.BadRequest
status_of RequestFault.Misdirected = Status.Misdirected
status_of RequestFault.NotFound = Status.NotFound
status_of (RequestFault.MethodNotAllowed method) = Status.MethodNotAllowed method
status_of RequestFault.TooLarge = Status.TooLarge

-- what a body is, in the words of HTTP
abbrev pub media_type : Content → List ℕ
media_type Content.Page = codes "text/html; charset=utf-8"
media_type Content.Script = codes "text/javascript; charset=utf-8"
media_type Content.Style = codes "text/css; charset=utf-8"
media_type Content.Json = codes "application/json"
media_type Content.Metrics = codes "text/plain; version=0.0.4; charset=utf-8"
media_type Content.Text = codes "text/plain; charset=utf-8"

-- a page may load what its own server has, send a form there, and stand in no other page
abbrev pub page_policy : List ℕ
page_policy = codes "default-src 'none'; script-src 'self'; style-src 'self'; connect-src 'self'; img-src data:; form-action 'self'; base-uri 'none'; frame-ancestors 'none'"

-- the fields that each response has; these digits are the length of its body
abbrev pub common_fields : Content → List ℕ → List Header
common_fields content digits =
    (codes "Content-Type", media_type content) ∷ (codes "Content-Length", digits) ∷ (codes "Cache-Control", codes "no-store")
    ∷ (codes "Connection", codes "close") ∷ (codes "Content-Security-Policy", page_policy)
    ∷ (codes "X-Content-Type-Options", codes "nosniff") ∷ (codes "Referrer-Policy", codes "no-referrer") ∷ []

-- the field that responses of this status have, and no others
abbrev pub own_field : Status → Option Header
own_field Status.SeePage = Some (codes "Location", codes "/")
own_field Status.Unauthorized = Some (codes "WWW-Authenticate", codes "Basic realm=\"Boskurige\", charset=\"UTF-8\"")
own_field (Status.MethodNotAllowed method) = Some (codes "Allow", method_text method)
own_field other = None

abbrev pub fields_of : Status → Content → ℕ → List Header
fields_of status content n = common_fields content (decimal n) ++ option_to_list (own_field status)

-- the head of a response whose body has n bytes
abbrev pub head_bytes : Status → Content → ℕ → List ℕ
head_bytes status content n = response_text 1 (code_of status) (reason_of status) (fields_of status content n)

-- a response: its head, and behind it the body
abbrev pub response_bytes : Status → Content → List ℕ → List ℕ
response_bytes status content body = head_bytes status content (length body) ++ body

use Rattle.std.proofs.Common.{◌≡◌, drop, map}
use Rattle.httparse.specs.Spans.{header_bytes}
use Rattle.gx_http.specs.Credentials.{value_named}
use Rattle.gx_http.proofs.credentials.value_named.Given as goal

abbrev pub invariant-loop-field : goal.invariant-loop-field
invariant-loop-field l =
    value_named l.name (map (header_bytes l.bytes) l.fields) ≡ value_named l.name (map (header_bytes l.bytes) (drop l.field-index l.fields))

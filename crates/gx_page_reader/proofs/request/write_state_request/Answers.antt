use Rattle.std.proofs.Common.{List, [], ◌++◌, ap, ◌∙◌}
use Rattle.std.specs.Prelude.{ℕ, codes}
use Rattle.http1.specs.{Fields.Header, Head.request_text}
use Rattle.gx_page_reader.specs.Requests.{fields_of}
use Rattle.gx_page_reader.proofs.request.write_state_request.Goals as goal

pub returns-in-Ok-clause-written : goal.returns-in-Ok-clause-written
returns-in-Ok-clause-written c =
    let value = c.as_slice.ensures.value ∙ c.in_ok-value.ensures in
    c.in-Ok.ensures.ok
    ∙ ap (λ (fields : List Header). c.args.text.now.items ++ request_text (codes "GET") (codes "/state.json") 1 (fields ++ [])) c.fields_of-fields.ensures
    ∙ ap (λ (v : List ℕ). c.args.text.now.items ++ request_text (codes "GET") (codes "/state.json") 1 (fields_of v)) value

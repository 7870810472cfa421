-- A response is read back.
use Rattle.std.proofs.{Common.{◌≡◌, ◌^◌, ◌<◌, ℕ, List, [], ◌∷◌, length, refl, ap, ◌∙◌}, lemmas.Fmt.decimal_is_IsNumeral}
use Rattle.std.specs.{Prelude.{codes, decimal}, Option.option_to_list}
use Rattle.http1.specs.{Fields.{Header, content_length, known_fields, values_named}, Head.response_head, Text.eq_ignore_case}
use Rattle.http1.specs.declared.fields.ContentLength.TheVariants as Length
use Rattle.http1.proofs.HeadRoundTrip.{response_reads_back}
use Rattle.gx_http.specs.{declared.response.{Content.Content, Status.Status}, Laws.ResponsesReadBack, Responses.{code_of, fields_of, own_field, reason_of}}
use Rattle.gx_http.proofs.Response_sent.{digits_are_number, is_sent}

-- no field of a status's own is a length
own_has_none : (status : Status) → values_named (codes "content-length") (option_to_list (own_field status)) ≡ []
unfolding eq_ignore_case
own_has_none Status.Done = refl
own_has_none Status.SeePage = refl
own_has_none Status.BadRequest = refl
own_has_none Status.Unauthorized = refl
own_has_none Status.Forbidden = refl
own_has_none Status.NotFound = refl
own_has_none (Status.MethodNotAllowed method) = refl
own_has_none Status.TooLarge = refl
own_has_none Status.Misdirected = refl
own_has_none Status.Unavailable = refl

one_length : (status : Status) (content : Content) (n : ℕ) → values_named (codes "content-length") (fields_of status content n) ≡ decimal n ∷ []
unfolding eq_ignore_case
one_length status content n = λ i. decimal n ∷ own_has_none status i

length_is_told : (status : Status) (content : Content) (n : ℕ) → n < 2 ^ 64 → (known_fields (fields_of status content n)).content_length ≡ Length.Value n
unfolding known_fields
length_is_told status content n fits =
    ap content_length (one_length status content n) ∙ rw (digits_are_number n fits) (ap Length.Value (decimal_is_IsNumeral n fits).1)

pub responses_read_back : ResponsesReadBack
responses_read_back status content body fits =
    let back = response_reads_back 1 (code_of status) (reason_of status) (fields_of status content (length body)) body (is_sent status content (length body) fits) in
    record {
      head = response_head 1 (code_of status) (reason_of status) (fields_of status content (length body));
      reads = back.reads;
      code = back.code;
      fields = back.fields;
      told = ap (λ (fields : List Header). (known_fields fields).content_length) back.fields ∙ length_is_told status content (length body) fits;
    }

-- The fields of responses may be sent.
use Rattle.std.proofs.{Common.{◌≡◌, ℕ, ◌^◌, ◌<◌, true, not, ◌&&◌, List, [], ◌∷◌, refl, arith}, lemmas.{Bool.{and_from, lt-ltb, Decides.nat_tests}, Fmt.decimal_is_IsNumeral, List.{Elements.{All-head, All-weaker}, Sums.{AllPass-from_list_all, list_all-from_AllPass}}}}
use Rattle.std.specs.{Prelude.{codes, decimal, reverse, None}, Char.{digit_value, is_ascii_digit}, List.list_all, Option.option_to_list, Str.Parse.AllDigits}
use Rattle.httparse.specs.Grammar.{AllPass, is_ows, is_token_byte, is_value_byte}
use Rattle.httparse.proofs.TrimLemmas.{AllPass-reverse}
use Rattle.http1.specs.{Fields.is_number, Head.{are_headers, head_refusal, is_header, is_status_line, is_trimmed_value, starts_visible}}
use Rattle.gx_http.specs.{declared.{response.{Content.Content, Status.Status}, routes.Method.Method}, Responses.{code_of, fields_of, media_type, own_field, reason_of}}

one_digit : (c : ℕ) → digit_value c < 10 → is_ascii_digit c ≡ true
one_digit c small = grind (arith, nat_tests)

all_digits : (text : List ℕ) → AllDigits 10 text → list_all is_ascii_digit text ≡ true
all_digits [] all = refl
all_digits (c ∷ cs) all = and_from _ _ (one_digit c all.0) (all_digits cs all.1)

is_seen : (c : ℕ) → is_ascii_digit c ≡ true → (not (is_ows c) ≡ true) × (is_value_byte c ≡ true)
is_seen c digit = grind (arith, nat_tests)

begin_seen : (text : List ℕ) → AllPass is_ascii_digit text → starts_visible text ≡ true
begin_seen [] all = refl
begin_seen (c ∷ cs) all = (is_seen c (All-head (λ b. is_ascii_digit b ≡ true) c cs all)).0

-- the digits of a number are a value
digits_are_good : (n : ℕ) → n < 2 ^ 64 → is_trimmed_value (decimal n) ≡ true
digits_are_good n fits =
    let all = AllPass-from_list_all is_ascii_digit (decimal n) (all_digits (decimal n) (decimal_is_IsNumeral n fits).0.1) in
    let values = All-weaker (λ b. is_ascii_digit b ≡ true) (λ b. is_value_byte b ≡ true) (λ b digit. (is_seen b digit).1) (decimal n) all in
    and_from _ _ (begin_seen (decimal n) all)
    (and_from _ _ (begin_seen (reverse (decimal n)) (AllPass-reverse is_ascii_digit (decimal n) all)) (list_all-from_AllPass is_value_byte (decimal n) values))

-- and a length
pub digits_are_number : (n : ℕ) → n < 2 ^ 64 → is_number (decimal n) ≡ true
digits_are_number n fits =
    let numeral = decimal_is_IsNumeral n fits in
    and_from _ _ (lt-ltb _ _ numeral.0.0) (and_from _ _ (all_digits (decimal n) numeral.0.1) (lt-ltb _ _ (omega (arith, numeral.1))))

media_is_good : (content : Content) → is_header (codes "Content-Type", media_type content) ≡ true
unfolding is_token_byte
media_is_good Content.Page = refl
media_is_good Content.Script = refl
media_is_good Content.Style = refl
media_is_good Content.Json = refl
media_is_good Content.Metrics = refl
media_is_good Content.Text = refl

own_is_good : (status : Status) → list_all is_header (option_to_list (own_field status)) ≡ true
unfolding is_token_byte
own_is_good Status.Done = refl
own_is_good Status.SeePage = refl
own_is_good Status.BadRequest = refl
own_is_good Status.Unauthorized = refl
own_is_good Status.Forbidden = refl
own_is_good Status.NotFound = refl
own_is_good (Status.MethodNotAllowed Method.Get) = refl
own_is_good (Status.MethodNotAllowed Method.Post) = refl
own_is_good Status.TooLarge = refl
own_is_good Status.Misdirected = refl
own_is_good Status.Unavailable = refl

line_is_good : (status : Status) → is_status_line 1 (code_of status) (reason_of status) ≡ true
line_is_good Status.Done = refl
line_is_good Status.SeePage = refl
line_is_good Status.BadRequest = refl
line_is_good Status.Unauthorized = refl
line_is_good Status.Forbidden = refl
line_is_good Status.NotFound = refl
line_is_good (Status.MethodNotAllowed method) = refl
line_is_good Status.TooLarge = refl
line_is_good Status.Misdirected = refl
line_is_good Status.Unavailable = refl

fields_are_good : (status : Status) (content : Content) (n : ℕ) → n < 2 ^ 64 → are_headers (fields_of status content n) ≡ true
unfolding are_headers is_token_byte
fields_are_good status content n fits =
    λ i. media_is_good content i && (digits_are_good n fits i && own_is_good status i)

-- no head of a response is refused
pub is_sent : (status : Status) (content : Content) (n : ℕ) → n < 2 ^ 64 → head_refusal (is_status_line 1 (code_of status) (reason_of status)) (fields_of status content n) ≡ None
is_sent status content n fits = rw (line_is_good status, fields_are_good status content n fits) refl

-- What is printed: spaces and visible characters.
use Rattle.std.proofs.{Common.{◌≡◌, ℕ, zero, suc, ◌+◌, ◌-◌, ◌/◌, ◌%◌, ◌^◌, ◌<◌, Bool, true, false, ◌&&◌, cond, List, [], ◌∷◌, ◌++◌, length, replicate, refl, ◌∙◌, arith, decimal}, lemmas.{Bool.{and_parts, and_from, Decides.nat_tests}, Fmt.decimal_by_steps, List.Folds.list_all-append}}
use Rattle.std.specs.{Prelude.{◌==◌, nat_lt, codes, Option, Some, None, unwrap_or}, List.list_all}
use Rattle.gx_money.specs.Amounts.{cents_text, comma, dollars_text, grouped}
use Rattle.gx_units.specs.Spelling.{without_right_spaces, is_visible}
use Rattle.gx_text.specs.{Laws.{JsonIsPrinted, ShownIsVisible}, Moments.{minute_text, moment_text, with_zeros}, Shown.{is_printed, json_string, shown_text, shown_name}, declared.moments.Decimals.TheVariants.Nine}
use Rattle.gx_lines.specs.{Showing.{price_decimals_text, price_text, key_text, text_field, name_field, json_number_field, json_front, json_line}, NameLaws.IsBytes, LineLaws.IsOneLine}
use Rattle.gx_lines.proofs.Names_visible.{kept, names_are_visible}
use Rattle.gx_text.proofs.Shown_visible.{visible_printed}

abbrev pub are_plain : List ℕ → Bool
are_plain bytes = list_all is_printed bytes

all_plain : (bytes : List ℕ) → list_all is_visible bytes ≡ true → are_plain bytes ≡ true
all_plain [] h = refl
all_plain (c ∷ cs) h =
    let parts = and_parts (is_visible c) (list_all is_visible cs) h in
    and_from _ _ (visible_printed c parts.0) (all_plain cs parts.1)

plain_byte : (c : ℕ) → is_printed c ≡ true → nat_lt c 256 ≡ true
plain_byte c h = grind (arith, nat_tests)

plain_bytes : (bytes : List ℕ) → are_plain bytes ≡ true → IsBytes bytes
plain_bytes [] h = refl
plain_bytes (c ∷ cs) h =
    let parts = and_parts (is_printed c) (are_plain cs) h in
    and_from _ _ (plain_byte c parts.0) (plain_bytes cs parts.1)

byte_below : (b : ℕ) → b < 256 → nat_lt b 256 ≡ true
byte_below b h = grind (arith, nat_tests)

pub one_byte : (b : ℕ) → b < 256 → IsBytes (b ∷ [])
one_byte b h = and_from _ _ (byte_below b h) refl

pub joined : (xs ys : List ℕ) → are_plain xs ≡ true → are_plain ys ≡ true → are_plain (xs ++ ys) ≡ true
joined xs ys x y = list_all-append is_printed xs ys ∙ and_from _ _ x y

-- the same as a record, so that a text's parts need not be named
pub record IsPlain (bytes : List ℕ) : Type 0 where
  pub is : are_plain bytes ≡ true

infixl 20 ◌&◌
pub ◌&◌ : {xs ys : List ℕ} → IsPlain xs → IsPlain ys → IsPlain (xs ++ ys)
◌&◌ {xs = xs} {ys = ys} x y = record { is = joined xs ys x.is y.is }

pub plain : (bytes : List ℕ) → are_plain bytes ≡ true → IsPlain bytes
plain bytes h = record { is = h }

digit_plain : (n : ℕ) → n < 10 → is_printed (48 + n) ≡ true
digit_plain n h = grind (arith, nat_tests)

pub numbered : (n : ℕ) → n < 2 ^ 64 → are_plain (decimal n) ≡ true
numbered n h =
    decimal_by_steps (λ m ds. are_plain ds ≡ true) (λ m small. and_from _ _ (digit_plain m small) refl)
    (λ m ds big d. joined ds ((48 + m % 10) ∷ []) d (and_from _ _ (digit_plain (m % 10) (omega arith)) refl)) n h

zeros_plain : (m : ℕ) → are_plain (replicate m 48) ≡ true
zeros_plain zero = refl
zeros_plain (suc m) = zeros_plain m

with_zeros_plain : (n k : ℕ) → k < 2 ^ 64 → are_plain (with_zeros n k) ≡ true
with_zeros_plain n k h = joined (replicate (n - length (decimal k)) 48) (decimal k) (zeros_plain (n - length (decimal k))) (numbered k h)

-- a word, where it is chosen, or what another choice gives
pub chosen : (b : Bool) (xs : List ℕ) (others : Option (List ℕ)) → are_plain xs ≡ true → are_plain (unwrap_or others []) ≡ true
    → are_plain (unwrap_or (cond b (Some xs) others) []) ≡ true
chosen true xs others x y = x
chosen false xs others x y = y

-- plain words, or what stands for them where there are none
pub or_plain : (words : Option (List ℕ)) (none : List ℕ) → are_plain (unwrap_or words []) ≡ true → are_plain none ≡ true
    → are_plain (unwrap_or words none) ≡ true
or_plain (Some words) none w n = w
or_plain None none w n = n

pub or_bytes : (words : Option (List ℕ)) (none : List ℕ) → are_plain (unwrap_or words []) ≡ true → IsBytes none → IsBytes (unwrap_or words none)
or_bytes (Some words) none w n = plain_bytes words w
or_bytes None none w n = n

digits : (n k : ℕ) → k < 2 ^ 64 → IsPlain (with_zeros n k)
digits n k h = plain (with_zeros n k) (with_zeros_plain n k h)

colon : IsPlain (codes ":")
colon = plain (codes ":") refl

pub moment_plain : (moment : ℕ) → moment < 2 ^ 64 → are_plain (moment_text Nine moment) ≡ true
unfolding moment_text minute_text
moment_plain moment h =
    let hours = digits 2 (moment / 60000000000 / 60) (omega (arith, h)) in
    let minutes = digits 2 (moment / 60000000000 % 60) (omega arith) in
    let seconds = digits 2 (moment / 1000000000 % 60) (omega arith) in
    let parts = digits 9 (moment % 1000000000) (omega arith) in
    (hours & colon & minutes & colon & seconds & plain (codes ".") refl & parts).is

comma_plain : (due : Bool) → are_plain (cond due (codes ",") []) ≡ true
comma_plain true = refl
comma_plain false = refl

grouped_plain : (ds : List ℕ) → are_plain ds ≡ true → are_plain (grouped ds) ≡ true
grouped_plain [] h = refl
grouped_plain (d ∷ ds) h =
    let parts = and_parts (is_printed d) (are_plain ds) h in
    and_from _ _ parts.0 (joined (comma (length ds)) (grouped ds) (comma_plain (nat_lt 0 (length ds) && length ds % 3 == 0)) (grouped_plain ds parts.1))

cents_plain : (part : ℕ) (cents : Bool) → part < 10000 → are_plain (cond cents (with_zeros 2 (part / 100)) (with_zeros 4 part)) ≡ true
cents_plain part true h = with_zeros_plain 2 (part / 100) (omega (arith, h))
cents_plain part false h = with_zeros_plain 4 part (omega (arith, h))

pub dollars_plain : (amount : ℕ) → amount < 2 ^ 64 → are_plain (dollars_text amount) ≡ true
unfolding dollars_text
dollars_plain amount h =
    let whole = grouped_plain (decimal (amount / 10000)) (numbered (amount / 10000) (omega (arith, h))) in
    let cents = cents_plain (amount % 10000) (amount % 10000 % 100 == 0) (omega arith) in
    (plain (codes "$") refl & plain (grouped (decimal (amount / 10000))) whole & plain (codes ".") refl
    & plain (cents_text (amount % 10000)) cents).is

part_plain : (part : ℕ) (two three : Bool) → part < 2 ^ 64
    → are_plain (cond two (with_zeros 2 (part / 100)) (cond three (with_zeros 3 (part / 10)) (with_zeros 4 part))) ≡ true
part_plain part true three h = with_zeros_plain 2 (part / 100) (omega (arith, h))
part_plain part false true h = with_zeros_plain 3 (part / 10) (omega (arith, h))
part_plain part false false h = with_zeros_plain 4 part h

pub price_plain : (price : ℕ) → price < 2 ^ 64 → are_plain (price_text price) ≡ true
unfolding price_text
price_plain price h =
    let part = part_plain (price % 10000) (price % 10000 % 100 == 0) (price % 10000 % 10 == 0) (omega arith) in
    (plain (decimal (price / 10000)) (numbered (price / 10000) (omega (arith, h))) & plain (codes ".") refl & plain (price_decimals_text (price % 10000)) part).is

key_plain : (key : List ℕ) → are_plain key ≡ true → are_plain (key_text key) ≡ true
unfolding key_text
key_plain key h = search (joined, h)

number_field_plain : (key value : List ℕ) → are_plain key ≡ true → are_plain value ≡ true → are_plain (json_number_field key value) ≡ true
unfolding json_number_field
number_field_plain key value k v = search (joined, key_plain, k, v)

pub decimal_field : (key : List ℕ) (n : ℕ) → are_plain key ≡ true → n < 2 ^ 64 → IsPlain (json_number_field key (decimal n))
decimal_field key n k h = plain _ (number_field_plain key (decimal n) k (numbered n h))

pub price_field : (key : List ℕ) (price : ℕ) → are_plain key ≡ true → price < 2 ^ 64 → IsPlain (json_number_field key (price_text price))
price_field key price k h = plain _ (number_field_plain key (price_text price) k (price_plain price h))

module _ (seen : ShownIsVisible) where
  pub shown_plain : (bytes : List ℕ) → IsBytes bytes → are_plain (shown_text bytes) ≡ true
  shown_plain bytes h = all_plain (shown_text bytes) (seen bytes h)

  pub named : (name : List ℕ) → IsBytes name → are_plain (shown_name name) ≡ true
  named name h = all_plain (shown_name name) (names_are_visible seen name h)

module _ (printed : JsonIsPrinted) where
  pub text_field_plain : (key text : List ℕ) → are_plain key ≡ true → IsBytes text → IsPlain (text_field key text)
  unfolding text_field
  text_field_plain key text k h = plain _ (joined (key_text key) (json_string text) (key_plain key k) (printed text h))

  pub name_field_plain : (key name : List ℕ) → are_plain key ≡ true → IsBytes name → IsPlain (name_field key name)
  name_field_plain key name k h = text_field_plain key (without_right_spaces name) k (kept name h)

  pub word_field : (key word : List ℕ) → are_plain key ≡ true → are_plain word ≡ true → IsPlain (text_field key word)
  word_field key word k h = text_field_plain key word k (plain_bytes word h)

  front_plain : (moment : ℕ) (event : List ℕ) → moment < 2 ^ 64 → are_plain event ≡ true → IsPlain (json_front moment event)
  unfolding json_front
  front_plain moment event h e =
      plain _ (plain (codes "{\"at\":\"") refl & plain (moment_text Nine moment) (moment_plain moment h) & plain (codes "\"") refl
      & word_field (codes "event") event refl e).is

  -- a JSON line whose parts are plain
  pub json_is_line : (moment : ℕ) (event fields : List ℕ) → moment < 2 ^ 64 → are_plain event ≡ true → are_plain fields ≡ true
      → IsOneLine (json_line moment event fields)
  unfolding json_line
  json_is_line moment event fields h e f = record {
    text = json_front moment event ++ fields ++ codes "}";
    ends = refl;
    plain = (front_plain moment event h e & plain fields f & plain (codes "}") refl).is;
  }

-- Each event is one line.
use Rattle.std.proofs.{Common.{◌≡◌, ℕ, zero, suc, ◌-◌, ◌/◌, ◌%◌, Bool, true, false, not, cond, List, [], ◌∷◌, ◌++◌, codes, decimal, length, replicate, refl, ◌∙◌, ap, sym, append_assoc, true≢false, arith}, lemmas.{Bool.Decides.nat_tests, List.Folds.list_all-append}}
use Rattle.std.specs.{Prelude.{◌==◌, ◌&&◌, ◌||◌, flat_map, nat_lt, Option, Some, None}, Fmt.{digits, digits_onto, digit_glyph}, List.list_all, Option.option_map_or}
use Rattle.gx_money.specs.Amounts.{cents_text, comma, dollars_text, grouped}
use Rattle.gx_units.specs.Spelling.{without_right_spaces, is_visible}
use Rattle.gx_desk.specs.{declared.Action.Action, Names.command_word}
use Rattle.gx_text.specs.{Moments.{minute_text, moment_text, with_zeros}, Shown.{hex_digit, hex_pair, is_printed, json_byte, shown_byte, shown_name}, declared.{moments.Decimals.{TheVariants.{Six, Nine}, Decimals}, form.Form.TheVariants.{Text, Json}}}
use Rattle.gx_events.specs.{declared.{event.Event.Event, limits.RuleLimit.RuleLimit}, Known.limit_in_entry, Words.{asked_text, done_text, event_text, from_text, is_of_money, limit_text, to_text}, Fields.{event_fields, named_fields}, Laws.EventsAreLines, Lines.{event_line, record_field, record_text}}

-- without a line's end
abbrev inside : List ℕ → Bool
inside text = list_all (λ byte. not (byte == 10)) text

both : (xs ys : List ℕ) → inside xs ≡ true → inside ys ≡ true → inside (xs ++ ys) ≡ true
both xs ys x y = list_all-append (λ byte. not (byte == 10)) xs ys ∙ ap (λ b. b && inside ys) x ∙ y

one : (byte : ℕ) (rest : List ℕ) → not (byte == 10) ≡ true → inside rest ≡ true → inside (byte ∷ rest) ≡ true
one byte rest b r = ap (λ v. v && inside rest) b ∙ r

-- numbers

glyph_inside : (n : ℕ) → not (digit_glyph false (n % 10) == 10) ≡ true
glyph_inside n = grind (arith, nat_tests)

digits_inside : (k n : ℕ) (acc : List ℕ) → inside acc ≡ true → inside (digits_onto k 10 false n acc) ≡ true
digits_inside zero n acc a = a
digits_inside (suc k) n acc a = by_last (n / 10 == 0) (one d acc (glyph_inside n) a) (digits_inside k (n / 10) (d ∷ acc) (one d acc (glyph_inside n) a))
  where
    d : ℕ
    d = digit_glyph false (n % 10)

    by_last : (b : Bool) → inside (digit_glyph false (n % 10) ∷ acc) ≡ true → inside (digits_onto k 10 false (n / 10) (digit_glyph false (n % 10) ∷ acc)) ≡ true
        → inside (cond b (digit_glyph false (n % 10) ∷ acc) (digits_onto k 10 false (n / 10) (digit_glyph false (n % 10) ∷ acc))) ≡ true
    by_last true here more = here
    by_last false here more = more

decimal_inside : (n : ℕ) → inside (decimal n) ≡ true
unfolding digits
decimal_inside n = digits_inside 64 n [] refl

zeros_inside : (n : ℕ) → inside (replicate n 48) ≡ true
zeros_inside zero = refl
zeros_inside (suc n) = zeros_inside n

padded_inside : (width n : ℕ) → inside (with_zeros width n) ≡ true
padded_inside width n = both (replicate (width - length (decimal n)) 48) (decimal n) (zeros_inside (width - length (decimal n))) (decimal_inside n)

minute_inside : (minute : ℕ) → inside (minute_text minute) ≡ true
unfolding minute_text
minute_inside minute =
    both (with_zeros 2 (minute / 60) ++ codes ":") (with_zeros 2 (minute % 60))
    (both (with_zeros 2 (minute / 60)) (codes ":") (padded_inside 2 (minute / 60)) refl)
    (padded_inside 2 (minute % 60))

-- money

comma_inside : (behind : ℕ) → inside (comma behind) ≡ true
comma_inside behind = by_kind (nat_lt 0 behind && behind % 3 == 0)
  where
    by_kind : (due : Bool) → inside (cond due (codes ",") []) ≡ true
    by_kind true = refl
    by_kind false = refl

grouped_inside : (ds : List ℕ) → inside ds ≡ true → inside (grouped ds) ≡ true
grouped_inside [] are = refl
grouped_inside (d ∷ ds) are =
    one d (comma (length ds) ++ grouped ds) (first (not (d == 10)) (inside ds) are)
    (both (comma (length ds)) (grouped ds) (comma_inside (length ds)) (grouped_inside ds (rest (not (d == 10)) (inside ds) are)))
  where
    first : (a b : Bool) → (a && b) ≡ true → a ≡ true
    first true b is = refl
    first false b is = is

    rest : (a b : Bool) → (a && b) ≡ true → b ≡ true
    rest true b is = is
    rest false b is = absurd (true≢false (sym is))

cents_inside : (part : ℕ) → inside (cents_text part) ≡ true
cents_inside part = by_kind (part % 100 == 0)
  where
    by_kind : (whole : Bool) → inside (cond whole (with_zeros 2 (part / 100)) (with_zeros 4 part)) ≡ true
    by_kind true = padded_inside 2 (part / 100)
    by_kind false = padded_inside 4 part

dollars_inside : (amount : ℕ) → inside (dollars_text amount) ≡ true
unfolding dollars_text
dollars_inside amount =
    both (codes "$" ++ grouped (decimal (amount / 10000)) ++ codes ".") (cents_text (amount % 10000))
    (both (codes "$" ++ grouped (decimal (amount / 10000))) (codes ".")
    (both (codes "$") (grouped (decimal (amount / 10000))) refl (grouped_inside (decimal (amount / 10000)) (decimal_inside (amount / 10000))))
    refl)
    (cents_inside (amount % 10000))

limit_inside : (earlier : Option RuleLimit) (limit : ℕ) → inside (limit_text earlier limit) ≡ true
limit_inside earlier limit = by_kind (is_of_money earlier)
  where
    by_kind : (is_money : Bool) → inside (cond is_money (dollars_text limit) (decimal limit)) ≡ true
    by_kind true = dollars_inside limit
    by_kind false = decimal_inside limit

to_inside : (earlier : Option RuleLimit) (limit : ℕ) → inside (to_text earlier limit) ≡ true
to_inside earlier limit = limit_inside earlier limit

from_inside : (earlier : Option RuleLimit) → inside (from_text earlier) ≡ true
from_inside earlier = by_limit (limit_in_entry earlier)
  where
    by_limit : (limit : Option ℕ) → inside (option_map_or (λ l. codes " from " ++ limit_text earlier l) limit []) ≡ true
    by_limit None = refl
    by_limit (Some limit) = limit_inside earlier limit

-- names

hex_inside : (digit : ℕ) → not (hex_digit digit == 10) ≡ true
hex_inside digit = grind (arith, nat_tests)

pair_inside : (byte : ℕ) → inside (hex_pair byte) ≡ true
pair_inside byte = one (hex_digit (byte / 16)) (hex_digit (byte % 16) ∷ []) (hex_inside (byte / 16)) (one (hex_digit (byte % 16)) [] (hex_inside (byte % 16)) refl)

visible_inside : (byte : ℕ) → is_visible byte ≡ true → not (byte == 10) ≡ true
visible_inside byte is = grind (arith, nat_tests)

printed_inside : (byte : ℕ) → is_printed byte ≡ true → not (byte == 10) ≡ true
printed_inside byte is = grind (arith, nat_tests)

special_inside : (byte : ℕ) → (byte == 34 || byte == 92) ≡ true → not (byte == 10) ≡ true
special_inside byte is = grind (arith, nat_tests)

shown_byte_inside : (byte : ℕ) → inside (shown_byte byte) ≡ true
shown_byte_inside byte = by_kind (is_visible byte) (byte == 92) refl
  where
    by_kind : (visible escape : Bool) → is_visible byte ≡ visible → inside (cond (visible && not escape) (byte ∷ []) (codes "\\x" ++ hex_pair byte)) ≡ true
    by_kind true false is = one byte [] (visible_inside byte is) refl
    by_kind true true is = pair_inside byte
    by_kind false escape is = pair_inside byte

json_byte_inside : (byte : ℕ) → inside (json_byte byte) ≡ true
json_byte_inside byte = by_kind (byte == 34 || byte == 92) (is_printed byte) refl refl
  where
    by_kind : (special printed : Bool) → (byte == 34 || byte == 92) ≡ special → is_printed byte ≡ printed
        → inside (cond special (92 ∷ byte ∷ []) (cond printed (byte ∷ []) (codes "\\u00" ++ hex_pair byte))) ≡ true
    by_kind true printed special is = one byte [] (special_inside byte special) refl
    by_kind false true special is = one byte [] (printed_inside byte is) refl
    by_kind false false special is = pair_inside byte

all_inside : (shows : ℕ → List ℕ) → ((byte : ℕ) → inside (shows byte) ≡ true) → (bytes : List ℕ) → inside (flat_map shows bytes) ≡ true
all_inside shows each [] = refl
all_inside shows each (byte ∷ bytes) = both (shows byte) (flat_map shows bytes) (each byte) (all_inside shows each bytes)

name_inside : (name : List ℕ) → inside (flat_map shown_byte (without_right_spaces name)) ≡ true
name_inside name = all_inside shown_byte shown_byte_inside (without_right_spaces name)

json_inside : (name : List ℕ) → inside (flat_map json_byte (without_right_spaces name)) ≡ true
json_inside name = all_inside json_byte json_byte_inside (without_right_spaces name)

-- events

done_inside : (action : Action) (earlier : Option RuleLimit) → inside (done_text action earlier) ≡ true
unfolding done_text
done_inside (Action.Kill account) earlier = simp (list_all-append, name_inside)
done_inside (Action.Lift account) earlier = simp (list_all-append, name_inside)
done_inside (Action.SetLimit rule limit) earlier =
    both (codes "limit of " ++ shown_name rule.bytes ++ codes " set" ++ from_text earlier) (to_text earlier limit)
    (both (codes "limit of " ++ shown_name rule.bytes ++ codes " set") (from_text earlier)
    (both (codes "limit of " ++ shown_name rule.bytes) (codes " set") (name_inside rule.bytes) refl)
    (from_inside earlier))
    (to_inside earlier limit)
done_inside (Action.Restrict rule stock) earlier = simp (list_all-append, name_inside)
done_inside (Action.Unrestrict rule stock) earlier = simp (list_all-append, name_inside)
done_inside (Action.Grant reader account) earlier = simp (list_all-append, name_inside)
done_inside (Action.Revoke reader account) earlier = simp (list_all-append, name_inside)
done_inside Action.CloseDay earlier = refl

asked_inside : (action : Action) (earlier : Option RuleLimit) → inside (asked_text action earlier) ≡ true
unfolding asked_text
asked_inside (Action.Kill account) earlier = name_inside account.bytes
asked_inside (Action.Lift account) earlier = name_inside account.bytes
asked_inside (Action.SetLimit rule limit) earlier =
    both (codes "Set Limit of " ++ shown_name rule.bytes) (to_text earlier limit) (name_inside rule.bytes) (to_inside earlier limit)
asked_inside (Action.Restrict rule stock) earlier = simp (list_all-append, name_inside)
asked_inside (Action.Unrestrict rule stock) earlier = simp (list_all-append, name_inside)
asked_inside (Action.Grant reader account) earlier = simp (list_all-append, name_inside)
asked_inside (Action.Revoke reader account) earlier = simp (list_all-append, name_inside)
asked_inside Action.CloseDay earlier = refl

fields_inside : (action : Action) (earlier : Option ℕ) → inside (named_fields action earlier) ≡ true
unfolding named_fields
fields_inside (Action.Kill account) earlier = simp (list_all-append, json_inside)
fields_inside (Action.Lift account) earlier = simp (list_all-append, json_inside)
fields_inside (Action.SetLimit rule limit) None = simp (list_all-append, json_inside, decimal_inside)
fields_inside (Action.SetLimit rule limit) (Some before) = simp (list_all-append, json_inside, decimal_inside)
fields_inside (Action.Restrict rule stock) earlier = simp (list_all-append, json_inside)
fields_inside (Action.Unrestrict rule stock) earlier = simp (list_all-append, json_inside)
fields_inside (Action.Grant reader account) earlier = simp (list_all-append, json_inside)
fields_inside (Action.Revoke reader account) earlier = simp (list_all-append, json_inside)
fields_inside Action.CloseDay earlier = refl

text_inside : (event : Event) → inside (event_text event) ≡ true
unfolding event_text
text_inside (Event.LoggedIn user line) = simp (list_all-append, name_inside, decimal_inside)
text_inside (Event.LoggedOut user line) = simp (list_all-append, name_inside, decimal_inside)
text_inside (Event.LoginDenied user line rule) = simp (list_all-append, name_inside, decimal_inside)
text_inside (Event.MoreDenied count minute) = simp (list_all-append, minute_inside, decimal_inside)
text_inside (Event.Commanded user action earlier) = simp (list_all-append, done_inside, name_inside)
text_inside (Event.CommandDenied user action rule earlier) = simp (list_all-append, asked_inside, name_inside)
text_inside (Event.RecordsUsed percent left) = simp (list_all-append, decimal_inside)
text_inside (Event.LinesUsed percent left) = simp (list_all-append, decimal_inside)

command_inside : (action : Action) → inside (command_word action) ≡ true
command_inside (Action.Kill account) = refl
command_inside (Action.Lift account) = refl
command_inside (Action.SetLimit rule limit) = refl
command_inside (Action.Restrict rule stock) = refl
command_inside (Action.Unrestrict rule stock) = refl
command_inside (Action.Grant reader account) = refl
command_inside (Action.Revoke reader account) = refl
command_inside Action.CloseDay = refl

json_fields_inside : (event : Event) → inside (event_fields event) ≡ true
unfolding event_fields
json_fields_inside (Event.LoggedIn user line) = simp (list_all-append, json_inside, decimal_inside)
json_fields_inside (Event.LoggedOut user line) = simp (list_all-append, json_inside, decimal_inside)
json_fields_inside (Event.LoginDenied user line rule) = simp (list_all-append, json_inside, decimal_inside)
json_fields_inside (Event.MoreDenied count minute) = simp (list_all-append, minute_inside, decimal_inside)
json_fields_inside (Event.Commanded user action earlier) = simp (list_all-append, command_inside, json_inside, fields_inside)
json_fields_inside (Event.CommandDenied user action rule earlier) = simp (list_all-append, command_inside, json_inside, fields_inside)
json_fields_inside (Event.RecordsUsed percent left) = simp (list_all-append, decimal_inside)
json_fields_inside (Event.LinesUsed percent left) = simp (list_all-append, decimal_inside)

record_text_inside : (event : Event) (number : ℕ) → inside (record_text event number) ≡ true
record_text_inside (Event.LoggedIn user line) number = decimal_inside number
record_text_inside (Event.LoggedOut user line) number = decimal_inside number
record_text_inside (Event.LoginDenied user line rule) number = decimal_inside number
record_text_inside (Event.MoreDenied count minute) number = refl
record_text_inside (Event.Commanded user action earlier) number = decimal_inside number
record_text_inside (Event.CommandDenied user action rule earlier) number = decimal_inside number
record_text_inside (Event.RecordsUsed percent left) number = decimal_inside number
record_text_inside (Event.LinesUsed percent left) number = decimal_inside number

record_field_inside : (event : Event) (number : ℕ) → inside (record_field event number) ≡ true
record_field_inside (Event.LoggedIn user line) number = decimal_inside number
record_field_inside (Event.LoggedOut user line) number = decimal_inside number
record_field_inside (Event.LoginDenied user line rule) number = decimal_inside number
record_field_inside (Event.MoreDenied count minute) number = refl
record_field_inside (Event.Commanded user action earlier) number = decimal_inside number
record_field_inside (Event.CommandDenied user action rule earlier) number = decimal_inside number
record_field_inside (Event.RecordsUsed percent left) number = decimal_inside number
record_field_inside (Event.LinesUsed percent left) number = decimal_inside number

moment_inside : (decimals : Decimals) (moment : ℕ) → inside (moment_text decimals moment) ≡ true
unfolding moment_text
moment_inside Six moment = simp (list_all-append, minute_inside, zeros_inside, decimal_inside)
moment_inside Nine moment = simp (list_all-append, minute_inside, zeros_inside, decimal_inside)

pub events_are_lines : EventsAreLines
unfolding event_line
events_are_lines Text moment number event = record {
  words = moment_text Six moment ++ codes " " ++ event_text event ++ record_text event number;
  ended = refl;
  no_other =
      both (moment_text Six moment ++ codes " " ++ event_text event) (record_text event number)
      (both (moment_text Six moment ++ codes " ") (event_text event)
      (both (moment_text Six moment) (codes " ") (moment_inside Six moment) refl)
      (text_inside event))
      (record_text_inside event number);
}
events_are_lines Json moment number event =
    let front : List ℕ = codes "{\"at\":\"" ++ moment_text Nine moment ++ codes "\"" ++ event_fields event ++ record_field event number in
    record {
      words = front ++ codes "}";
      ended = sym (append_assoc front (codes "}") (10 ∷ []));
      no_other =
          both front (codes "}")
          (both (codes "{\"at\":\"" ++ moment_text Nine moment ++ codes "\"" ++ event_fields event) (record_field event number)
          (both (codes "{\"at\":\"" ++ moment_text Nine moment ++ codes "\"") (event_fields event)
          (both (codes "{\"at\":\"" ++ moment_text Nine moment) (codes "\"") (moment_inside Nine moment) refl)
          (json_fields_inside event))
          (record_field_inside event number))
          refl;
    }

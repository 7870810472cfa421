use Rattle.std.proofs.Common.{◌≡◌, ◌<◌, ◌^◌, IsTrue, take}
use Rattle.std.specs.{List.list_all, Char.is_ascii_digit}
use Rattle.gx_soup.specs.Login.{spelled_number}
use Rattle.gx_script_text.proofs.words.first_digits.Given as goal

abbrev pub invariant-loop-digit : goal.invariant-loop-digit
invariant-loop-digit l = record {
  counted : l.count ≡ l.digit-index;
  digits : IsTrue (list_all is_ascii_digit (take l.digit-index l.front));
  reads : l.number ≡ spelled_number (take l.digit-index l.front);
  small : l.number < 10 ^ l.digit-index;
}

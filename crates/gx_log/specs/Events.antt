-- The line of an event.
use Rattle.std.specs.Prelude.{ℕ, List, ◌++◌, codes, Option, Some, None}
use Rattle.gx_text.specs.{declared.{form.Form.{Form, TheVariants.{Text, Json}}, moments.Decimals.TheVariants.{Nine, Six}}, Moments.moment_text, Shown.json_string}

-- where no log is asked for, the words alone; in a text the moment and the words; in JSON an object of the moment, the kind and the words
unfoldable pub event_line : Option Form → ℕ → List ℕ → List ℕ → List ℕ
event_line None moment kind words = words ++ codes "\n"
event_line (Some Text) moment kind words = moment_text Six moment ++ codes " " ++ words ++ codes "\n"
event_line (Some Json) moment kind words =
    codes "{\"at\":\"" ++ moment_text Nine moment ++ codes "\",\"event\":" ++ json_string kind ++ codes ",\"text\":" ++ json_string words ++ codes "}\n"

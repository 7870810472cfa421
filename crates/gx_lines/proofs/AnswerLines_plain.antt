-- Whatever names and numbers an answer shows, its line is one line.
use Rattle.std.proofs.Common.{◌≡◌, ℕ, ◌^◌, ◌<◌, Bool, true, false, List, [], ◌∷◌, ◌++◌, refl}
use Rattle.std.specs.Prelude.{◌==◌, codes, None, unwrap_or}
use Rattle.gx_desk.specs.{declared.{Action.Action, Answer.Answer, AnswerCode.AnswerCode}, Messages.{kill, lift, set_limit, restrict, unrestrict, grant, revoke, close_day}, Writing.answer_code, Names.command_word}
use Rattle.gx_text.specs.{Laws.{JsonIsPrinted, ShownIsVisible}, Shown.{shown_text, shown_name}, declared.form.Form.TheVariants.{Text, Json}}
use Rattle.gx_lines.specs.{NameLaws.IsBytes, AnswerLines.{limit_is_text, limit_set_text, done_text, partly_text, capitals_hint, unknown_text, power_word, powerless_text, foreign_text, unchanged_text, record_text, denied_text, answered_text, account_field, stock_field, rule_field, reader_field, named_fields, answer_fields, type_word, type_text, type_field, earlier_text, earlier_fields}, declared.limits.LimitForm.LimitForm, LineLaws.{IsActionInRange, IsFormInRange, IsAnswerInRange, AnswersAreOneLine, EarlierAnswersAreOneLine}}
use Rattle.gx_lines.proofs.Text_plain.{are_plain, dollars_plain, joined, numbered, moment_plain, IsPlain, ◌&◌, plain, chosen, or_plain, or_bytes, one_byte, decimal_field, shown_plain, named, text_field_plain, name_field_plain, word_field, json_is_line}

hint_plain : (in_capitals : Bool) → are_plain (capitals_hint in_capitals) ≡ true
unfolding capitals_hint
hint_plain true = refl
hint_plain false = refl

power_plain : (asked : Action) → are_plain (power_word asked) ≡ true
unfolding power_word
power_plain (Action.Kill account) = refl
power_plain (Action.Lift account) = refl
power_plain (Action.SetLimit rule limit) = refl
power_plain (Action.Restrict rule stock) = refl
power_plain (Action.Unrestrict rule stock) = refl
power_plain (Action.Grant reader account) = refl
power_plain (Action.Revoke reader account) = refl
power_plain Action.CloseDay = refl

powerless_plain : (asked : Action) → are_plain (powerless_text asked) ≡ true
unfolding powerless_text
powerless_plain asked = search (joined, power_plain)

record_plain : (moment number : ℕ) → moment < 2 ^ 64 → number < 2 ^ 64 → are_plain (record_text moment number) ≡ true
record_plain moment number m n = search (joined, numbered, moment_plain, m, n)

word_plain : (asked : Action) → are_plain (command_word asked) ≡ true
word_plain (Action.Kill account) = refl
word_plain (Action.Lift account) = refl
word_plain (Action.SetLimit rule limit) = refl
word_plain (Action.Restrict rule stock) = refl
word_plain (Action.Unrestrict rule stock) = refl
word_plain (Action.Grant reader account) = refl
word_plain (Action.Revoke reader account) = refl
word_plain Action.CloseDay = refl

code_plain : (code : AnswerCode) → are_plain (answer_code code) ≡ true
code_plain AnswerCode.Done = refl
code_plain AnswerCode.PartlyLifted = refl
code_plain AnswerCode.UnknownName = refl
code_plain AnswerCode.NoPower = refl
code_plain AnswerCode.NotHisAccount = refl
code_plain AnswerCode.NoChange = refl

type_word_plain : (kind : ℕ) → are_plain (unwrap_or (type_word kind) []) ≡ true
unfolding type_word
type_word_plain kind =
    chosen (kind == kill.kind) _ _ refl (chosen (kind == lift.kind) _ _ refl (chosen (kind == set_limit.kind) _ _ refl
    (chosen (kind == restrict.kind) _ _ refl (chosen (kind == unrestrict.kind) _ _ refl (chosen (kind == grant.kind) _ _ refl
    (chosen (kind == revoke.kind) _ _ refl (chosen (kind == close_day.kind) _ None refl refl)))))))

module _ (seen : ShownIsVisible) where
  is_plain : (told : LimitForm) (rule : List ℕ) (limit : ℕ) → IsBytes rule → limit < 2 ^ 64 → are_plain (limit_is_text told rule limit) ≡ true
  is_plain LimitForm.Number rule limit r h = search (joined, named seen, numbered, r, h)
  is_plain LimitForm.Dollars rule limit r h = search (joined, named seen, dollars_plain, r, h)
  is_plain (LimitForm.DollarsFrom before) rule limit r h = search (joined, named seen, dollars_plain, r, h)

  set_plain : (told : LimitForm) (rule : List ℕ) (limit : ℕ) → IsFormInRange told → IsBytes rule → limit < 2 ^ 64
      → are_plain (limit_set_text told rule limit) ≡ true
  set_plain LimitForm.Number rule limit f r h = is_plain LimitForm.Number rule limit r h
  set_plain LimitForm.Dollars rule limit f r h = is_plain LimitForm.Dollars rule limit r h
  set_plain (LimitForm.DollarsFrom before) rule limit f r h = search (joined, named seen, dollars_plain, f, r, h)

  done_plain : (told : LimitForm) (asked : Action) → IsFormInRange told → IsActionInRange asked → are_plain (done_text told asked) ≡ true
  unfolding done_text
  done_plain told (Action.Kill account) f h = search (joined, named seen, h)
  done_plain told (Action.Lift account) f h = search (joined, named seen, h)
  done_plain told (Action.SetLimit rule limit) f h = set_plain told rule.bytes limit f h.0 h.1
  done_plain told (Action.Restrict rule stock) f h = search (joined, named seen, h)
  done_plain told (Action.Unrestrict rule stock) f h = search (joined, named seen, h)
  done_plain told (Action.Grant reader account) f h = search (joined, named seen, h)
  done_plain told (Action.Revoke reader account) f h = search (joined, named seen, h)
  done_plain told Action.CloseDay f h = refl

  partly_plain : (told : LimitForm) (asked : Action) → IsFormInRange told → IsActionInRange asked → are_plain (partly_text told asked) ≡ true
  unfolding partly_text
  partly_plain told (Action.Lift account) f h = search (joined, named seen, h)
  partly_plain told (Action.Kill account) f h = joined (done_text told (Action.Kill account)) (codes " in part") (done_plain told _ f h) refl
  partly_plain told (Action.SetLimit rule limit) f h = joined (done_text told (Action.SetLimit rule limit)) (codes " in part") (done_plain told _ f h) refl
  partly_plain told (Action.Restrict rule stock) f h = joined (done_text told (Action.Restrict rule stock)) (codes " in part") (done_plain told _ f h) refl
  partly_plain told (Action.Unrestrict rule stock) f h = joined (done_text told (Action.Unrestrict rule stock)) (codes " in part") (done_plain told _ f h) refl
  partly_plain told (Action.Grant reader account) f h = joined (done_text told (Action.Grant reader account)) (codes " in part") (done_plain told _ f h) refl
  partly_plain told (Action.Revoke reader account) f h = joined (done_text told (Action.Revoke reader account)) (codes " in part") (done_plain told _ f h) refl
  partly_plain told Action.CloseDay f h = joined (done_text told Action.CloseDay) (codes " in part") (done_plain told Action.CloseDay f h) refl

  unknown_plain : (asked : Action) → IsActionInRange asked → are_plain (unknown_text asked) ≡ true
  unfolding unknown_text
  unknown_plain (Action.Kill account) h = search (joined, named seen, hint_plain, h)
  unknown_plain (Action.Lift account) h = search (joined, named seen, hint_plain, h)
  unknown_plain (Action.SetLimit rule limit) h = search (joined, named seen, hint_plain, h)
  unknown_plain (Action.Restrict rule stock) h = search (joined, named seen, hint_plain, h)
  unknown_plain (Action.Unrestrict rule stock) h = search (joined, named seen, hint_plain, h)
  unknown_plain (Action.Grant reader account) h = search (joined, named seen, hint_plain, h)
  unknown_plain (Action.Revoke reader account) h = search (joined, named seen, hint_plain, h)
  unknown_plain Action.CloseDay h = refl

  foreign_plain : (asked : Action) → IsActionInRange asked → are_plain (foreign_text asked) ≡ true
  unfolding foreign_text
  foreign_plain (Action.Kill account) h = search (joined, named seen, h)
  foreign_plain (Action.Lift account) h = search (joined, named seen, h)
  foreign_plain (Action.SetLimit rule limit) h = search (joined, named seen, h)
  foreign_plain (Action.Restrict rule stock) h = search (joined, named seen, h)
  foreign_plain (Action.Unrestrict rule stock) h = search (joined, named seen, h)
  foreign_plain (Action.Grant reader account) h = search (joined, named seen, h)
  foreign_plain (Action.Revoke reader account) h = search (joined, named seen, h)
  foreign_plain Action.CloseDay h = refl

  unchanged_plain : (told : LimitForm) (asked : Action) → IsFormInRange told → IsActionInRange asked → are_plain (unchanged_text told asked) ≡ true
  unfolding unchanged_text
  unchanged_plain told (Action.Kill account) f h = search (joined, named seen, h)
  unchanged_plain told (Action.Lift account) f h = search (joined, named seen, h)
  unchanged_plain told (Action.SetLimit rule limit) f h =
      joined (limit_is_text told rule.bytes limit) (codes " already") (is_plain told rule.bytes limit h.0 h.1) refl
  unchanged_plain told (Action.Restrict rule stock) f h = search (joined, named seen, h)
  unchanged_plain told (Action.Unrestrict rule stock) f h = search (joined, named seen, h)
  unchanged_plain told (Action.Grant reader account) f h = search (joined, named seen, h)
  unchanged_plain told (Action.Revoke reader account) f h = search (joined, named seen, h)
  unchanged_plain told Action.CloseDay f h = refl

  denied_plain : (told : LimitForm) (asked : Action) (code : AnswerCode) → IsFormInRange told → IsActionInRange asked
      → are_plain (denied_text told asked code) ≡ true
  unfolding denied_text
  denied_plain told asked AnswerCode.Done f h = refl
  denied_plain told asked AnswerCode.PartlyLifted f h = refl
  denied_plain told asked AnswerCode.UnknownName f h = search (unknown_plain, h)
  denied_plain told asked AnswerCode.NoPower f h = search powerless_plain
  denied_plain told asked AnswerCode.NotHisAccount f h = search (foreign_plain, h)
  denied_plain told asked AnswerCode.NoChange f h = search (unchanged_plain, f, h)

  answered_plain : (told : LimitForm) (moment : ℕ) (asked : Action) (number : ℕ) (code : AnswerCode) → moment < 2 ^ 64 → IsFormInRange told
      → IsActionInRange asked → number < 2 ^ 64 → are_plain (answered_text told moment asked number code) ≡ true
  unfolding answered_text
  answered_plain told moment asked number AnswerCode.Done m f h n =
      joined (done_text told asked) (record_text moment number) (done_plain told asked f h) (record_plain moment number m n)
  answered_plain told moment asked number AnswerCode.PartlyLifted m f h n =
      (plain (partly_text told asked) (partly_plain told asked f h) & plain (record_text moment number) (record_plain moment number m n)
      & plain (codes "; another officer has to lift it too") refl).is
  answered_plain told moment asked number AnswerCode.UnknownName m f h n = denied_plain told asked AnswerCode.UnknownName f h
  answered_plain told moment asked number AnswerCode.NoPower m f h n = denied_plain told asked AnswerCode.NoPower f h
  answered_plain told moment asked number AnswerCode.NotHisAccount m f h n = denied_plain told asked AnswerCode.NotHisAccount f h
  answered_plain told moment asked number AnswerCode.NoChange m f h n = denied_plain told asked AnswerCode.NoChange f h

  type_plain : (kind : ℕ) → kind < 256 → are_plain (type_text kind) ≡ true
  type_plain kind h =
      or_plain (type_word kind) (codes "command " ++ shown_text (kind ∷ [])) (type_word_plain kind)
      (joined (codes "command ") (shown_text (kind ∷ [])) refl (shown_plain seen (kind ∷ []) (one_byte kind h)))

  earlier_plain : (answer : Answer) → IsAnswerInRange answer → are_plain (earlier_text answer) ≡ true
  unfolding earlier_text
  earlier_plain answer r =
      (plain (type_text answer.command_type) (type_plain answer.command_type r.command_type) & plain (codes " with tag ") refl
      & plain (shown_name answer.tag.bytes) (named seen answer.tag.bytes r.tag) & plain (codes " answered ") refl
      & plain (answer_code answer.code) (code_plain answer.code)).is

module _ (printed : JsonIsPrinted) where
  account : (field : List ℕ) → IsBytes field → IsPlain (account_field field)
  account field h = name_field_plain printed (codes "account") field refl h

  stock : (field : List ℕ) → IsBytes field → IsPlain (stock_field field)
  stock field h = name_field_plain printed (codes "stock") field refl h

  rule : (field : List ℕ) → IsBytes field → IsPlain (rule_field field)
  rule field h = name_field_plain printed (codes "rule") field refl h

  reader : (field : List ℕ) → IsBytes field → IsPlain (reader_field field)
  reader field h = name_field_plain printed (codes "reader") field refl h

  named_fields_plain : (asked : Action) → IsActionInRange asked → are_plain (named_fields asked) ≡ true
  unfolding named_fields
  named_fields_plain (Action.Kill a) h = (account a.bytes h).is
  named_fields_plain (Action.Lift a) h = (account a.bytes h).is
  named_fields_plain (Action.SetLimit r limit) h = (rule r.bytes h.0 & decimal_field (codes "limit") limit refl h.1).is
  named_fields_plain (Action.Restrict r s) h = (rule r.bytes h.0 & stock s.bytes h.1).is
  named_fields_plain (Action.Unrestrict r s) h = (rule r.bytes h.0 & stock s.bytes h.1).is
  named_fields_plain (Action.Grant r a) h = (reader r.bytes h.0 & account a.bytes h.1).is
  named_fields_plain (Action.Revoke r a) h = (reader r.bytes h.0 & account a.bytes h.1).is
  named_fields_plain Action.CloseDay h = refl

  answer_fields_plain : (asked : Action) (answer : Answer) → IsActionInRange asked → IsAnswerInRange answer
      → are_plain (answer_fields asked answer) ≡ true
  unfolding answer_fields
  answer_fields_plain asked answer h r =
      (word_field printed (codes "command") (command_word asked) refl (word_plain asked) & plain (named_fields asked) (named_fields_plain asked h)
      & word_field printed (codes "code") (answer_code answer.code) refl (code_plain answer.code) & name_field_plain printed (codes "tag") answer.tag.bytes refl r.tag
      & decimal_field (codes "record") answer.record_number refl r.record_number).is

  type_of : (kind : ℕ) → kind < 256 → IsPlain (type_field kind)
  type_of kind h =
      text_field_plain printed (codes "command") _ refl
      (or_bytes (type_word kind) (codes "command " ++ kind ∷ []) (type_word_plain kind) (one_byte kind h))

  earlier_fields_plain : (answer : Answer) → IsAnswerInRange answer → are_plain (earlier_fields answer) ≡ true
  unfolding earlier_fields
  earlier_fields_plain answer r =
      (type_of answer.command_type r.command_type
      & word_field printed (codes "code") (answer_code answer.code) refl (code_plain answer.code) & name_field_plain printed (codes "tag") answer.tag.bytes refl r.tag
      & decimal_field (codes "record") answer.record_number refl r.record_number).is

module _ (seen : ShownIsVisible) (printed : JsonIsPrinted) where
  pub answers_are_one_line : AnswersAreOneLine
  answers_are_one_line Text told moment asked answer m f h r = record {
    text = answered_text told moment asked answer.record_number answer.code;
    ends = refl;
    plain = answered_plain seen told moment asked answer.record_number answer.code m f h r.record_number;
  }
  answers_are_one_line Json told moment asked answer m f h r =
      json_is_line printed moment (codes "answer") (answer_fields asked answer) m refl (answer_fields_plain printed asked answer h r)

  pub earlier_answers_are_one_line : EarlierAnswersAreOneLine
  earlier_answers_are_one_line Text moment answer m r = record {
    text = earlier_text answer ++ record_text moment answer.record_number;
    ends = refl;
    plain = joined (earlier_text answer) (record_text moment answer.record_number) (earlier_plain seen answer r) (record_plain moment answer.record_number m r.record_number);
  }
  earlier_answers_are_one_line Json moment answer m r =
      json_is_line printed moment (codes "answer") (earlier_fields answer) m refl (earlier_fields_plain printed answer r)

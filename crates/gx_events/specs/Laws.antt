-- What the definitions say of every log.
use Rattle.std.specs.{Prelude.{ℕ, ◌==◌, not, IsTrue, [], ◌∷◌, ◌≡◌, List, ◌++◌}, List.list_all}
use Rattle.gx_units.specs.declared.names.RuleId.{RuleId}
use Rattle.gx_policy.specs.declared.policy.PolicyData.{PolicyData}
use Rattle.gx_history.specs.{declared.record.RecordData.RecordData, InForce.rules_in_force}
use Rattle.gx_rules.specs.Settings.{limit_in}
use Rattle.gx_text.specs.declared.form.Form.{Form}
use Rattle.gx_events.specs.{declared.event.Event.Event, Known.{known_of, limit_named}, Lines.{event_line, lines_behind, log_of}}

-- a log is told in pieces: the lines of more records stand behind those of the earlier ones
abbrev pub LogsGoOn : Type 0
LogsGoOn = (form : Form) (policy : PolicyData) (records more : List RecordData) →
    log_of form policy (records ++ more) ≡ log_of form policy records ++ lines_behind form policy records more

-- the limit that is known is the one in force
abbrev pub LimitsAreInForce : Type 0
LimitsAreInForce = (policy : PolicyData) (records : List RecordData) (rule : RuleId) →
    limit_named (known_of policy records).limits rule ≡ limit_in (rules_in_force policy records) rule

-- a line: words without a line's end, and one behind them
pub record IsLine (text : List ℕ) : Type 0 where
  pub words : List ℕ
  pub ended : text ≡ words ++ 10 ∷ []
  pub no_other : IsTrue (list_all (λ byte. not (byte == 10)) words)

-- each event is one line, whatever bytes its names have: nobody can make up lines of the log
abbrev pub EventsAreLines : Type 0
EventsAreLines = (form : Form) (moment number : ℕ) (event : Event) → IsLine (event_line form moment number event)

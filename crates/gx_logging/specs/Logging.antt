-- The log of the records of a door.
use Rattle.std.specs.Prelude.{◌≡◌, ℕ, ◌≤◌, length, take}
use Rattle.gx_policy.specs.declared.policy.PolicyData.{PolicyData}
use Rattle.gx_pass.specs.declared.view.LineView.{LineView}
use Rattle.gx_text.specs.declared.form.Form.{Form}
use Rattle.gx_events.specs.Known.{known_of, Known}

-- what the log's pass has met, of how many of these records the lines were given, how they are written, and what is known of these records
pub record LoggingData : Type 0 where
  pub met : LineView
  pub done : ℕ
  pub form : Form
  pub known : Known

-- what is known is known of the records whose lines were given
pub record IsLogging (policy : PolicyData) (log : LoggingData) : Type 0 where
  pub within : log.done ≤ length log.met.front
  pub knows : log.known ≡ known_of policy (take log.done log.met.front)

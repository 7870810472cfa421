-- What is announced of a command that ended orders.
use Rattle.std.specs.Prelude.{◌≡◌, ◌⊎◌, ℕ, Option, Some, None, option_and_then, option_map, if◌then◌else◌}
use Rattle.gx_units.specs.declared.names.UserName.{UserName}
use Rattle.gx_desk.specs.declared.Action.{Action}
use Rattle.gx_policy.specs.declared.policy.PolicyData.{PolicyData}
use Rattle.gx_history.specs.{declared.record.{Asked.Asked, Request.Request}, Requests.{action_of, is_granted}}
use Rattle.gx_access_gate.specs.declared.outcome.Outcome.{Outcome}
use Rattle.gx_pass.specs.declared.view.LineView.{LineView}
use Rattle.gx_door.specs.{Acts.asked_on, declared.ended.EndedTotals.EndedTotals}
use Rattle.gx_session.specs.{declared.event.Next.{Next, TheVariants.Act}, Table.SessionData}
use Rattle.gx_serve.specs.{declared.announcing.{EndedBy.EndedBy, EndedOrders.EndedOrders}, States.{WasGivenUp, WasTurned}}

-- what a command ends, if it ends live orders
abbrev pub ending_command : Action → Option EndedBy
ending_command (Action.Kill account) = Some (EndedBy.Kill account)
ending_command Action.CloseDay = Some EndedBy.CloseDay
ending_command other = None

-- what is announced of a command that was decided so and ended so much: where it is a granted Kill or Close Day, and nothing else
abbrev pub announced_by : UserName → Outcome → EndedTotals → Action → Option EndedOrders
announced_by user o ended action =
    if is_granted o.verdict
    then option_map {U = EndedOrders} (λ (b : EndedBy). record { officer = user; by = b; number = o.number; moment = o.moment; ended = ended }) (ending_command action)
    else None

-- and of any request
abbrev pub announced_of : UserName → Request → Outcome → EndedTotals → Option EndedOrders
announced_of user request o ended = option_and_then (announced_by user o ended) (action_of request)

-- the step was made, and this is announced of it
pub record WasAnnounced (policy : PolicyData) (a : Asked) (was is : LineView) (told : Option EndedOrders) : Type 0 where
  pub turned : WasTurned policy a was is
  pub tells : told ≡ announced_of a.user a.request turned.outcome turned.ended

-- what is announced of what a session asked for: of a step that was made what belongs to it, and nothing else
abbrev pub Announces : Next → PolicyData → UserName → ℕ → SessionData → LineView → SessionData → LineView → Option EndedOrders → Type 0
Announces (Act request) policy user moment session was session' is told =
    WasAnnounced policy (asked_on was.line user request moment) was is told
    ⊎ (WasGivenUp policy user request moment session was session' is × (told ≡ None))
Announces other policy user moment session was session' is told = told ≡ None

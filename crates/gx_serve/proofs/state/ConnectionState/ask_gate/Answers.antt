use Rattle.std.proofs.Common.{Result, IfOk, sym, ◌∙◌, subst}
use Rattle.gx_access_gate.specs.{declared.outcome.StepFault.StepFault, Gates.left_by}
use Rattle.gx_door.specs.{declared.matched.Turned.Turned, Acts.{asked_on, history_met}, Matching.Turns}
use Rattle.gx_serve.specs.Announcements.{WasAnnounced}
use Rattle.gx_serve.proofs.Session_call.{was_announced}
use Rattle.gx_serve.proofs.state.ConnectionState.ask_gate.Goals as goal

pub returns-in-Ok-clause-announced : goal.returns-in-Ok-clause-announced
returns-in-Ok-clause-announced g c =
    let was = g.D.Door.observed c.in-Some.pass in
    let is = g.D.Door.observed c.turn-pass.result.0 in
    let a = asked_on was.line c.args.self.now.user c.args.request c.args.moment in
    let t = c.in-Ok.turned in
    let turns : Turns g.D.Door.policy was is (left_by a t.outcome) t.ended c.args.moment t.matched.made =
    subst (λ (found : Result Turned StepFault). IfOk found (λ t. Turns g.D.Door.policy was is (left_by a t.outcome) t.ended c.args.moment t.matched.made)) c.in-Ok.is c.turn-pass.ensures.done in
    let announced : WasAnnounced g.D.Door.policy a was is c.announced_of.result =
    was_announced a was is t.outcome t.ended t.matched.made c.announced_of.result c.turn-pass.ensures.later turns c.announced_of.ensures in
    subst (λ pass. WasAnnounced g.D.Door.policy (asked_on (history_met g.D.Door.observed pass).line c.args.self.now.user c.args.request c.args.moment) (history_met g.D.Door.observed pass) is c.announced_of.result)
    (sym (sym c.take.ensures.value ∙ c.in-Some.is)) announced

use Rattle.std.proofs.Common.{ap, ◌∙◌}
use Rattle.gx_client.specs.{declared.heard.Heard.Heard, Session.standing_after}
use Rattle.gx_client.proofs.Session_next.{has_heard, is_heard_as}
use Rattle.gx_client.proofs.session.ClientSession.hear.Goals as goal

pub returns-clause-heard : goal.returns-clause-heard
returns-clause-heard c =
    λ login packets h. has_heard _ _ login packets _ h (c.note.ensures ∙ ap (λ (heard : Heard). standing_after c.args.self.now heard) c.heard_as-heard.ensures)

pub returns-clause-told : goal.returns-clause-told
returns-clause-told c = λ login packets h. c.heard_as-heard.ensures ∙ is_heard_as _ login packets _ h

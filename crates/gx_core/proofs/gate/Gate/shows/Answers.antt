use Rattle.std.proofs.Common.{◌∙◌, ap, sym, false}
use Rattle.std.specs.{Option.option_map_or, Prelude.Option}
use Rattle.gx_units.specs.declared.names.UserName.{UserName}
use Rattle.gx_history.specs.Asking.{sees_now}
use Rattle.gx_people.specs.Entitled.{sees}
use Rattle.gx_access_gate.specs.Gates.{GateData}
use Rattle.gx_core.proofs.Command_call.{sights_are_known}
use Rattle.gx_core.proofs.gate.Gate.shows.Goals as goal

pub returns-in-Some : goal.returns-in-Some
returns-in-Some c =
    c.sees.ensures
    ∙ ap (λ (o : Option UserName). option_map_or (λ name. sees c.self.inside.state.people name c.args.account) o false) (sym c.in-Some.is ∙ c.reader_named.ensures.name)
    ∙ sights_are_known c.self.inside.state c.args.reader c.args.account c.self.invariant.kept c.rules.ensures.sound
    ∙ ap (λ (g : GateData). sees_now g.policy g.records c.args.reader c.args.account) c.self.view_is

pub returns-in-None : goal.returns-in-None
returns-in-None c =
    ap (λ (o : Option UserName). option_map_or (λ name. sees c.self.inside.state.people name c.args.account) o false) (sym c.in-None.is ∙ c.reader_named.ensures.name)
    ∙ sights_are_known c.self.inside.state c.args.reader c.args.account c.self.invariant.kept c.rules.ensures.sound
    ∙ ap (λ (g : GateData). sees_now g.policy g.records c.args.reader c.args.account) c.self.view_is

use Rattle.std.proofs.Common.{◌∙◌, ap, sym}
use Rattle.std.specs.{Option.option_and_then, Prelude.List}
use Rattle.gx_policy.specs.{People.{account_of_role, role_in}, declared.policy.User.User}
use Rattle.gx_units.proofs.Results_hold.{ok_then}
use Rattle.gx_overview.proofs.Owners_next.{entered_known}
use Rattle.gx_overview.proofs.owners.Owners.note_entered.Goals as goal

pub returns : goal.returns
returns c =
    let known = ap (λ (users : List User). option_and_then account_of_role (role_in users c.args.user)) (sym c.requires.people) in
    record {
      noted =
          ok_then c.take_in.result
          (entered_known c.args.policy.now c.args.shown.now c.args.user c.args.m.now c.in-Some.account c.args.self.now c.take_in.new.self (known ∙ sym c.account_of.ensures ∙ c.in-Some.is)) c.take_in.ensures.taken;
    }

use Rattle.std.proofs.Common.{◌∙◌, sym}
use Rattle.gx_units.proofs.Results_hold.{ok_then}
use Rattle.gx_overview.proofs.Owners_next.{replaced_known}
use Rattle.gx_overview.proofs.owners.Owners.note_replacing.Goals as goal

pub returns : goal.returns
returns c = record {
  noted = λ policy.
      ok_then c.take_in.result
      (replaced_known policy c.args.shown.now c.args.user c.args.m.now c.in-Some.owner c.args.self.now c.take_in.new.self (sym c.under.ensures ∙ c.in-Some.is)) c.take_in.ensures.taken;
}

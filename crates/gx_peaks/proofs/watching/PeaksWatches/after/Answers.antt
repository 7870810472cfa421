use Rattle.std.proofs.Common.{◌∙◌, ap, subst, sym}
use Rattle.std.specs.Prelude.{Option}
use Rattle.gx_units.specs.declared.names.RuleId.{RuleId}
use Rattle.gx_units.proofs.Results_hold.{ok_then}
use Rattle.gx_policy.specs.Soundness.{is_sound}
use Rattle.gx_peaks.specs.Noting.{AdvancesTo, IsOfSetting}
use Rattle.gx_peaks.proofs.Peaks_next.{all_held}
use Rattle.gx_peaks.proofs.watching.PeaksWatches.after.Goals as goal

pub returns-clause-saw : goal.returns-clause-saw
returns-clause-saw g c =
    let policy = (g.G.AccessGate.state c.args.gate.now).policy in
    let records = (g.G.AccessGate.state c.args.gate.now).records in
    ok_then c.note_setting.result
    (λ third.
    all_held c.args.left.now c.args.self.now.seller c.args.self.now.table c.note_order.new.self c.note_gain.new.self c.note_setting.new.self
    (ap is_sound (sym c.policy.ensures) ∙ c.rules.ensures.sound) c.is_legal.ensures.legal c.requires.last c.requires.expects.held c.requires.expects.seller
    c.in_ok-note_order.ensures.noted c.in_ok-note_gain.ensures.noted
    (subst (λ (set : Option RuleId). AdvancesTo policy records (IsOfSetting policy set c.note_setting.new.self) c.note_gain.new.self c.note_setting.new.self) c.set_in.ensures third))
    c.note_setting.ensures.noted

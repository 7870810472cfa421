use Rattle.std.proofs.Common.{◌∙◌, ap, sym}
use Rattle.gx_units.proofs.Results_hold.{ok_then}
use Rattle.gx_policy.specs.Soundness.{is_sound}
use Rattle.gx_warnings.specs.Noting.{with_figure_warnings}
use Rattle.gx_warnings.proofs.Warnings_next.{all_carried}
use Rattle.gx_warnings.proofs.watching.WarningsWatches.after.Goals as goal

pub returns-clause-saw : goal.returns-clause-saw
returns-clause-saw g c =
    let policy = (g.G.AccessGate.state c.args.gate.now).policy in
    let records = (g.G.AccessGate.state c.args.gate.now).records in
    ok_then c.note_figures.result
    (λ puts. record {
      keeps =
          all_carried c.args.self.now.shares.items c.args.left.now c.args.self.now.seller c.list_moved.new.list.items c.args.self.now.table.entries.entries
          c.note_figures.new.self.entries.entries (ap is_sound (sym c.policy.ensures) ∙ c.rules.ensures.sound) c.is_legal.ensures.legal c.requires.expects.kept.first_uses c.requires.last
          c.requires.expects.kept.keeps c.requires.expects.seller c.in_ok-list_moved.ensures
          (puts ∙ (λ i. with_figure_warnings policy records (c.as_slice.ensures.value i) c.args.self.now.table.entries.entries (c.as_slice-2.ensures.value i)));
      first_uses = c.requires.expects.kept.first_uses;
    })
    c.note_figures.ensures.noted

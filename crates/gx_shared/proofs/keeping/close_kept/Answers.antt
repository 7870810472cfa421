use Rattle.std.proofs.Common.{◌≡◌, ℕ, List, Option, None, drop, subst, sym, ◌∙◌}
use Rattle.std.specs.Io.KnownBytes.{Appends}
use mathlib.Core.List.{IsPrefix}
use Rattle.gx_pass.specs.declared.view.LineView.{LineView}
use Rattle.gx_audit_bytes.specs.declared.version.AuditVersion.{AuditVersion}
use Rattle.gx_journal.specs.Journals.{journal_bytes, IsGrown, JournalWriterData}
use Rattle.gx_shared.proofs.Resumed_day.{all_kept, earlier_kept}
use Rattle.gx_shared.proofs.keeping.close_kept.Goals as goal

pub returns-clause-front : goal.returns-clause-front
returns-clause-front g c =
    let records = (g.G.AccessGate.state c.close-gate.result.0).records in
    let begins : IsPrefix c.args.journal.met.front records = subst (λ (h : LineView). IsPrefix h.front records) c.into_parts-pass.ensures.met c.close-gate.ensures.front in
    earlier_kept g.J.JournalName.version g.J.JournalName.begun g.J.JournalName.count c.args.journal records c.into_parts-pass.ensures.kept begins

pub returns-clause-kept : goal.returns-clause-kept
returns-clause-kept g c = λ none.
    let records = (g.G.AccessGate.state c.close-gate.result.0).records in
    let after = c.put_rest.new.writer in
    let is = c.into_parts-pass.ensures.writer in
    let begins : IsPrefix c.args.journal.met.front records = subst (λ (h : LineView). IsPrefix h.front records) c.into_parts-pass.ensures.met c.close-gate.ensures.front in
    let put : after.fault ≡ None → Appends c.args.journal.writer.contents after.contents (journal_bytes g.J.JournalName.version (drop c.args.journal.writer.done records)) =
    subst (λ (v : AuditVersion). after.fault ≡ None → Appends c.args.journal.writer.contents after.contents (journal_bytes v (drop c.args.journal.writer.done records))) c.into_parts-pass.ensures.kept.version_is
    (subst (λ (t : JournalWriterData). after.fault ≡ None → Appends t.contents after.contents (journal_bytes t.version (drop t.done records))) is c.put_rest.ensures.whole) in
    let sound : after.fault ≡ None → c.args.journal.writer.fault ≡ None = subst (λ (t : JournalWriterData). after.fault ≡ None → t.fault ≡ None) is c.put_rest.ensures.sound in
    subst (λ (o : Option (List ℕ)). IsGrown g.J.JournalName.begun o (journal_bytes g.J.JournalName.version (drop g.J.JournalName.count records))) (sym c.into_parts-device.ensures.contents)
    (all_kept g.J.JournalName.version g.J.JournalName.begun g.J.JournalName.count c.args.journal records after c.into_parts-pass.ensures.kept begins put sound (sym c.into_parts-device.ensures.fault ∙ none))

use Rattle.std.proofs.Common.{arith, refl, subst, take, drop, ◌∙◌}
use Rattle.std.specs.Io.KnownBytes.{Appends}
use Rattle.gx_audit_bytes.specs.declared.version.AuditVersion.{AuditVersion}
use Rattle.gx_journal.specs.Journals.{journal_bytes}
use Rattle.gx_journal.proofs.Journal_next.{none_appended}
use Rattle.gx_shared.proofs.Resumed_day.{rest_put, sound_at}
use Rattle.gx_shared.proofs.rest.put_rest.Goals as goal

pub loop-writer-init : goal.loop-writer-init
loop-writer-init g c =
    let sound = sound_at c.args.writer.now c.is_broken.result c.is_broken.ensures.broken c.if-is_broken.false in
    record {
      first = omega arith;
      within = c.requires.within;
      room = c.requires.room;
      sound = sound;
      begun = sound;
      version = refl;
      bytes = none_appended c.args.writer.now.version c.args.writer.now.contents c.args.writer.now.done (g.G.AccessGate.state c.args.gate.now).records;
    }

pub loop-writer-preserved : goal.loop-writer-preserved
loop-writer-preserved g c =
    let now = c.loop-writer.writer in
    let done = c.if-not-put_piece.ensures.done refl in
    record {
      first = omega (arith, done, c.loop-writer.invariant.first);
      within = omega (arith, done, c.min-most.ensures, c.length-count.ensures.count, c.done-in-loop-writer.ensures, c.loop-writer.invariant.within);
      room = omega (arith, c.put_piece.ensures.room, c.loop-writer.invariant.room);
      sound = c.if-not-put_piece.ensures.sound refl;
      begun = c.loop-writer.invariant.begun;
      version = c.put_piece.ensures.version ∙ c.loop-writer.invariant.version;
      bytes =
          rest_put c.args.writer.now.version (g.G.AccessGate.state c.args.gate.now).records c.args.writer.now now c.put_piece.new.writer c.min-most.result c.loop-writer.invariant.first
          (omega (arith, c.min-most.ensures, c.length-count.ensures.count, c.done-in-loop-writer.ensures, c.loop-writer.invariant.within)) c.loop-writer.invariant.bytes
          (subst (λ (v : AuditVersion). Appends now.contents c.put_piece.new.writer.contents (journal_bytes v (take c.min-most.result (drop now.done (g.G.AccessGate.state c.args.gate.now).records))))
          c.loop-writer.invariant.version (c.if-not-put_piece.ensures.whole refl)) done;
    }

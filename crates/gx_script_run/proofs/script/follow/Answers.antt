use Rattle.std.proofs.{Common.{true, false, append-nil, refl, arith, ◌∙◌}, KnownBytes.Keeps-refl, lemmas.Result.err_from_is_err_and}
use Rattle.gx_units.proofs.Results_hold.{on_fault}
use Rattle.gx_devices.proofs.{Parts_written.counted_next, Run_pieces.{stands_next, stands_still}}
use Rattle.gx_script_run.specs.declared.script_fault.ScriptFault.{ScriptFault}
use Rattle.gx_script_run.proofs.Script_end.{breaks, ends, finds, starts, stops, stops_reading, takes, unless_bad}
use Rattle.gx_script_run.proofs.script.follow.Goals as goal

pub loop-init : goal.loop-init
loop-init g c = record {
  stands = starts _ _ _ _ _ c.requires.nothing c.requires.no_line;
  counted = omega (arith, c.requires.no_line);
  calls = omega arith;
  reads = refl;
  writes = refl;
}

pub loop-preserved : goal.loop-preserved
loop-preserved g c =
    let s = c.loop.invariant.stands in
    let bad = c.if-is_bad.false in
    record {
      stands = stands_next _ _ _ s _ _ _ _ c.in-Ok.ensures.bytes.0 (takes _ _ _ _ s.bytes _ _ _ _ _ _ s.follows (c.in_ok-is_bad.ensures.ok bad) c.in_ok-is_bad.ensures.bounded);
      counted = omega (arith, c.in_ok-is_bad.ensures.counted bad, c.in-Ok.ensures.bound, c.loop.invariant.counted);
      calls = counted_next _ _ _ _ c.loop.invariant.calls (c.read.ensures.called (omega arith));
      reads = c.in-Ok.ensures.kept ∙ c.loop.invariant.reads;
      writes = c.in_ok-is_bad.ensures.kept ∙ c.loop.invariant.writes;
    }

pub returns-in-Err-clause-fault : goal.returns-in-Err-clause-fault
returns-in-Err-clause-fault g c = stops_reading _ _ _ _ _ c.loop.invariant.stands ScriptFault.ReadFailed tt _ c.in-Err.ensures.bytes

pub returns-clause-fault : goal.returns-clause-fault
returns-clause-fault g c = stops_reading _ _ _ _ _ c.loop.invariant.stands ScriptFault.Endless tt _ (Keeps-refl _)

pub returns-then-n-eq0-clause-script : goal.returns-then-n-eq0-clause-script
returns-then-n-eq0-clause-script g c =
    let s = stands_still _ _ _ c.loop.invariant.stands _ _ _ c.in-Ok.ensures.bytes.0 c.if-n-eq0.true in
    ends _ _ _ _ _ s _ _ false _ (c.in-Ok.ensures.bytes.1 c.if-n-eq0.true (omega arith)) (rw (c.if-last_is_bad.false, append-nil) at c.in_ok-last_is_bad.ensures.ok)

pub returns-then-last_is_bad-clause-bad : goal.returns-then-last_is_bad-clause-bad
returns-then-last_is_bad-clause-bad g c =
    let s = stands_still _ _ _ c.loop.invariant.stands _ _ _ c.in-Ok.ensures.bytes.0 c.if-n-eq0.true in
    ends _ _ _ _ _ s _ _ true _ (c.in-Ok.ensures.bytes.1 c.if-n-eq0.true (omega arith)) (rw (c.if-last_is_bad.true, append-nil) at c.in_ok-last_is_bad.ensures.ok)

pub returns-in_err-last_is_bad-clause-fault : goal.returns-in_err-last_is_bad-clause-fault
returns-in_err-last_is_bad-clause-fault g c =
    let p = err_from_is_err_and c.from_residual.result c.from_residual.ensures.1 in
    let s = stands_still _ _ _ c.loop.invariant.stands _ _ _ c.in-Ok.ensures.bytes.0 c.if-n-eq0.true in
    on_fault _ _ _ _ p.1 p.2 (unless_bad _ _ (stops _ _ _ _ _ s _ _ _ (c.in-Ok.ensures.bytes.1 c.if-n-eq0.true (omega arith)) (rw append-nil at c.in_err-last_is_bad.ensures.err)))

pub returns-then-is_bad-clause-bad : goal.returns-then-is_bad-clause-bad
returns-then-is_bad-clause-bad g c = finds _ _ _ _ _ c.loop.invariant.stands _ _ _ _ _ c.in-Ok.ensures.bytes.0 (c.in_ok-is_bad.ensures.bad c.if-is_bad.true)

pub returns-in_err-is_bad-clause-fault : goal.returns-in_err-is_bad-clause-fault
returns-in_err-is_bad-clause-fault g c =
    let p = err_from_is_err_and c.from_residual-in_err-is_bad.result c.from_residual-in_err-is_bad.ensures.1 in
    on_fault _ _ _ _ p.1 p.2 (unless_bad _ _ (breaks _ _ _ _ _ c.loop.invariant.stands _ _ _ _ _ c.in-Ok.ensures.bytes.0 (omega (arith, c.in-Ok.ensures.bound)) c.in_err-is_bad.ensures.err))

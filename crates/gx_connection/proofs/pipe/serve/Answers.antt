use Rattle.std.proofs.{Common.{inl, inr, sym, ◌∙◌, refl, arith}, KnownBytes.Keeps-refl, lemmas.Result.err_from_is_err_and}
use Rattle.gx_units.proofs.Results_hold.{on_fault, on_any}
use Rattle.gx_soup.specs.Packets.{packets_of}
use Rattle.gx_connection.proofs.{Run_next.{ended, starts}, Connection_cut.{fault_stands, stands_on_line}, Run_logout.never_cut}
use Rattle.gx_connection.specs.declared.fault.PipeFault.TheVariants.{ReadFailed, Endless}
use Rattle.gx_devices.proofs.{Parts_written.counted_next, Run_pieces.{cut_in, stands_next, stands_still}}
use Rattle.gx_connection.proofs.pipe.serve.Goals as goal

pub loop-init : goal.loop-init
unfolding packets_of
loop-init g c = record { stands = rw c.requires.opened (starts _ _ _ _ _ refl c.new-feeder.ensures); calls = omega arith; reads = refl; writes = refl }

pub returns-then-n-eq0-clause-pipe : goal.returns-then-n-eq0-clause-pipe
returns-then-n-eq0-clause-pipe g c =
    let now = stands_still _ _ _ c.loop.invariant.stands _ _ _ c.in-Ok.ensures.bytes.0 c.if-n-eq0.true in
    ended _ _ _ _ _ _ _ now c.in_ok-leave.ensures.ok (inl (c.in-Ok.ensures.bytes.1 c.if-n-eq0.true (omega arith)))

pub returns-then-over-clause-pipe : goal.returns-then-over-clause-pipe
returns-then-over-clause-pipe g c =
    let s = c.loop.invariant.stands in
    let e = c.in_ok-over.ensures.ok _ _ s.bytes s.follows in
    ended _ _ _ _ _ _ _ (stands_next _ _ _ s _ _ _ _ c.in-Ok.ensures.bytes.0 e.takes) c.in_ok-leave-2.ensures.ok (inr (sym e.ends ∙ c.if-over.true))

pub loop-preserved : goal.loop-preserved
loop-preserved g c =
    let s = c.loop.invariant.stands in
    record {
      stands = stands_next _ _ _ s _ _ _ _ c.in-Ok.ensures.bytes.0 (c.in_ok-over.ensures.ok _ _ s.bytes s.follows).takes;
      calls = counted_next _ _ _ _ c.loop.invariant.calls (c.read.ensures.called (omega arith));
      reads = c.in-Ok.ensures.kept ∙ c.loop.invariant.reads;
      writes = c.in_ok-over.ensures.kept ∙ c.loop.invariant.writes;
    }

pub returns-in-Err-clause-cut : goal.returns-in-Err-clause-cut
returns-in-Err-clause-cut g c = fault_stands _ _ _ _ _ _ c.loop.invariant.stands _ ReadFailed tt c.in-Err.ensures.bytes

pub returns-in_err-leave-clause-cut : goal.returns-in_err-leave-clause-cut
returns-in_err-leave-clause-cut g c =
    on_any _ _ (λ fault. never_cut _ _ _ fault _ _ (g.G.AccessGate.state c.loop.gate) c.loop.connection (stands_on_line _ _ _ _ _ _ c.loop.invariant.stands) c.in_err-leave.ensures.asks c.in_err-leave.ensures.sure)

pub returns-in_err-over-clause-cut : goal.returns-in_err-over-clause-cut
returns-in_err-over-clause-cut g c =
    let s = c.loop.invariant.stands in
    let p = err_from_is_err_and c.from_residual-in_err-over.result c.from_residual-in_err-over.ensures.1 in
    on_fault _ _ _ _ p.1 p.2 (cut_in _ _ _ s _ _ _ _ _ _ _ c.in-Ok.ensures.bytes.0 (omega (arith, c.in-Ok.ensures.bound)) (c.in_err-over.ensures.err (g.G.AccessGate.state c.args.gate.now) c.args.first s.bytes s.follows))

pub returns-in_err-leave-2-clause-cut : goal.returns-in_err-leave-2-clause-cut
returns-in_err-leave-2-clause-cut g c =
    let s = c.loop.invariant.stands in
    let now = stands_next _ _ _ s _ _ _ _ c.in-Ok.ensures.bytes.0 (c.in_ok-over.ensures.ok _ _ s.bytes s.follows).takes in
    on_any _ _ (λ fault. never_cut _ _ _ fault _ _ (g.G.AccessGate.state c.exchange.new.gate) c.exchange.new.connection (stands_on_line _ _ _ _ _ _ now) c.in_err-leave-2.ensures.asks c.in_err-leave-2.ensures.sure)

pub returns-clause-cut : goal.returns-clause-cut
returns-clause-cut g c = fault_stands _ _ _ _ _ _ c.loop.invariant.stands _ Endless tt (Keeps-refl _)

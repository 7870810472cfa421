use Rattle.std.proofs.{Common.{arith, length, ◌≡◌, ◌<◌, ◌∙◌, ◌++◌, ◌∷◌, [], List, ap, sym, true, false}, Math.Path.subst}
use Rattle.std.specs.Prelude.{is_some}
use Rattle.gx_history.specs.{declared.record.{RecordData.RecordData, Step.Step}, Matched.AreUncrossed, Settling.most_matches, World.world, Requests.asked_of}
use Rattle.gx_laws.proofs.{Books_uncrossed.never_crossed, Runs_orderly.legal_is_orderly, Matches_end.match_leaves_fewer, Moves_allowed.may_move, World_next.world_next}
use Rattle.gx_access_gate.specs.{Gates.{GateData, matched_by}, Effects.{MayMoveBy, moved_by}, Matches.{matches_left, matching_of, next_match, settled_gate}}
use Rattle.gx_core.specs.{Kept.IsWhole, Known.first_of}
use Rattle.gx_core.proofs.{Gate_next.{AreCarried, as_before, keep_still, keep_within, match_fits, takes, told_then}, Match_call.{first_is_known, nothing_is_met, nothing_is_next, settles_on}}
use Rattle.gx_core.proofs.gate.GateAccessGate.match_one.Goals as goal

pub returns-in_default-clause-next : goal.returns-in_default-clause-next
returns-in_default-clause-next c =
    ap (λ (g : GateData). next_match g c.args.handed) (sym c.self.view_is)
    ∙ nothing_is_next c.args.handed c.self.inside.state c.self.invariant.kept
    (first_is_known c.self.inside.policy c.self.inside.history.records c.self.inside.state c.self.invariant.kept ∙ ap first_of c.self.view_is ∙ sym c.first_waiting.ensures ∙ c.in_default.is)

pub returns-in_default-clause-full : goal.returns-in_default-clause-full
returns-in_default-clause-full c = λ waits full.
    let none : is_some (matching_of c.args.self.now) ≡ false =
    ap (λ (g : GateData). is_some (matching_of g)) (sym c.self.view_is)
    ∙ ap is_some (nothing_is_met c.self.inside.state c.self.invariant.kept
    (first_is_known c.self.inside.policy c.self.inside.history.records c.self.inside.state c.self.invariant.kept ∙ ap first_of c.self.view_is ∙ sym c.first_waiting.ensures ∙ c.in_default.is)) in
    let clash : false ≡ true = sym none ∙ waits in
    cc

pub returns-in_default-clause-uncrossed : goal.returns-in_default-clause-uncrossed
returns-in_default-clause-uncrossed c =
    subst (λ (g : GateData). AreUncrossed g.policy g.records) c.self.view_is
    (never_crossed c.self.inside.policy c.self.inside.history.records c.self.invariant.kept.legal)

pub returns-clause-effect : goal.returns-clause-effect
returns-clause-effect c =
    ap (world c.self.inside.policy)
    (c.push_reserved.ensures.records
    ∙ ap (λ (records : List RecordData). records ++ c.new-record.result ∷ []) c.reserve_one.ensures.records
    ∙ ap (λ (r : RecordData). c.self.inside.history.records ++ r ∷ []) (c.new-record.ensures ∙ c.record_of_match-entry.ensures))
    ∙ world_next c.self.inside.policy c.self.inside.history.records (Step.Matching c.args.handed) (matched_by c.args.handed c.match_outcome-outcome.result) c.self.invariant.kept.legal
    (ap (λ (g : GateData). next_match g c.args.handed) c.self.view_is ∙ c.match_outcome-outcome.ensures.next)
    ∙ ap (λ (g : GateData). moved_by g (matched_by c.args.handed c.match_outcome-outcome.result)) c.self.view_is

pub returns-clause-may_move : goal.returns-clause-may_move
returns-clause-may_move c =
    subst (λ (g : GateData). MayMoveBy g (matched_by c.args.handed c.match_outcome-outcome.result)) c.self.view_is
    (may_move c.self.inside.policy c.self.inside.history.records (Step.Matching c.args.handed) (matched_by c.args.handed c.match_outcome-outcome.result) c.self.invariant.kept.legal
    (ap (λ (g : GateData). next_match g c.args.handed) c.self.view_is ∙ c.match_outcome-outcome.ensures.next))

pub returns-clause-settles : goal.returns-clause-settles
returns-clause-settles c =
    ap (λ (records : List RecordData). settled_gate (record { policy = c.self.inside.policy; records = records }) c.args.handed)
    (c.push_reserved.ensures.records
    ∙ ap (λ (records : List RecordData). records ++ c.new-record.result ∷ []) c.reserve_one.ensures.records
    ∙ ap (λ (r : RecordData). c.self.inside.history.records ++ r ∷ []) (c.new-record.ensures ∙ c.record_of_match-entry.ensures))
    ∙ settles_on c.args.handed (matched_by c.args.handed c.match_outcome-outcome.result) c.self.invariant.kept.legal
    (ap (λ (g : GateData). next_match g c.args.handed) c.self.view_is ∙ c.match_outcome-outcome.ensures.next)
    ∙ ap (λ (g : GateData). settled_gate g c.args.handed) c.self.view_is

pub returns-clause-fewer : goal.returns-clause-fewer
returns-clause-fewer c =
    subst (λ (g : GateData). matches_left (record { policy = c.self.inside.policy; records = c.push_reserved.new.self.records }) < matches_left g) c.self.view_is
    (subst (λ (records : List RecordData). most_matches c.self.inside.policy records < most_matches c.self.inside.policy c.self.inside.history.records)
    (sym
    (c.push_reserved.ensures.records
    ∙ ap (λ (records : List RecordData). records ++ c.new-record.result ∷ []) c.reserve_one.ensures.records
    ∙ ap (λ (r : RecordData). c.self.inside.history.records ++ r ∷ []) (c.new-record.ensures ∙ c.record_of_match-entry.ensures)))
    (match_leaves_fewer c.args.handed (matched_by c.args.handed c.match_outcome-outcome.result)
    (legal_is_orderly c.self.invariant.kept.legal)
    (ap (λ (g : GateData). next_match g c.args.handed) c.self.view_is ∙ c.match_outcome-outcome.ensures.next)))

pub apply_match-requires : goal.apply_match-requires
apply_match-requires c = record {
  takes = takes c.reserve_one.new.history.records (Step.Matching c.args.handed) c.matched_move-moves.result (matched_by c.args.handed c.match_outcome-outcome.result) c.record_of_match-entry.result c.self.inside.history.reserved c.self.inside.state c.self.invariant c.reserve_one.ensures.records c.record_of_match-entry.ensures
      (ap (λ (g : GateData). next_match g c.args.handed) c.self.view_is ∙ c.match_outcome-outcome.ensures.next)
      (c.matched_move-moves.ensures c.self.inside.policy (world c.self.inside.policy c.self.inside.history.records) (matched_by c.args.handed c.match_outcome-outcome.result) c.args.handed)
      (match_fits c.self.inside.policy c.self.inside.history.records c.args.handed (matched_by c.args.handed c.match_outcome-outcome.result) (ap (λ (g : GateData). next_match g c.args.handed) c.self.view_is ∙ c.match_outcome-outcome.ensures.next) c.in_ok-reserve_one.ensures.room);
  matches = ap (λ (r : RecordData). asked_of r.step) c.record_of_match-entry.ensures;
  kept = told_then c.reserve_one.new.history.records c.self.inside.history.reserved c.self.inside.state c.self.invariant c.reserve_one.ensures.records;
}

pub push_reserved-requires : goal.push_reserved-requires
push_reserved-requires c = omega (arith, c.in_ok-reserve_one.ensures.own)

pub invariant_of-self-2 : goal.invariant_of-self-2
invariant_of-self-2 c =
    subst (λ (records : List RecordData). IsWhole c.self.inside.policy records c.push_reserved.new.self.reserved c.apply_match.new.state)
    (sym
    (c.push_reserved.ensures.records
    ∙ ap (λ (records : List RecordData). records ++ c.new-record.result ∷ []) c.reserve_one.ensures.records
    ∙ ap (λ (r : RecordData). c.self.inside.history.records ++ r ∷ []) (c.new-record.ensures ∙ c.record_of_match-entry.ensures)))
    (keep_within (Step.Matching c.args.handed) (matched_by c.args.handed c.match_outcome-outcome.result) c.self.inside.history.reserved c.reserve_one.new.history.reserved c.push_reserved.new.self.reserved c.self.inside.state c.apply_match.new.state c.self.invariant (ap (λ (g : GateData). next_match g c.args.handed) c.self.view_is ∙ c.match_outcome-outcome.ensures.next)
    c.in_ok-reserve_one.ensures.room c.in_ok-reserve_one.ensures.own c.push_reserved.ensures.reserved
    (subst (λ (records : List RecordData). AreCarried c.self.inside.policy records c.apply_match.new.state)
    (ap (λ (records : List RecordData). records ++ c.record_of_match-entry.result ∷ []) c.reserve_one.ensures.records
    ∙ ap (λ (r : RecordData). c.self.inside.history.records ++ r ∷ []) c.record_of_match-entry.ensures)
    (record { in_force = c.in_ok-apply_match.ensures.ok; told = c.in_ok-apply_match.ensures.kept_after })))

-- nothing was made: more places may be kept
pub invariant_of-self : goal.invariant_of-self
invariant_of-self c =
    keep_still c.reserve_one.new.history.records c.self.inside.history.reserved c.reserve_one.new.history.reserved c.self.inside.state c.self.inside.state c.self.invariant c.reserve_one.ensures.records c.reserve_one.ensures.more
    (as_before c.self.inside.history.reserved c.self.inside.state c.self.invariant)

pub invariant_of-self-in_err-apply_match : goal.invariant_of-self-in_err-apply_match
invariant_of-self-in_err-apply_match c =
    keep_still c.reserve_one.new.history.records c.self.inside.history.reserved c.reserve_one.new.history.reserved c.self.inside.state c.apply_match.new.state c.self.invariant c.reserve_one.ensures.records c.reserve_one.ensures.more
    (subst (λ (records : List RecordData). AreCarried c.self.inside.policy records c.apply_match.new.state) c.reserve_one.ensures.records
    (record { in_force = c.in_err-apply_match.ensures.err; told = c.in_err-apply_match.ensures.kept_before }))

pub returns-clause-uncrossed : goal.returns-clause-uncrossed
returns-clause-uncrossed c = never_crossed c.self.inside.policy c.push_reserved.new.self.records (invariant_of-self-2 c).kept.legal

pub returns-in_err-apply_match-clause-full : goal.returns-in_err-apply_match-clause-full
returns-in_err-apply_match-clause-full c = λ waits full.
    absurd (omega (arith, c.in_ok-reserve_one.ensures.room, full, ap (λ (g : GateData). length g.records) c.self.view_is))

pub returns-clause-full : goal.returns-clause-full
returns-clause-full c = λ waits full.
    absurd (omega (arith, c.in_ok-reserve_one.ensures.room, full, ap (λ (g : GateData). length g.records) c.self.view_is))

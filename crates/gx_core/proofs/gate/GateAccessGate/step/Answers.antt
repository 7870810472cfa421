use Rattle.std.proofs.{Common.{◌≡◌, arith, true, false, length, ◌∙◌, ◌++◌, ◌∷◌, [], List, ap, sym}, Math.Path.subst}
use Rattle.gx_units.specs.declared.names.AccountName.{AccountName}
use Rattle.gx_history.specs.{declared.«record».{RecordData.RecordData, Step.Step}, InForce.is_killed, World.world, Reserved.is_never_refused}
use Rattle.gx_policy.specs.declared.rule_name.RuleName.{RuleName}
use Rattle.gx_laws.proofs.{Requests_judged.{denied_names_first, granted_exactly}, Kills_lifted.kill_ends_by_lift, Moves_allowed.may_move, World_next.world_next}
use Rattle.std.specs.Prelude.{is_ok}
use Rattle.gx_access_gate.specs.{Gates.{GateData, left_by}, Steps.{IsJudged, next_of}, Effects.{MayMoveBy, moved_by}}
use Rattle.gx_core.specs.{Kept.IsWhole, Moves.done_by}
use Rattle.gx_core.proofs.Gate_next.{AreCarried, as_before, asked_fits, asked_has_place, keep_asked, keep_still, takes, told_then}
use Rattle.gx_core.proofs.gate.GateAccessGate.step.Goals as goal

pub returns-clause-judged : goal.returns-clause-judged
returns-clause-judged c =
    subst (λ (g : GateData). IsJudged g c.args.a c.judge-outcome.result.verdict) c.self.view_is
    (record {
      granted = granted_exactly c.self.inside.policy c.self.inside.history.records c.args.a (left_by c.args.a c.judge-outcome.result) (ap (λ (g : GateData). next_of g c.args.a) c.self.view_is ∙ c.judge-outcome.ensures.next);
      denied = λ (name : RuleName) h.
          denied_names_first c.self.inside.policy c.self.inside.history.records c.args.a (left_by c.args.a c.judge-outcome.result) name (ap (λ (g : GateData). next_of g c.args.a) c.self.view_is ∙ c.judge-outcome.ensures.next) h;
    })

pub returns-clause-effect : goal.returns-clause-effect
returns-clause-effect c =
    ap (world c.self.inside.policy)
    (c.push_reserved.ensures.records
    ∙ ap (λ (records : List RecordData). records ++ c.new.result ∷ []) c.reserve_for.ensures.records
    ∙ ap (λ (r : RecordData). c.self.inside.history.records ++ r ∷ []) (c.new.ensures ∙ c.record_of-entry.ensures))
    ∙ world_next c.self.inside.policy c.self.inside.history.records (Step.Asked c.args.a) (left_by c.args.a c.judge-outcome.result) c.self.invariant.kept.legal
    (ap (λ (g : GateData). next_of g c.args.a) c.self.view_is ∙ c.judge-outcome.ensures.next)
    ∙ ap (λ (g : GateData). moved_by g (left_by c.args.a c.judge-outcome.result)) c.self.view_is

pub returns-clause-may_move : goal.returns-clause-may_move
returns-clause-may_move c =
    subst (λ (g : GateData). MayMoveBy g (left_by c.args.a c.judge-outcome.result)) c.self.view_is
    (may_move c.self.inside.policy c.self.inside.history.records (Step.Asked c.args.a) (left_by c.args.a c.judge-outcome.result) c.self.invariant.kept.legal
    (ap (λ (g : GateData). next_of g c.args.a) c.self.view_is ∙ c.judge-outcome.ensures.next))

pub returns-clause-lifted_by : goal.returns-clause-lifted_by
returns-clause-lifted_by c =
    rw (← c.self.view_is) (λ (account : AccountName) killed lifted.
    kill_ends_by_lift c.self.inside.policy c.self.inside.history.records (left_by c.args.a c.judge-outcome.result) account c.self.invariant.kept.legal
    (record { is_next = (ap (λ (g : GateData). next_of g c.args.a) c.self.view_is ∙ c.judge-outcome.ensures.next); fits_day = asked_fits {policy = c.self.inside.policy} {history = c.self.inside.history.records} c.args.a (left_by c.args.a c.judge-outcome.result) c.self.inside.history.reserved c.reserve_for.new.history.reserved (ap (λ (g : GateData). next_of g c.args.a) c.self.view_is ∙ c.judge-outcome.ensures.next) (record { more = c.reserve_for.ensures.more; own = c.in_ok-reserve_for.ensures.own; room = c.in_ok-reserve_for.ensures.room }) }) killed
    (sym
    (ap (λ (records : List RecordData). is_killed c.self.inside.policy records account)
    (c.push_reserved.ensures.records
    ∙ ap (λ (records : List RecordData). records ++ c.new.result ∷ []) c.reserve_for.ensures.records
    ∙ ap (λ (r : RecordData). c.self.inside.history.records ++ r ∷ []) (c.new.ensures ∙ c.record_of-entry.ensures)))
    ∙ lifted))

pub apply_record-requires : goal.apply_record-requires
apply_record-requires c = record {
  takes = takes c.reserve_for.new.history.records (Step.Asked c.args.a) c.put_asked_move.new.moves (left_by c.args.a c.judge-outcome.result) c.record_of-entry.result c.self.inside.history.reserved c.self.inside.state c.self.invariant c.reserve_for.ensures.records c.record_of-entry.ensures
      (ap (λ (g : GateData). next_of g c.args.a) c.self.view_is ∙ c.judge-outcome.ensures.next)
      (c.put_asked_move.ensures.does ∙ ap (done_by c.args.self.now) c.record_of-entry.ensures ∙ ap (λ (g : GateData). done_by g (left_by c.args.a c.judge-outcome.result)) (sym c.self.view_is))
      (asked_fits {policy = c.self.inside.policy} {history = c.self.inside.history.records} c.args.a (left_by c.args.a c.judge-outcome.result) c.self.inside.history.reserved c.reserve_for.new.history.reserved (ap (λ (g : GateData). next_of g c.args.a) c.self.view_is ∙ c.judge-outcome.ensures.next) (record { more = c.reserve_for.ensures.more; own = c.in_ok-reserve_for.ensures.own; room = c.in_ok-reserve_for.ensures.room }));
  asks = ap (λ (r : RecordData). r.step) c.record_of-entry.ensures;
  kept = told_then c.reserve_for.new.history.records c.self.inside.history.reserved c.self.inside.state c.self.invariant c.reserve_for.ensures.records;
}

pub push_reserved-requires : goal.push_reserved-requires
push_reserved-requires c = asked_has_place c.args.a (left_by c.args.a c.judge-outcome.result) c.self.inside.history.reserved c.reserve_for.new.history.reserved c.self.inside.state c.self.invariant (ap (λ (g : GateData). next_of g c.args.a) c.self.view_is ∙ c.judge-outcome.ensures.next) (record { more = c.reserve_for.ensures.more; own = c.in_ok-reserve_for.ensures.own; room = c.in_ok-reserve_for.ensures.room })

pub invariant_of-self-2 : goal.invariant_of-self-2
invariant_of-self-2 c =
    subst (λ (records : List RecordData). IsWhole c.self.inside.policy records c.push_reserved.new.self.reserved c.apply_record.new.state)
    (sym
    (c.push_reserved.ensures.records
    ∙ ap (λ (records : List RecordData). records ++ c.new.result ∷ []) c.reserve_for.ensures.records
    ∙ ap (λ (r : RecordData). c.self.inside.history.records ++ r ∷ []) (c.new.ensures ∙ c.record_of-entry.ensures)))
    (keep_asked c.args.a (left_by c.args.a c.judge-outcome.result) c.self.inside.history.reserved c.reserve_for.new.history.reserved c.push_reserved.new.self.reserved c.self.inside.state c.apply_record.new.state c.self.invariant (ap (λ (g : GateData). next_of g c.args.a) c.self.view_is ∙ c.judge-outcome.ensures.next) (record { more = c.reserve_for.ensures.more; own = c.in_ok-reserve_for.ensures.own; room = c.in_ok-reserve_for.ensures.room }) c.push_reserved.ensures.reserved
    (subst (λ (records : List RecordData). AreCarried c.self.inside.policy records c.apply_record.new.state)
    (ap (λ (records : List RecordData). records ++ c.record_of-entry.result ∷ []) c.reserve_for.ensures.records
    ∙ ap (λ (r : RecordData). c.self.inside.history.records ++ r ∷ []) c.record_of-entry.ensures)
    (record { in_force = c.in_ok-apply_record.ensures.ok; told = c.in_ok-apply_record.ensures.kept_after })))

-- nothing was made: more places may be kept
pub invariant_of-self : goal.invariant_of-self
invariant_of-self c =
    keep_still c.reserve_for.new.history.records c.self.inside.history.reserved c.reserve_for.new.history.reserved c.self.inside.state c.self.inside.state c.self.invariant c.reserve_for.ensures.records c.reserve_for.ensures.more
    (as_before c.self.inside.history.reserved c.self.inside.state c.self.invariant)

pub invariant_of-self-in_err-apply_record : goal.invariant_of-self-in_err-apply_record
invariant_of-self-in_err-apply_record c =
    keep_still c.reserve_for.new.history.records c.self.inside.history.reserved c.reserve_for.new.history.reserved c.self.inside.state c.apply_record.new.state c.self.invariant c.reserve_for.ensures.records c.reserve_for.ensures.more
    (subst (λ (records : List RecordData). AreCarried c.self.inside.policy records c.apply_record.new.state) c.reserve_for.ensures.records
    (record { in_force = c.in_err-apply_record.ensures.err; told = c.in_err-apply_record.ensures.kept_before }))

pub returns-in_err-reserve_for-clause-never_refused : goal.returns-in_err-reserve_for-clause-never_refused
returns-in_err-reserve_for-clause-never_refused c = λ sure.
    let clash : false ≡ true = sym (ap is_ok c.in_err-reserve_for.was) ∙ c.reserve_for.ensures.sure (ap (is_never_refused c.args.a.request) c.judge-outcome.ensures.verdict ∙ sure) in cc

pub returns-in_err-apply_record-clause-never_refused : goal.returns-in_err-apply_record-clause-never_refused
returns-in_err-apply_record-clause-never_refused c = λ sure.
    let clash : false ≡ true =
    sym (ap is_ok c.in_err-apply_record.was)
    ∙ c.apply_record.ensures.sure (ap (λ (r : RecordData). is_never_refused c.args.a.request r.verdict) c.record_of-entry.ensures ∙ ap (is_never_refused c.args.a.request) c.judge-outcome.ensures.verdict ∙ sure)
    in cc

pub returns-in_err-apply_record-clause-full : goal.returns-in_err-apply_record-clause-full
returns-in_err-apply_record-clause-full c = λ full none.
    absurd (omega (arith, c.in_ok-reserve_for.ensures.room (ap (is_never_refused c.args.a.request) c.judge-outcome.ensures.verdict ∙ none), full, ap (λ (g : GateData). length g.records) c.self.view_is))

pub returns-clause-full : goal.returns-clause-full
returns-clause-full c = λ full none.
    absurd (omega (arith, c.in_ok-reserve_for.ensures.room (ap (is_never_refused c.args.a.request) c.judge-outcome.ensures.verdict ∙ none), full, ap (λ (g : GateData). length g.records) c.self.view_is))

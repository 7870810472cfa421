-- What a request's record does, by what is found to judge it, is what the definitions say.
use Rattle.std.proofs.Common.{◌≡◌, refl, ◌∙◌, ap}
use Rattle.std.specs.Prelude.{Option}
use Rattle.gx_units.specs.declared.names.AccountName.{AccountName}
use Rattle.gx_policy.specs.People.{account_of}
use Rattle.gx_history.specs.{declared.{live_order.LiveOrder.LiveOrder, «record».{Asked.Asked, RecordData.RecordData, Request.Request, Step.Step, Verdict.Verdict}}, World.{move_asked, move_by, world}}
use Rattle.gx_access_gate.specs.Gates.{GateData}
use Rattle.gx_core.specs.{Known.order_asked, Moves.{done_by, granted_move}}

by_request : (gate : GateData) (r : RecordData) (a : Asked) (q : Request) → a.request ≡ q
    → granted_move gate.policy r a (account_of gate.policy a.user) (order_asked gate (record a { request = q })) q ≡ move_asked gate.policy (world gate.policy gate.records) r a q
by_request gate r a (Request.Login m) asks = refl
by_request gate r a Request.Logout asks = refl
by_request gate r a (Request.Unreadable m) asks = refl
by_request gate r a (Request.Enter m) asks = refl
by_request gate r a (Request.Replace m) asks = refl
by_request gate r a (Request.Cancel m) asks = refl
by_request gate r a (Request.Command c) asks = refl

pub granted_is : (gate : GateData) (r : RecordData) (a : Asked) (account : Option AccountName) (named : Option LiveOrder) → account ≡ account_of gate.policy a.user → named ≡ order_asked gate a
    → granted_move gate.policy r a account named a.request ≡ move_asked gate.policy (world gate.policy gate.records) r a a.request
granted_is gate r a account named account_is named_is =
    ap (λ (x : Option AccountName). granted_move gate.policy r a x named a.request) account_is
    ∙ ap (λ (x : Option LiveOrder). granted_move gate.policy r a (account_of gate.policy a.user) x a.request) named_is
    ∙ by_request gate r a a.request refl

-- by the verdict
pub by_verdict : (gate : GateData) (r : RecordData) (a : Asked) (v : Verdict) → r.step ≡ Step.Asked a → r.verdict ≡ v → done_by gate r ≡ move_by gate.policy (world gate.policy gate.records) r v (Step.Asked a)
by_verdict gate r a v asks is =
    ap (λ (x : Verdict). move_by gate.policy (world gate.policy gate.records) r x r.step) is
    ∙ ap (λ (s : Step). move_by gate.policy (world gate.policy gate.records) r v s) asks

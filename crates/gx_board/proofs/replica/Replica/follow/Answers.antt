use Rattle.std.proofs.{Common.{◌∙◌, ◌++◌, List, ap, arith, length, subst, sym}, lemmas.List.length-append}
use mathlib.Core.List.{IsPrefix}
use Rattle.gx_policy.specs.declared.policy.PolicyData.{PolicyData}
use Rattle.gx_history.specs.{declared.record.RecordData.RecordData, Verdicts.IsLegal}
use Rattle.gx_access_gate.specs.Gates.{GateData}
use Rattle.gx_pass.proofs.Lists_prefix.{prefix_length, prefix_trans}
use Rattle.gx_board.proofs.Replica_next.{if_ok, is_fewer, is_no_fewer, portion}
use Rattle.gx_board.proofs.replica.Replica.follow.Goals as goal

pub take-requires : goal.take-requires
take-requires g c =
    let next = (portion (g.D.Door.observed c.args.pass).front (g.D.Door.observed c.records-pass.result.0).front c.args.self.now.records c.as_slice.result.now c.length-from.result c.records-pass.ensures.later.legal c.requires.replica.begins
    c.records-pass.ensures.later.front (c.length-from.ensures.count ∙ ap (λ (gate : GateData). length gate.records) c.self.view_is)
    (c.as_slice.ensures.value ∙ if_ok _ c.records-pass.result.1 c.in-Ok.records c.in-Ok.is c.records-pass.ensures.records)) in
    record { legal = subst (λ (p : PolicyData). IsLegal p (c.args.self.now.records ++ c.as_slice.result.now)) (sym c.requires.replica.same) next.legal }

pub returns-in-Ok-take-clause-replica : goal.returns-in-Ok-take-clause-replica
returns-in-Ok-take-clause-replica g c =
    let next = (portion (g.D.Door.observed c.args.pass).front (g.D.Door.observed c.records-pass.result.0).front c.args.self.now.records c.as_slice.result.now c.length-from.result c.records-pass.ensures.later.legal c.requires.replica.begins
    c.records-pass.ensures.later.front (c.length-from.ensures.count ∙ ap (λ (gate : GateData). length gate.records) c.self.view_is)
    (c.as_slice.ensures.value ∙ if_ok _ c.records-pass.result.1 c.in-Ok.records c.in-Ok.is c.records-pass.ensures.records)) in
    record {
      same = c.take.ensures.policy ∙ c.requires.replica.same;
      begins = subst (λ (records : List RecordData). IsPrefix records (g.D.Door.observed c.records-pass.result.0).front) (sym c.in-Ok-take.ensures.all) next.begins;
    }

pub returns-in-Ok-take-clause-all : goal.returns-in-Ok-take-clause-all
returns-in-Ok-take-clause-all g c =
    let next = (portion (g.D.Door.observed c.args.pass).front (g.D.Door.observed c.records-pass.result.0).front c.args.self.now.records c.as_slice.result.now c.length-from.result c.records-pass.ensures.later.legal c.requires.replica.begins
    c.records-pass.ensures.later.front (c.length-from.ensures.count ∙ ap (λ (gate : GateData). length gate.records) c.self.view_is)
    (c.as_slice.ensures.value ∙ if_ok _ c.records-pass.result.1 c.in-Ok.records c.in-Ok.is c.records-pass.ensures.records)) in
    λ fewer. c.in-Ok-take.ensures.all ∙ next.all (omega (arith, c.len.ensures, c.as_slice.ensures.len, is_fewer c.len.result fewer))

pub returns-in-Ok-take-clause-most : goal.returns-in-Ok-take-clause-most
returns-in-Ok-take-clause-most g c =
    let next = (portion (g.D.Door.observed c.args.pass).front (g.D.Door.observed c.records-pass.result.0).front c.args.self.now.records c.as_slice.result.now c.length-from.result c.records-pass.ensures.later.legal c.requires.replica.begins
    c.records-pass.ensures.later.front (c.length-from.ensures.count ∙ ap (λ (gate : GateData). length gate.records) c.self.view_is)
    (c.as_slice.ensures.value ∙ if_ok _ c.records-pass.result.1 c.in-Ok.records c.in-Ok.is c.records-pass.ensures.records)) in
    omega (arith, ap length c.in-Ok-take.ensures.all, length-append c.args.self.now.records c.as_slice.result.now, next.short)

pub returns-in-Ok-take-clause-further : goal.returns-in-Ok-take-clause-further
returns-in-Ok-take-clause-further g c =
    let next = (portion (g.D.Door.observed c.args.pass).front (g.D.Door.observed c.records-pass.result.0).front c.args.self.now.records c.as_slice.result.now c.length-from.result c.records-pass.ensures.later.legal c.requires.replica.begins
    c.records-pass.ensures.later.front (c.length-from.ensures.count ∙ ap (λ (gate : GateData). length gate.records) c.self.view_is)
    (c.as_slice.ensures.value ∙ if_ok _ c.records-pass.result.1 c.in-Ok.records c.in-Ok.is c.records-pass.ensures.records)) in
    λ more. omega (arith, ap length c.in-Ok-take.ensures.all, length-append c.args.self.now.records c.as_slice.result.now, next.short, c.len.ensures, c.as_slice.ensures.len, is_no_fewer c.len.result more)

pub returns-clause-replica : goal.returns-clause-replica
returns-clause-replica g c =
    let next = (portion (g.D.Door.observed c.args.pass).front (g.D.Door.observed c.records-pass.result.0).front c.args.self.now.records c.as_slice.result.now c.length-from.result c.records-pass.ensures.later.legal c.requires.replica.begins
    c.records-pass.ensures.later.front (c.length-from.ensures.count ∙ ap (λ (gate : GateData). length gate.records) c.self.view_is)
    (c.as_slice.ensures.value ∙ if_ok _ c.records-pass.result.1 c.in-Ok.records c.in-Ok.is c.records-pass.ensures.records)) in
    record {
      same = c.take.ensures.policy ∙ c.requires.replica.same;
      begins = prefix_trans c.take.new.self.records (c.args.self.now.records ++ c.as_slice.result.now) (g.D.Door.observed c.records-pass.result.0).front c.take.ensures.front next.begins;
    }

pub returns-clause-most : goal.returns-clause-most
returns-clause-most g c =
    let next = (portion (g.D.Door.observed c.args.pass).front (g.D.Door.observed c.records-pass.result.0).front c.args.self.now.records c.as_slice.result.now c.length-from.result c.records-pass.ensures.later.legal c.requires.replica.begins
    c.records-pass.ensures.later.front (c.length-from.ensures.count ∙ ap (λ (gate : GateData). length gate.records) c.self.view_is)
    (c.as_slice.ensures.value ∙ if_ok _ c.records-pass.result.1 c.in-Ok.records c.in-Ok.is c.records-pass.ensures.records)) in
    omega (arith, prefix_length c.take.new.self.records (c.args.self.now.records ++ c.as_slice.result.now) c.take.ensures.front, length-append c.args.self.now.records c.as_slice.result.now, next.short)

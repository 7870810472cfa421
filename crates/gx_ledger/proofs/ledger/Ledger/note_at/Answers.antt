use Rattle.std.proofs.{Common.{◌∙◌, None, Some, ap, sym, rules}, lemmas.{List.{places, with_items_is}, Option.get_or_from_slice_get}}
use Rattle.std.specs.Vec.{with_items}
use Rattle.gx_ledger.specs.{Accounts.account_place, Keeping.{LedgerData, data_after, tallies_after}, contracts.ledger.Ledger.the_view}
use Rattle.gx_ledger.proofs.Tallies_told.{his_list, kept_told, still_counted, told_his}
use Rattle.gx_ledger.proofs.ledger.Ledger.note_at.Goals as goal

pub invariant_of-self : goal.invariant_of-self
invariant_of-self c =
    let kept = c.self.inside in
    let written = with_items_is kept.tallies c.note_in_all.new.tallies (search (rules, places)) in
    still_counted kept.accounts.keys kept.tallies.items (with_items kept.tallies c.note_in_all.new.tallies).items kept.counting.items c.args.change.now None c.self.invariant
    (written ∙ c.note_in_all.ensures ∙ ap (tallies_after c.args.change.now None) c.deref_mut.ensures.value)

pub invariant_of-self-2 : goal.invariant_of-self-2
invariant_of-self-2 c =
    let kept = c.self.inside in
    let x = c.args.change.now.order.account in
    let place = c.in-Some.place in
    let at = ap (λ (k : LedgerData). account_place k.accounts x) c.self.view_is ∙ sym c.requires ∙ c.in-Some.is in
    let written = with_items_is kept.tallies c.note_in.new.tallies (search (rules, places)) in
    let his = his_list kept.accounts.keys kept.tallies.items kept.counting.items x place c.self.invariant at in
    still_counted kept.accounts.keys kept.tallies.items (with_items kept.tallies c.note_in.new.tallies).items kept.counting.items c.args.change.now (Some place) c.self.invariant
    (written
    ∙ told_his c.args.change.now place kept.accounts.keys kept.tallies.items c.as_slice-counting.result.now _ c.note_in.new.tallies c.note_in.ensures c.deref_mut-2.ensures.value at
    (c.as_slice-counting.ensures ∙ c.index.ensures ∙ get_or_from_slice_get kept.counting.items place _ c.index.result.now his))

pub returns : goal.returns
returns c =
    let kept = c.self.inside in
    let x = c.args.change.now.order.account in
    let place = c.in-Some.place in
    let at = ap (λ (k : LedgerData). account_place k.accounts x) c.self.view_is ∙ sym c.requires ∙ c.in-Some.is in
    let written = with_items_is kept.tallies c.note_in.new.tallies (search (rules, places)) in
    let his = his_list kept.accounts.keys kept.tallies.items kept.counting.items x place c.self.invariant at in
    kept_told c.args.change.now (the_view kept) (Some place) (with_items kept.tallies c.note_in.new.tallies).items at
    (written
    ∙ told_his c.args.change.now place kept.accounts.keys kept.tallies.items c.as_slice-counting.result.now _ c.note_in.new.tallies c.note_in.ensures c.deref_mut-2.ensures.value at
    (c.as_slice-counting.ensures ∙ c.index.ensures ∙ get_or_from_slice_get kept.counting.items place _ c.index.result.now his))
    ∙ ap (data_after c.args.change.now) c.self.view_is

use Rattle.std.proofs.Common.{◌∙◌, ap, sym, arith}
use Rattle.gx_ledger.specs.{Running.changed_group, Tallies.changed_at}
use Rattle.gx_ledger.proofs.Lists_changed.{past_is_unchanged, set_is_changed}
use Rattle.gx_ledger.proofs.groups.Groups.note.Goals as goal

pub returns-then-place-len : goal.returns-then-place-len
returns-then-place-len c =
    let change = changed_group c.args.change.now in
    set_is_changed change c.self.inside.items.items c.args.place c.note.new.self c.index_mut.result.now (omega (arith, c.if-place-len.true, c.len.ensures)) (c.note.ensures ∙ ap change c.index_mut.ensures.value)
    ∙ ap (changed_at c.args.place change) c.self.view_is

pub returns-else-place-len : goal.returns-else-place-len
returns-else-place-len c =
    sym c.self.view_is
    ∙ past_is_unchanged (changed_group c.args.change.now) c.self.inside.items.items c.args.place (omega (arith, c.if-place-len.false, c.len.ensures))
    ∙ ap (changed_at c.args.place (changed_group c.args.change.now)) c.self.view_is

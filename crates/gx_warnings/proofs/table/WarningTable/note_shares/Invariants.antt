use Rattle.std.proofs.Common.{◌≡◌, fold, take}
use Rattle.gx_warnings.specs.Noting.{with_share}
use Rattle.gx_warnings.proofs.table.WarningTable.note_shares.Given as goal

abbrev pub invariant-loop-share : goal.invariant-loop-share
invariant-loop-share l = l.self.entries.entries ≡ fold (with_share l.key l.figure l.now) l.initial.self.entries.entries (take l.share-index l.shares)

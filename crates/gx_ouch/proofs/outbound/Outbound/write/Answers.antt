use Rattle.std.proofs.Common.{rules}
use Rattle.gx_ouch.proofs.Fields_placed.{outbound_known_to_lie}
use Rattle.gx_ouch.proofs.outbound.Outbound.write.Goals as goal

pub returns-clause-fields : goal.returns-clause-fields
returns-clause-fields c =
    outbound_known_to_lie c.args.timestamp c.args.self.now _ (search rules) c.draft.ensures.sizes

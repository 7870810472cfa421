use Rattle.std.proofs.{Common.{sym, ◌∙◌, arith}, lemmas.Grind.common_steps}
use Rattle.gx_soup.proofs.Feeder_call.{fed_stuck, fed_on}
use Rattle.gx_soup.proofs.feeder.Feeder.feed_into.Goals as goal

pub returns-then-is_some-clause-fed : goal.returns-then-is_some-clause-fed
returns-then-is_some-clause-fed c =
    fed_stuck _ _ _ _ c.self.view_is (sym c.is_some.ensures ∙ c.if-is_some.true) _ c.clear.ensures.items

pub returns-in-Ok-clause-fed : goal.returns-in-Ok-clause-fed
returns-in-Ok-clause-fed c =
    fed_on _ _ _ _ c.self.view_is (sym c.is_some.ensures ∙ c.if-is_some.false) _ _ c.drop_front.new.bytes.items (grind (arith, common_steps))

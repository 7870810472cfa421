use Rattle.gx_soup.proofs.Packets_next.{packets_nil}
use Rattle.gx_soup.proofs.feeder.Feeder.new.Goals as goal

pub returns : goal.returns
returns c =
    record { rest = rw (c.new.ensures.items, packets_nil); fault = rw packets_nil }

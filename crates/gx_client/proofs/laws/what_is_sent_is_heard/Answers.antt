use Rattle.std.proofs.Common.{◌++◌, ap, ◌∙◌}
use Rattle.gx_soup.specs.{declared.packet.ClientPacket.TheVariants.Data, Packets.packets_of}
use Rattle.gx_soup.proofs.Packets_laws.{read_back}
use Rattle.gx_client.proofs.laws.what_is_sent_is_heard.Goals as goal

pub returns : goal.returns
returns c =
    record {
      command = λ bytes rest command sent. ap (λ bs. packets_of (bs ++ rest)) sent.packet ∙ read_back (Data sent.message) rest sent.within;
      order = λ bytes rest order sent. ap (λ bs. packets_of (bs ++ rest)) sent.packet ∙ read_back (Data sent.message) rest sent.within;
    }

-- What is told of what stands first in a text, and the packets behind which it is put.
use Rattle.std.specs.Prelude.{List, [], ◌∷◌, ◌++◌}
use Rattle.gx_soup.specs.{declared.{packet.ClientPacket.ClientPacket, front.First.First}, Packets.{Front, Short, Faulty, Whole}}

-- all but the packet
abbrev pub first_of_front : Front → First
first_of_front Short = First.Short
first_of_front (Faulty fault) = First.Faulty fault
first_of_front (Whole packet taken) = First.Whole taken

-- the packet, if it is one, behind these
abbrev pub with_front : List ClientPacket → Front → List ClientPacket
with_front packets Short = packets
with_front packets (Faulty fault) = packets
with_front packets (Whole packet taken) = packets ++ packet ∷ []

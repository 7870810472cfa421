-- The laws of a server's packets, under their functions' names, for proofs of the crates above.
use Rattle.std.proofs.Common.{◌≡◌, ℕ, ◌<◌, true, List, [], ◌++◌, length, Option, Some, None, is_some, refl, sym, ap, ◌∙◌, append-nil, slice_index, arith}
use Rattle.gx_soup.specs.{declared.packet.ServerPacket.ServerPacket, Standard.longest_packet}
use Rattle.gx_client.specs.{declared.front.ServerFault.ServerFault, ServerPackets.{ServerSoup, server_packets_of}}
use Rattle.gx_client.proofs.{Packets_next.{joined, packets_join}, Feeder_call.joined_stuck, Rest_bounds.rest_len}

pub nothing_follows_a_fault : (bytes more : List ℕ) → is_some (server_packets_of bytes).fault ≡ true → server_packets_of (bytes ++ more) ≡ server_packets_of bytes
nothing_follows_a_fault bytes more h = packets_join bytes more ∙ joined_stuck (server_packets_of bytes) _ more h

grown : (soup : ServerSoup) (fault : Option ServerFault) (more : List ℕ) → (given : List ServerPacket) × ((joined soup fault more).packets ≡ soup.packets ++ given)
grown soup None more = ((server_packets_of (soup.rest ++ more)).packets, refl)
grown soup (Some f) more = ([], sym (append-nil soup.packets))

pub packets_grow : (bytes more : List ℕ) → (given : List ServerPacket) × ((server_packets_of (bytes ++ more)).packets ≡ (server_packets_of bytes).packets ++ given)
packets_grow bytes more =
    let g = grown (server_packets_of bytes) (server_packets_of bytes).fault more in
    (g.0, ap (λ (s : ServerSoup). s.packets) (packets_join bytes more) ∙ g.1)

pub little_is_held_back : (bytes : List ℕ) → ((i : ℕ) → slice_index bytes i < 256) → length (server_packets_of bytes).rest < longest_packet
little_is_held_back bytes h = rest_len (length bytes) bytes (omega arith) h

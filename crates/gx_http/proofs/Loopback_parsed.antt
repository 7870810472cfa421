-- What a text that was read as an address, or as none, says of it.
use Rattle.std.proofs.{Common.{◌≡◌, ℕ, lit≤, false, List, [], ◌∷◌, Option, Some, None, refl, ap, subst, append-nil, sym, ◌∙◌}, NetLemmas.Ipv4.{read_ipv4_complete, read_ipv4_sound}}
use Rattle.std.specs.{Prelude.{◌==◌, slice_index}, Net.{Addr.ipv4_octets, Grammar.IsIpv4Text, Reader.read_ipv4}, declared.net.ipv4_addr.Ipv4Addr.Ipv4Addr}
use Rattle.gx_http.specs.Hosts.{is_loopback_address, is_loopback_found}

-- what was read as this address is a loopback address if the first of its numbers is 127
pub address_parsed : (text : List ℕ) (a : Ipv4Addr) → IsIpv4Text text a → is_loopback_address text ≡ (slice_index (ipv4_octets a) 0 == 127)
address_parsed text a is =
    let whole : read_ipv4 text ≡ Some (ipv4_octets a, []) =
    subst (λ (bytes : List ℕ). read_ipv4 bytes ≡ Some (ipv4_octets a, [])) (append-nil text) (read_ipv4_complete text (ipv4_octets a) [] is (lit≤ tt)) in
    ap is_loopback_found whole

-- and what was read as none is none
pub none_parsed : (text : List ℕ) → ((a : Ipv4Addr) → IsIpv4Text text a → ⊥) → is_loopback_address text ≡ false
none_parsed text not = go (read_ipv4 text) refl
  where
    go : (r : Option (List ℕ × List ℕ)) → read_ipv4 text ≡ r → is_loopback_address text ≡ false
    go None e = ap is_loopback_found e
    go (Some (numbers, [])) e =
        let (front, split, dotted) = read_ipv4_sound text numbers [] e in
        absurd (not (record { octets = numbers }) (subst (λ (bytes : List ℕ). IsIpv4Text bytes (record { octets = numbers })) (sym (split ∙ append-nil front)) dotted))
    go (Some (numbers, byte ∷ rest)) e = ap is_loopback_found e

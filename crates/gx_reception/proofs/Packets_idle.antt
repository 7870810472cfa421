-- Packets that leave a session as it is before a login.
use Rattle.std.proofs.{Common.{◌≡◌, ◌≢◌, ◌<◌, ◌≤◌, ℕ, ◌+◌, drop, length, slice_index_or, inl, inr, ◌⊎◌, true, false, List, [], ◌∷◌, ◌++◌, Option, Some, None, if◌then◌else◌, refl, sym, ap, subst, ◌∙◌, arith}, KnownBytes.{Consumes-nil, Consumes-trans}, lemmas.List.drop_more, Math.ListN.drop_of_length-le}
use Rattle.std.specs.Io.KnownBytes.{Consumes, IsAtEnd}
use Rattle.gx_devices.specs.Devices.{one_more}
use Rattle.gx_soup.specs.{declared.packet.{LoginRequest.LoginRequest, ClientPacket.ClientPacket, SoupFault.SoupFault}, Feeding.{Gives, Held, HasRead}, Packets.packets_of}
use Rattle.gx_reception.specs.{declared.opening.Knock.Knock, Arrivals.{ComesTo, IsKnock, Knocks}, Openings.{from_first, is_idle, IsIdle, IsOther}}

-- the first of these is another one
pub first_here : (packets behind : List ClientPacket) (p : ClientPacket) → packets ≡ p ∷ behind → is_idle p ≡ false → packets ≡ from_first packets
first_here packets behind p split other = split ∙ sym (ap (λ b. if b then from_first behind else p ∷ behind) other) ∙ sym (ap from_first split)

-- the first of these is idle
pub first_later : (packets behind : List ClientPacket) (p : ClientPacket) → packets ≡ p ∷ behind → is_idle p ≡ true → from_first packets ≡ from_first behind
first_later packets behind p split idle = ap from_first split ∙ ap (λ b. if b then from_first behind else p ∷ behind) idle

is_there : List ClientPacket → Type 0
is_there [] = ⊥
is_there (p ∷ packets) = Unit {0}

-- behind idle packets
pub first_behind : (packets more : List ClientPacket) → from_first packets ≡ [] → from_first (packets ++ more) ≡ from_first more
unfolding is_there
first_behind [] more idle = refl
first_behind (ClientPacket.Heartbeat ∷ packets) more idle = first_behind packets more idle
first_behind (ClientPacket.Debug ∷ packets) more idle = first_behind packets more idle
first_behind (ClientPacket.Login login ∷ packets) more idle = absurd (subst is_there idle tt)
first_behind (ClientPacket.Data payload ∷ packets) more idle = absurd (subst is_there idle tt)
first_behind (ClientPacket.Logout ∷ packets) more idle = absurd (subst is_there idle tt)

-- what a piece brings behind bytes that are idle is what all of them come to
pub brought : (feeder : Held) (before piece : List ℕ) (given : List ClientPacket) (told : Option SoupFault) → Gives given told feeder before piece → IsIdle before
    → from_first (packets_of (before ++ piece)).packets ≡ from_first given
brought feeder before piece given told gives idle = ap from_first gives.packets ∙ first_behind (packets_of before).packets given idle.packets

-- a packet in this place that is no login
pub is_other : (packets : List ClientPacket) (at : ℕ) (p : ClientPacket) → at < length packets → p ≡ slice_index_or packets at p → ((login : LoginRequest) → p ≢ ClientPacket.Login login) → IsOther (drop at packets)
is_other packets at p within is other = record {
  first = p;
  behind = drop (at + 1) packets;
  split = drop_more packets at p within ∙ ap (λ (q : ClientPacket). q ∷ drop (at + 1) packets) (sym is);
  other = other;
}

-- what comes behind idle packets is what a piece brings
pub comes_knocking : (feeder : Held) (before piece : List ℕ) (given packets : List ClientPacket) (told : Option SoupFault) (k : Knock) → Gives given told feeder before piece → IsIdle before
    → packets ≡ from_first given → IsKnock packets told feeder k → ComesTo (before ++ piece) ⊥ k
comes_knocking feeder before piece given packets told (Knock.Login opening) gives idle first is = record {
  packets = brought feeder before piece given told gives idle ∙ sym first ∙ sym is.0;
  fault = sym gives.fault ∙ sym is.1;
  reads = subst (λ f. HasRead f (before ++ piece)) (sym is.2) gives.reads;
}
comes_knocking feeder before piece given packets told Knock.Other gives idle first is =
    subst IsOther (first ∙ sym (brought feeder before piece given told gives idle)) is
comes_knocking feeder before piece given packets told (Knock.Broken found) gives idle first is = absurd is
comes_knocking feeder before piece given packets told Knock.Refused gives idle first is = absurd is
comes_knocking feeder before piece given packets told Knock.Ended gives idle first is = absurd is

-- no place is left for another packet
pub none_first : (given : List ClientPacket) (at : ℕ) → drop at given ≡ from_first given → length given ≤ at → [] ≡ from_first given
none_first given at place within = sym (drop_of_length-le given within) ∙ place

-- nothing but idle packets, and then a fault
pub comes_broken : (feeder : Held) (before piece : List ℕ) (given : List ClientPacket) (told : Option SoupFault) (found : SoupFault) → Gives given told feeder before piece → IsIdle before
    → [] ≡ from_first given → told ≡ Some found → ComesTo (before ++ piece) ⊥ (Knock.Broken found)
comes_broken feeder before piece given told found gives idle none is = record {
  packets = brought feeder before piece given told gives idle ∙ sym none;
  fault = sym gives.fault ∙ is;
}

-- nothing but idle packets
pub stays_idle : (feeder : Held) (before piece : List ℕ) (given : List ClientPacket) (told : Option SoupFault) → Gives given told feeder before piece → IsIdle before
    → [] ≡ from_first given → told ≡ None → IsIdle (before ++ piece)
stays_idle feeder before piece given told gives idle none is = record {
  packets = brought feeder before piece given told gives idle ∙ sym none;
  fault = sym gives.fault ∙ is;
}

-- what was read so far is idle
pub record Waits (input left : Option (List ℕ)) (feeder : Held) : Type 0 where
  pub bytes : List ℕ
  pub consumed : Consumes input left bytes
  pub reads : HasRead feeder bytes
  pub idle : IsIdle bytes

idle_nothing : IsIdle []
unfolding packets_of
idle_nothing = record { packets = refl; fault = refl }

pub waits_first : (input : Option (List ℕ)) (feeder : Held) → HasRead feeder [] → Waits input input feeder
waits_first input feeder reads = record { bytes = []; consumed = Consumes-nil input; reads = reads; idle = idle_nothing }

comes_so : (bytes : List ℕ) (Ended : Type 0) (k : Knock) → ComesTo bytes ⊥ k → ComesTo bytes Ended k
comes_so bytes Ended (Knock.Login opening) comes = comes
comes_so bytes Ended Knock.Other comes = comes
comes_so bytes Ended (Knock.Broken found) comes = comes
comes_so bytes Ended Knock.Refused comes = comes
comes_so bytes Ended Knock.Ended comes = absurd comes.1

pub knocks_then : (input mid left : Option (List ℕ)) (feeder : Held) (piece : List ℕ) (failed : ℕ) (k : Knock) → Waits input mid feeder → Consumes mid left piece
    → ((before : List ℕ) → HasRead feeder before → IsIdle before → ComesTo (before ++ piece) ⊥ k) → Knocks input left failed k
knocks_then input mid left feeder piece failed k w took comes = record {
  bytes = w.bytes ++ piece;
  consumed = Consumes-trans input mid left w.bytes piece w.consumed took;
  comes = comes_so (w.bytes ++ piece) (IsAtEnd left ⊎ (0 < failed)) k (comes w.bytes w.reads w.idle);
}

some_failed : (failed failed' : ℕ) → failed' ≡ one_more failed → 0 < failed'
some_failed failed failed' count = omega (arith, count)

pub ended_so : (left : Option (List ℕ)) (failed failed' : ℕ) → IsAtEnd left ⊎ (failed' ≡ one_more failed) → IsAtEnd left ⊎ (0 < failed')
ended_so left failed failed' (inl end) = inl end
ended_so left failed failed' (inr count) = inr (some_failed failed failed' count)

use Rattle.std.proofs.{Common.{◌≡◌, List, [], ◌∷◌, drop, length, ◌+◌, refl, sym, ap, ◌∙◌, arith}, lemmas.List.drop_more, Math.Seq.drop-length}
use Rattle.gx_soup.specs.declared.packet.ClientPacket.{ClientPacket}
use Rattle.gx_reception.specs.Openings.{from_first}
use Rattle.gx_reception.proofs.Packets_idle.{first_here, first_later}
use Rattle.gx_reception.proofs.arriving.first_place.Goals as goal

pub loop-at-init : goal.loop-at-init
loop-at-init c = refl

pub returns-then-not-is_idle-clause-place : goal.returns-then-not-is_idle-clause-place
returns-then-not-is_idle-clause-place c =
    let packets : List ClientPacket = c.args.packets.now in
    let behind : List ClientPacket = drop (c.loop-at.at + 1) packets in
    let left = drop_more packets c.loop-at.at c.index-packets-at.result c.loop-at-test.true ∙ ap (λ (p : ClientPacket). p ∷ behind) (sym c.index-packets-at.is) in
    first_here (drop c.loop-at.at packets) behind c.index-packets-at.result left (sym c.is_idle.ensures ∙ c.if-not-is_idle.true) ∙ c.loop-at.invariant

pub loop-at-preserved : goal.loop-at-preserved
loop-at-preserved c =
    let packets : List ClientPacket = c.args.packets.now in
    let behind : List ClientPacket = drop (c.loop-at.at + 1) packets in
    let left = drop_more packets c.loop-at.at c.index-packets-at.result c.loop-at-test.true ∙ ap (λ (p : ClientPacket). p ∷ behind) (sym c.index-packets-at.is) in
    sym (first_later (drop c.loop-at.at packets) behind c.index-packets-at.result left (sym c.is_idle.ensures ∙ c.if-not-is_idle.false)) ∙ c.loop-at.invariant

pub returns-clause-place : goal.returns-clause-place
returns-clause-place c =
    let packets : List ClientPacket = c.args.packets.now in
    let none : drop (length packets) packets ≡ [] = drop-length packets in
    let last : c.loop-at.at ≡ length packets = omega (arith, c.loop-at-test.false, c.loop-at.auto.at-end) in
    none ∙ sym (ap from_first none) ∙ sym (ap (λ n. from_first (drop n packets)) last) ∙ c.loop-at.invariant

use Rattle.std.proofs.Common.{◌≡◌, ◌≤◌, ℕ, List, length, drop, subst, sym, ap, ◌∙◌}
use Rattle.gx_soup.specs.declared.packet.ClientPacket.{ClientPacket}
use Rattle.gx_reception.specs.Openings.{from_first}
use Rattle.gx_reception.proofs.Packets_idle.{comes_broken, none_first, stays_idle}
use Rattle.gx_reception.proofs.arriving.take_piece.Goals as goal

pub returns-in-Some-clause-comes : goal.returns-in-Some-clause-comes
returns-in-Some-clause-comes c before reads idle =
    let given : List ClientPacket = c.in-Ok.fed.packets.items in
    let at : ℕ = c.first_place-at.result in
    let place : drop at given ≡ from_first given = subst (λ (ps : List ClientPacket). drop at ps ≡ from_first ps) c.deref.ensures.value c.first_place-at.ensures.place in
    let within : length given ≤ at = subst (λ n. n ≤ at) (c.len.ensures ∙ sym c.deref.ensures.len ∙ ap (λ (ps : List ClientPacket). length ps) c.deref.ensures.value) c.if-at-len.false in
    comes_broken _ before c.args.piece.now given c.in-Ok.fed.fault c.in-Some.fault (c.in-Ok.ensures.fed before reads) idle (none_first given at place within) c.in-Some.is

pub returns-in-None-clause-idle : goal.returns-in-None-clause-idle
returns-in-None-clause-idle c before reads idle =
    let given : List ClientPacket = c.in-Ok.fed.packets.items in
    let at : ℕ = c.first_place-at.result in
    let place : drop at given ≡ from_first given = subst (λ (ps : List ClientPacket). drop at ps ≡ from_first ps) c.deref.ensures.value c.first_place-at.ensures.place in
    let within : length given ≤ at = subst (λ n. n ≤ at) (c.len.ensures ∙ sym c.deref.ensures.len ∙ ap (λ (ps : List ClientPacket). length ps) c.deref.ensures.value) c.if-at-len.false in
    ((c.in-Ok.ensures.fed before reads).reads, stays_idle _ before c.args.piece.now given c.in-Ok.fed.fault (c.in-Ok.ensures.fed before reads) idle (none_first given at place within) c.in-None.is)

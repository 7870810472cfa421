use Rattle.std.proofs.{Common.{length, refl, sym}, lemmas.{Bool.ltb-true, Option.slice_get_read}}
use Rattle.gx_gate_state.proofs.AccountNames_only.{place_near}
use Rattle.gx_gate_state.proofs.listed.find_place_near.Goals as goal

pub returns-in-Some : goal.returns-in-Some
returns-in-Some c =
    let accounts = c.args.accounts.now in
    let found = c.in-Some.ensures.lookup in
    place_near accounts c.args.near c.args.name c.in-Some.there.now c.requires
    (slice_get_read accounts (length accounts) c.args.near c.in-Some.there.now refl (ltb-true c.args.near (length accounts) (sym found.0)) found.1) (sym c.if-eq.ensures)

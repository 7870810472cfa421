use Rattle.std.proofs.Common.{◌≡◌, ◌∙◌, ap, sym}
use Rattle.std.specs.Prelude.{ℕ, Some, option_map}
use Rattle.gx_history.specs.Readers.{reader_in}
use Rattle.gx_policy.specs.declared.policy.User.{User}
use Rattle.gx_streams.specs.Streams.{with_reader_entitled}
use Rattle.gx_gate_state.proofs.Readers_next.{room_named, sent_named, with_is}
use Rattle.gx_gate_state.proofs.settings.grant.Goals as goal

pub grant-requires-clause-room : goal.grant-requires-clause-room
grant-requires-clause-room c =
    room_named c.args.people.now (reader_in c.args.people.now c.args.written) c.in-Some.reader c.args.account (sym c.reader_named.ensures.name ∙ c.in-Some.is) c.requires.room

pub returns-clause-streams : goal.returns-clause-streams
returns-clause-streams c =
    let named : option_map (λ (u : User). u.name) (reader_in c.args.people.now c.args.written) ≡ Some c.in-Some.reader = sym c.reader_named.ensures.name ∙ c.in-Some.is in
    c.in_ok-entitle.ensures.ok
    ∙ ap (λ (mask : ℕ). with_reader_entitled c.in-Some.reader mask c.args.streams.now)
    (c.mask_with.ensures ∙ with_is c.args.policy.now c.args.people.now c.grant.new.self c.in-Some.reader c.args.account c.grant.ensures.pair)
    ∙ sym (sent_named c.args.policy.now c.grant.new.self c.args.streams.now (reader_in c.args.people.now c.args.written) c.in-Some.reader named)

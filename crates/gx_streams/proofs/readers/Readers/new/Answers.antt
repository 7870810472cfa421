use Rattle.std.proofs.Common.{◌≡◌, true, List, take, ◌∙◌, ap, sym, subst}
use Rattle.std.specs.Map.{values_of}
use Rattle.gx_units.specs.Names.{same_user}
use Rattle.gx_policy.specs.{Lists.are_distinct, declared.policy.User.User}
use Rattle.gx_laws.proofs.Names_differ.{users_differ}
use Rattle.gx_streams.specs.Spans.{AreNamed, AreWithin}
use Rattle.gx_streams.proofs.{Readers_named.{reader_next}, Accounts_read.within_first}
use Rattle.gx_streams.proofs.readers.Readers.new.Goals as goal

-- one more reader
pub loop-user-preserved : goal.loop-user-preserved
loop-user-preserved c =
    let before = c.loop-user.invariant in
    let users : List User = c.users-user-items.result.now in
    let differ : are_distinct (λ (a b : User). same_user a.name b.name) users ≡ true =
    ap (are_distinct (λ (a b : User). same_user a.name b.name)) before.users ∙ users_differ c.args.policy.now before.sound
    in
    let more = reader_next c.loop-user.by_name.entries users c.loop-user.user-index c.user-item.result c.new.result differ before.are before.named c.loop-user-test.true c.user-item.is
    (sym c.is_reader.ensures ∙ c.if-not-is_reader.false) c.new.ensures
    in
    record {
      are = ap values_of c.in_ok-insert.ensures.entries ∙ more.0;
      named = subst AreNamed (sym c.in_ok-insert.ensures.entries) more.1;
      users = before.users;
      sound = before.sound;
    }

pub invariant_of-result : goal.invariant_of-result
invariant_of-result c =
    let before = c.loop-user.invariant in
    record {
      named = before.named;
      within = subst (AreWithin 0) (sym before.are) (within_first (take c.loop-user.user-index c.users-user-items.result.now));
    }

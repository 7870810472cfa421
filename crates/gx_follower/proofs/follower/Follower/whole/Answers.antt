use Rattle.std.proofs.Common.{◌≡◌, subst}
use Rattle.std.specs.Prelude.{None}
use Rattle.gx_follower.specs.Followers.{AreWhole, FollowerData}
use Rattle.gx_follower.proofs.Reading_stands.{are_whole}
use Rattle.gx_follower.proofs.follower.Follower.whole.Goals as goal

pub returns-clause-whole : goal.returns-clause-whole
returns-clause-whole g c =
    subst (λ (f : FollowerData). f.fault ≡ None → AreWhole f.policy f.read f.records f.whole) c.self.view_is
    (λ none. are_whole c.self.inside.reading (g.G.AccessGate.state c.self.inside.gate) (c.self.invariant none))

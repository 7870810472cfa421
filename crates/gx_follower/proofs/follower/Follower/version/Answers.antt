use Rattle.std.proofs.Common.{◌≡◌, subst}
use Rattle.std.specs.Prelude.{None, IfSome}
use Rattle.gx_audit_bytes.specs.Versions.{version_of}
use Rattle.gx_follower.specs.Followers.{FollowerData}
use Rattle.gx_follower.proofs.Reading_stands.{shows}
use Rattle.gx_follower.proofs.follower.Follower.version.Goals as goal

pub returns-clause-shown : goal.returns-clause-shown
returns-clause-shown g c =
    subst (λ (f : FollowerData). f.fault ≡ None → IfSome c.self.inside.reading.version (λ version. version_of f.read ≡ version)) c.self.view_is
    (λ none. shows c.self.inside.reading (g.G.AccessGate.state c.self.inside.gate) (c.self.invariant none))

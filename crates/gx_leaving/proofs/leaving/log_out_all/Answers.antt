use Rattle.std.proofs.Common.{◌≡◌, ◌<◌, List, length, get_or, sym, ap, ◌∙◌, subst}
use Rattle.gx_units.specs.Spelling.{folded_user}
use Rattle.gx_policy.specs.declared.policy.{PolicyData.PolicyData, User.User}
use Rattle.gx_leaving.specs.Logouts.{IsOff}
use Rattle.gx_leaving.proofs.Logout_call.{adds_more, one_more_off}
use Rattle.gx_leaving.proofs.leaving.log_out_all.Goals as goal

pub loop-place-preserved : goal.loop-place-preserved
loop-place-preserved g c =
    let i = c.loop-place.place in
    let u = c.index-users-place.result in
    let users = (g.G.AccessGate.state c.args.gate.now).policy.users in
    let counted : c.users-place-end.result.now ≡ users = c.users-place-end.ensures ∙ ap (λ (p : PolicyData). p.users) c.policy.ensures in
    let there : c.users.result.now ≡ users = c.users.ensures ∙ ap (λ (p : PolicyData). p.users) (c.policy-in-loop-place.ensures ∙ c.loop-place.invariant.policy) in
    let within : i < length users = subst (λ (us : List User). i < length us) counted c.loop-place-test.true in
    let is : u ≡ get_or users i u = subst (λ (us : List User). u ≡ get_or us i u) there c.index-users-place.is in
    let off = subst (λ (x : User). IsOff (g.G.AccessGate.state c.log_out.new.gate).records (folded_user x.name)) (sym c.index-users-place.is) c.log_out.ensures.off in
    record {
      policy = c.log_out.ensures.policy ∙ c.loop-place.invariant.policy;
      added =
          adds_more c.args.moment (g.G.AccessGate.state c.args.gate.now).records (g.G.AccessGate.state c.loop-place.gate).records (g.G.AccessGate.state c.log_out.new.gate).records c.loop-place.invariant.added c.log_out.ensures.added;
      off =
          one_more_off (g.G.AccessGate.state c.loop-place.gate).records (g.G.AccessGate.state c.log_out.new.gate).records users i u u within is c.loop-place.invariant.off c.log_out.ensures.others off;
    }

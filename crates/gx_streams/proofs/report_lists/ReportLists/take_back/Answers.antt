use Rattle.std.proofs.Common.{◌∙◌, ap, sym, true≢false}
use Rattle.std.specs.Prelude.{is_some}
use Rattle.gx_streams.specs.Kept.{is_known, without_last}
use Rattle.gx_streams.proofs.Users_table.{known_found, written_back}
use Rattle.gx_streams.proofs.report_lists.ReportLists.take_back.Goals as goal

-- the user is known
pub returns-in_default : goal.returns-in_default
returns-in_default c =
    absurd (true≢false (sym c.requires.known ∙ (ap (λ s. is_known s c.args.user) (sym c.self.view_is) ∙ known_found c.self.inside.by_user.entries c.args.user ∙ ap is_some (sym c.in_default.ensures.value))))

pub returns : goal.returns
returns c =
    written_back c.self.inside.by_user.entries _ c.args.self.now c.args.user without_last c.in-Some.stream.now c.take_back.new.self (c.get_mut_near.follows.holds c.take_back.new.self).0 c.take_back.ensures c.in-Some.ensures.unique c.in-Some.ensures.value c.self.view_is

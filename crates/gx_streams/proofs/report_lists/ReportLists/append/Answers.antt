use Rattle.std.proofs.{Common.{◌∙◌, ap, sym, true≢false}, lemmas.Result.{on_ok_weaker, on_err_weaker}}
use Rattle.std.specs.Prelude.{is_some}
use Rattle.gx_streams.specs.Kept.{with_last, is_known}
use Rattle.gx_streams.proofs.Users_table.{known_found, written_back, written_same}
use Rattle.gx_streams.proofs.report_lists.ReportLists.append.Goals as goal

-- the user is known
pub returns-in_default-clause-ok : goal.returns-in_default-clause-ok
returns-in_default-clause-ok c =
    absurd (true≢false (sym c.requires.known ∙ (ap (λ s. is_known s c.args.user) (sym c.self.view_is) ∙ known_found c.self.inside.by_user.entries c.args.user ∙ ap is_some (sym c.in_default.ensures.value))))

pub returns-clause-ok : goal.returns-clause-ok
returns-clause-ok c =
    on_ok_weaker c.push.result
    (λ done. written_back c.self.inside.by_user.entries _ c.args.self.now c.args.user (with_last c.args.entry) c.in-Some.stream.now c.push.new.self (c.get_mut_near.follows.holds c.push.new.self).0 done c.in-Some.ensures.unique c.in-Some.ensures.value c.self.view_is)
    c.push.ensures.ok

pub returns-clause-err : goal.returns-clause-err
returns-clause-err c =
    on_err_weaker c.push.result
    (λ same. written_same c.self.inside.by_user.entries _ c.args.self.now c.args.user c.in-Some.stream.now c.push.new.self (c.get_mut_near.follows.holds c.push.new.self).0 same c.in-Some.ensures.value c.self.view_is)
    c.push.ensures.err

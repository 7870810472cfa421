use Rattle.std.proofs.{Common.{ℕ, ◌≤◌, ◌∙◌, ap, subst, sym, true≢false}, lemmas.Result.{on_ok_weaker, on_err_weaker}}
use Rattle.std.specs.{Prelude.{Option, is_some}, Option.option_map_or}
use Rattle.gx_streams.specs.{declared.stored_report.StoredReport.StoredReport, Kept.{ReservedList, with_reserved, is_known, reserved_in}}
use Rattle.gx_streams.proofs.Users_table.{known_found, spare_found, written_back, written_same}
use Rattle.gx_streams.proofs.report_lists.ReportLists.reserve.Goals as goal

-- the user is known
pub returns-in_default-clause-ok : goal.returns-in_default-clause-ok
returns-in_default-clause-ok c =
    absurd (true≢false (sym c.requires.known ∙ (ap (λ s. is_known s c.args.user) (sym c.self.view_is) ∙ known_found c.self.inside.by_user.entries c.args.user ∙ ap is_some (sym c.in_default.ensures.value))))

pub returns-clause-ok : goal.returns-clause-ok
returns-clause-ok c =
    on_ok_weaker c.reserve.result
    (λ done. written_back c.self.inside.by_user.entries _ c.args.self.now c.args.user (with_reserved c.args.places) c.in-Some.stream.now c.reserve.new.self (c.get_mut_near.follows.holds c.reserve.new.self).0 done c.in-Some.ensures.unique c.in-Some.ensures.value c.self.view_is)
    c.reserve.ensures.ok

pub returns-clause-err : goal.returns-clause-err
returns-clause-err c =
    on_err_weaker c.reserve.result
    (λ same. written_same c.self.inside.by_user.entries _ c.args.self.now c.args.user c.in-Some.stream.now c.reserve.new.self (c.get_mut_near.follows.holds c.reserve.new.self).0 same c.in-Some.ensures.value c.self.view_is)
    c.reserve.ensures.err

pub returns-clause-enough : goal.returns-clause-enough
returns-clause-enough c = λ h.
    c.reserve.ensures.enough
    (subst (λ (n : ℕ). c.args.places ≤ n)
    (ap (λ s. reserved_in s c.args.user) (sym c.self.view_is) ∙ spare_found c.self.inside.by_user.entries c.args.user ∙ ap (λ (o : Option (ReservedList StoredReport)). option_map_or (λ (k : (ReservedList StoredReport)). k.reserved) o 0) (sym c.in-Some.ensures.value))
    h)

use Rattle.std.proofs.Common.{ℕ, ◌≡◌, ◌<◌, ◌∙◌, ap, sym, subst, arith}
use Rattle.std.specs.{Prelude.Option, Option.option_map_or}
use Rattle.gx_streams.specs.{declared.stored_report.StoredReport.StoredReport, Kept.{ReservedList, with_reserved_last, reserved_in}}
use Rattle.gx_streams.proofs.Users_table.{spare_found, written_back}
use Rattle.gx_streams.proofs.report_lists.ReportLists.append_reserved.Goals as goal

-- a place is reserved, so the user is known
pub returns-in_default : goal.returns-in_default
returns-in_default c =
    let none : reserved_in c.args.self.now c.args.user ≡ 0 =
    ap (λ s. reserved_in s c.args.user) (sym c.self.view_is) ∙ spare_found c.self.inside.by_user.entries c.args.user ∙ ap (λ (o : Option (ReservedList StoredReport)). option_map_or (λ (k : (ReservedList StoredReport)). k.reserved) o 0) (sym c.in_default.ensures.value)
    in
    absurd (omega (arith, none, c.requires))

pub push_reserved-requires : goal.push_reserved-requires
push_reserved-requires c =
    subst (λ (n : ℕ). 0 < n)
    (ap (λ s. reserved_in s c.args.user) (sym c.self.view_is) ∙ spare_found c.self.inside.by_user.entries c.args.user ∙ ap (λ (o : Option (ReservedList StoredReport)). option_map_or (λ (k : (ReservedList StoredReport)). k.reserved) o 0) (sym c.in-Some.ensures.value))
    c.requires

pub returns : goal.returns
returns c =
    written_back c.self.inside.by_user.entries _ c.args.self.now c.args.user (with_reserved_last c.args.entry) c.in-Some.stream.now c.push_reserved.new.self (c.get_mut_near.follows.holds c.push_reserved.new.self).0 c.push_reserved.ensures c.in-Some.ensures.unique c.in-Some.ensures.value c.self.view_is

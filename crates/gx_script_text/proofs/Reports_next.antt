-- The lines of one more report.
use Rattle.std.proofs.{Common.{◌≡◌, ℕ, ◌+◌, ◌<◌, List, [], ◌∷◌, ◌++◌, length, take, get_or, sym, ap, ◌∙◌, append_assoc, append-nil, arith, length-take}, lemmas.List.take_more}
use Rattle.gx_units.specs.declared.names.UserName.{UserName}
use Rattle.gx_history.specs.declared.report.Report.{Report}
use Rattle.gx_script_text.specs.Printing.{report_line, report_lines}

lines_behind : (user : UserName) (number : ℕ) (reports : List Report) (last : Report) (m : ℕ) → m ≡ number + length reports
    → report_lines user number (reports ++ last ∷ []) ≡ report_lines user number reports ++ report_line user m last
lines_behind user number [] last m e = append-nil (report_line user number last) ∙ ap (λ n. report_line user n last) (omega arith)
lines_behind user number (report ∷ reports) last m e =
    ap (λ t. report_line user number report ++ t) (lines_behind user (number + 1) reports last m (omega arith))
    ∙ sym (append_assoc (report_line user number report) (report_lines user (number + 1) reports) (report_line user m last))

lines_more : (user : UserName) (reports : List Report) (i : ℕ) (d : Report) → i < length reports
    → report_lines user 1 (take (i + 1) reports) ≡ report_lines user 1 (take i reports) ++ report_line user (i + 1) (get_or reports i d)
lines_more user reports i d within =
    ap (report_lines user 1) (take_more reports i d within)
    ∙ lines_behind user 1 (take i reports) (get_or reports i d) (i + 1) (omega (arith, length-take i reports))

-- one report's line more behind what stood there
pub printed_more : (user : UserName) (reports : List Report) (i : ℕ) (d : Report) (first before now : List ℕ) → i < length reports
    → before ≡ first ++ report_lines user 1 (take i reports) → now ≡ before ++ report_line user (i + 1) (get_or reports i d)
    → now ≡ first ++ report_lines user 1 (take (i + 1) reports)
printed_more user reports i d first before now within b n =
    let line = report_line user (i + 1) (get_or reports i d) in
    n ∙ (ap (λ t. t ++ line) b ∙ (append_assoc first (report_lines user 1 (take i reports)) line ∙ ap (λ t. first ++ t) (sym (lines_more user reports i d within))))

use Rattle.std.proofs.Common.{◌∙◌, ap, sym, true, false, Some, List, ℕ}
use Rattle.http1.specs.Text.{eq_ignore_case}
use Rattle.gx_http.proofs.FieldSearch_next.{found_here, found_later}
use Rattle.gx_http.proofs.credentials.value_named.Goals as goal

pub returns-then-eq_ignore_case : goal.returns-then-eq_ignore_case
returns-then-eq_ignore_case c =
    let named = ap (λ (name : List ℕ). eq_ignore_case name c.args.name.now) (sym c.of.ensures) ∙ sym c.eq_ignore_case.ensures ∙ c.if-eq_ignore_case.true in
    ap Some c.of-then-eq_ignore_case.ensures ∙ sym (c.loop-field.invariant ∙ found_here _ _ _ _ _ c.loop-field-test.true named)

pub loop-field-preserved : goal.loop-field-preserved
loop-field-preserved c =
    let named = ap (λ (name : List ℕ). eq_ignore_case name c.args.name.now) (sym c.of.ensures) ∙ sym c.eq_ignore_case.ensures ∙ c.if-eq_ignore_case.false in
    c.loop-field.invariant ∙ found_later _ _ _ _ _ c.loop-field-test.true named

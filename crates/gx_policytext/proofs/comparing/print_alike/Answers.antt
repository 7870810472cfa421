use Rattle.std.proofs.{Common.{codes, sym, ◌∙◌}, lemmas.Slice.Eq.bytes_eq-Decides}
use Rattle.gx_policytext.proofs.Values_depth.{prints_alike}
use Rattle.gx_policytext.proofs.comparing.print_alike.Goals as goal

pub returns : goal.returns
returns c t =
    prints_alike (codes "value") _ _ _ _ c.in-Ok.ensures c.in-Ok-text_of.ensures
    (sym c.as_str.ensures.value ∙ (bytes_eq-Decides c.as_str.result.now c.as_str-2.result.now).0 (sym c.eq.ensures ∙ t) ∙ c.as_str-2.ensures.value)

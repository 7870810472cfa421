use Rattle.std.proofs.Common.{rules, nat_eq, ap, ◌∙◌}
use Rattle.gx_button.proofs.Bytes_compared.{none_differs}
use Rattle.gx_button.proofs.token.same_token.Goals as goal

-- src/token.rt:46:1
pub returns : goal.returns
returns c = ap (λ n. nat_eq n 0) c.differences.ensures ∙ none_differs c.args.one.now.bytes c.args.other.now.bytes (search rules)

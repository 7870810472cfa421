use Rattle.std.proofs.{Common.{Err, ap, sym, ◌∙◌}, lemmas.Bool.false≢true}
use Rattle.gx_policyvalues.proofs.Tree_parsed.{tree_some, tree_none}
use Rattle.gx_policyvalues.proofs.parsing.tree.Goals as goal

pub returns-in-Ok : goal.returns-in-Ok
returns-in-Ok c = tree_some c.args.bytes.now _ c.in-Ok.ensures.ok

pub returns-else-is_memory : goal.returns-else-is_memory
returns-else-is_memory c m =
    tree_none c.args.bytes.now (c.in-Err.ensures.refused (λ h. false≢true (sym c.if-is_memory.false ∙ c.is_memory.ensures.1 h)))
    ∙ ap Err (sym (c.not_toml.ensures m))

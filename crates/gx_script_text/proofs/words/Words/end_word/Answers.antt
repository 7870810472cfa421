use Rattle.std.proofs.{Common.{◌+◌, ◌∙◌, ap, sym}, lemmas.{Bool.ltb-false, List.take_rest}}
use Rattle.gx_units.specs.Spelling.{is_space}
use Rattle.gx_script_text.proofs.Words_cut.{ends_at, ends_with}
use Rattle.gx_script_text.proofs.words.Words.end_word.Goals as goal

pub returns-in-None-clause-ends : goal.returns-in-None-clause-ends
returns-in-None-clause-ends c = λ ends. ends_with c.args.text.now c.args.end c.requires.word (ltb-false _ _ (sym c.in-None.ensures.lookup.0))

pub returns-in-Some-eq32-clause-ends : goal.returns-in-Some-eq32-clause-ends
returns-in-Some-eq32-clause-ends c = λ ends.
    let found = c.in-Some-eq32.ensures.lookup in
    rw (take_rest c.args.text.now (c.args.end + 1))
    (ends_at c.args.text.now c.args.end c.requires.word found.3.0 (ap is_space (sym (found.3.1 0) ∙ c.in-Some-eq32.field-0-test)))

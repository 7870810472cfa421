use Rattle.std.proofs.Common.{◌∙◌, ◌++◌, ◌-◌, not, take, replicate, ap, arith}
use Rattle.std.specs.List.{prefix_len}
use Rattle.gx_units.specs.Spelling.{is_visible}
use Rattle.gx_script_text.proofs.SixteenBytes_masks.{front_ends, front_field, front_visible}
use Rattle.gx_script_text.proofs.words.fill_at_once.Goals as goal

pub returns-clause-visible : goal.returns-clause-visible
returns-clause-visible g c =
    let counted = c.before_hidden.ensures ∙ ap (prefix_len (λ byte. not (not (is_visible byte)))) c.first_bytes-bytes.ensures in
    front_visible c.min-end.result 16 c.args.text.now (omega (arith, counted, c.min-end.ensures))

pub returns-clause-front : goal.returns-clause-front
returns-clause-front g c =
    c.copy_from_slice.ensures.after
    ∙ ap (take g.row.N) (c.with_spaces_from-filled.ensures ∙ ap (λ l. take c.min-end.result l ++ replicate (16 - c.min-end.result) 32) c.first_bytes-bytes.ensures)
    ∙ front_field g.row.N c.min-end.result c.args.text.now c.requires.room (omega (arith, c.min-end.ensures)) c.requires.wide

pub returns-clause-ends : goal.returns-clause-ends
returns-clause-ends g c =
    front_ends g.row.N c.before_hidden.result c.min-end.result c.args.text.now c.requires.room c.requires.wide
    (c.before_hidden.ensures ∙ ap (prefix_len (λ byte. not (not (is_visible byte)))) c.first_bytes-bytes.ensures)
    (λ below. omega (arith, below, c.min-end.ensures))

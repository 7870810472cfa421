use Rattle.gx_lines.proofs.answers.append_unknown_reader.Goals as goal

pub returns : goal.returns
returns c = rw c.is_in_capitals-in_capitals.ensures at c.append_hinted_pair.ensures

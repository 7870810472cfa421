use Rattle.gx_overview.proofs.owners.Owners.take_in.Goals as goal

pub returns : goal.returns
returns c = record {
  taken = record {
    numbered = c.in_ok-note_number.ensures.noted;
    under = λ user token. c.in_ok-insert.ensures.updates.0 (record { user = user; token = token });
  };
}

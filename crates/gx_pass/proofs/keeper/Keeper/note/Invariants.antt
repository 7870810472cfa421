use Rattle.gx_pass.proofs.keeper.Keeper.note.Given as goal

-- the record that is noted
abbrev pub ghosts-append : goal.ghosts-append
ghosts-append g a = record { entry = a.noted }

use Rattle.gx_pass.proofs.keeper.Keeper.leave.Given as goal

-- the line that goes out
abbrev pub ghosts-part : goal.ghosts-part
ghosts-part g a = record { line = a.line }

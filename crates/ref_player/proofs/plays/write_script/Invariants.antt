use Rattle.ref_player.proofs.plays.write_script.Given as goal

abbrev pub ghosts-write_in : goal.ghosts-write_in
ghosts-write_in g a = record { commits = a.blanks.commits.name; added = a.blanks.added.name; taken = a.blanks.taken.name; story = a.blanks.story.name }

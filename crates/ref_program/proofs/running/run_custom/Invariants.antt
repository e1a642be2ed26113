use Rattle.ref_program.proofs.running.run_custom.Given as goal

abbrev pub ghosts-run_booked : goal.ghosts-run_booked
ghosts-run_booked g a = record { commits = a.blanks.commits.name; added = a.blanks.added.name; taken = a.blanks.taken.name; story = a.blanks.story.name }

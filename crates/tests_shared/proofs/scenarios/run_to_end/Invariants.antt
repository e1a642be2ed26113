use Rattle.tests_shared.proofs.scenarios.run_to_end.Given as goal

abbrev pub ghosts-run_to_end_in : goal.ghosts-run_to_end_in
ghosts-run_to_end_in g a = record { commits = a.blanks.commits.name; added = a.blanks.added.name; taken = a.blanks.taken.name; story = a.blanks.story.name }

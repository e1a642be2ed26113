use Rattle.tests_workload.proofs.dumps.refusal.Given as goal

abbrev pub ghosts-refusal_in : goal.ghosts-refusal_in
ghosts-refusal_in a = record { commits = a.blanks.commits.name; added = a.blanks.added.name; taken = a.blanks.taken.name; story = a.blanks.story.name }

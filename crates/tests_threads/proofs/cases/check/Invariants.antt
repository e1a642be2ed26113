use Rattle.tests_threads.proofs.cases.check.Given as goal

abbrev pub ghosts-run : goal.ghosts-run
ghosts-run g a = record { commits = a.blanks.commits.name; added = a.blanks.added.name; taken = a.blanks.taken.name; story = a.blanks.story.name }

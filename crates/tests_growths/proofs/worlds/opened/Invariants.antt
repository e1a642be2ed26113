use Rattle.tests_growths.proofs.worlds.opened.Given as goal

abbrev pub ghosts-open : goal.ghosts-open
ghosts-open g a = record { commits = a.blanks.commits.name; added = a.blanks.added.name; taken = a.blanks.taken.name; story = a.blanks.story.name }

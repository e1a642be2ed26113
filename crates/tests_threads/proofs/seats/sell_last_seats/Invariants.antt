use Rattle.tests_threads.proofs.seats.sell_last_seats.Given as goal

abbrev pub ghosts-sell_in : goal.ghosts-sell_in
ghosts-sell_in g a = record { commits = a.blanks.commits.name; added = a.blanks.added.name; taken = a.blanks.taken.name; story = a.blanks.story.name }

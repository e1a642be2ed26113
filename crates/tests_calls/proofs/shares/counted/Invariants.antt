use Rattle.tests_calls.proofs.shares.counted.Given as goal

abbrev pub ghosts-counted_in : goal.ghosts-counted_in
ghosts-counted_in a = record { commits = a.blanks.commits.name; added = a.blanks.added.name; taken = a.blanks.taken.name; story = a.blanks.story.name }

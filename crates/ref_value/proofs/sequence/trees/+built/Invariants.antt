use Rattle.ref_value.proofs.sequence.trees.+built.Given as goal

abbrev pub decreases-built : goal.decreases-built
decreases-built l = l.n

use Rattle.std.proofs.Common.{◌+◌}
use Rattle.ref_pmap.proofs.blocks.+parting_of.Given as goal

abbrev pub decreases-parting_of : goal.decreases-parting_of
decreases-parting_of l = l.old + l.new

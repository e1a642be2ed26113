use Rattle.ref_shared.proofs.Forgotten.{fails_back, fails_kept, match_back, match_kept}
use Rattle.ref_shared.proofs.gathering.folded_receipts_say_nothing.Goals as goal

pub returns-clause-matches : goal.returns-clause-matches
returns-clause-matches c p base log rs low = (match_kept p base log rs low, match_back p base log rs low)

pub returns-clause-fails : goal.returns-clause-fails
returns-clause-fails c p base log rs f low = (fails_kept p base log rs f low, fails_back p base log rs f low)

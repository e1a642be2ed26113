use Rattle.std.proofs.Common.{◌≡◌, ℕ, List, subst}
use Rattle.ref_log.specs.declared.entries.Entry.{Entry}
use Rattle.ref_shared.specs.Gather.{GatherFails, InOrder, ReceiptsMatch}
use Rattle.ref_shared.specs.declared.faults.GatherFault.{GatherFault}

-- what is said of a log and receipts is said of these where they are the same
pub fits_so : (b b' : ℕ) (log log' : List Entry) (rs rs' : List ℕ) → b ≡ b' → log ≡ log' → rs ≡ rs'
    → ReceiptsMatch b log rs × InOrder b log → ReceiptsMatch b' log' rs' × InOrder b' log'
fits_so b b' log log' rs rs' p q r fits =
    subst (λ z. ReceiptsMatch z log' rs' × InOrder z log') p
    (subst (λ z. ReceiptsMatch b z rs' × InOrder b z) q
    (subst (λ z. ReceiptsMatch b log z × InOrder b log) r fits))

pub fails_so : (b b' : ℕ) (log log' : List Entry) (rs rs' : List ℕ) (f : GatherFault) → b ≡ b' → log ≡ log' → rs ≡ rs'
    → GatherFails b log rs f → GatherFails b' log' rs' f
fails_so b b' log log' rs rs' f p q r fails =
    subst (λ z. GatherFails z log' rs' f) p (subst (λ z. GatherFails b z rs' f) q (subst (λ z. GatherFails b log z f) r fails))

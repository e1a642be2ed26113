-- What it means that the receipts of those who wrote a log fit it.
use Rattle.std.specs.Prelude.{◌≡◌, ◌==◌, ◌+◌, ◌<◌, ◌≤◌, ℕ, Bool, true, false, if◌then◌else◌, Option, None, Some, List, [], ◌∷◌, filter, slice_get}
use Rattle.ref_log.specs.declared.entries.Entry.{Entry}
use Rattle.ref_log.specs.declared.entries.Entry.TheVariants.{Trans, Atom, MadeRef, MadeAtom}
use Rattle.ref_log.specs.declared.entries.Transaction.{Transaction}
use Rattle.ref_shared.specs.declared.faults.GatherFault.{GatherFault}
use Rattle.ref_shared.specs.declared.faults.GatherFault.TheVariants.{ReceiptMissing, OutOfOrder, Memory}

-- Who committed a transaction or changed an atom has a receipt of it.
abbrev pub has_receipt : Entry → Bool
has_receipt (Trans t) = true
has_receipt (Atom a op answer) = true
has_receipt (MadeRef v) = false
has_receipt (MadeAtom v) = false

-- of the receipts, those of one point
abbrev pub told_at : ℕ → List ℕ → List ℕ
told_at point receipts = filter (λ p. p == point) receipts

-- the receipts that an entry at a point should have: one, or none
abbrev pub due : ℕ → Option Entry → List ℕ
due point None = []
due point (Some e) = if has_receipt e then point ∷ [] else []

-- Of each point past the base's there is one receipt if the entry of a transaction or of an atom stands there, and else none.
abbrev pub ReceiptsMatch : ℕ → List Entry → List ℕ → Type 0
ReceiptsMatch base log receipts = (i : ℕ) → told_at (base + 1 + i) receipts ≡ due (base + 1 + i) (slice_get log i)

-- the transaction of an entry
abbrev pub transaction_of : Option Entry → Option Transaction
transaction_of None = None
transaction_of (Some (Trans t)) = Some t
transaction_of (Some (Atom a op answer)) = None
transaction_of (Some (MadeRef v)) = None
transaction_of (Some (MadeAtom v)) = None

-- Of two transactions of one worker the later in the log has the later step, and was begun when the earlier was there.
abbrev pub InOrder : ℕ → List Entry → Type 0
InOrder base log =
    (i j : ℕ) (t u : Transaction) → i < j
    → transaction_of (slice_get log i) ≡ Some t → transaction_of (slice_get log j) ≡ Some u
    → t.stamp.worker ≡ u.stamp.worker
    → (t.stamp.step < u.stamp.step) × (base + 1 + i ≤ u.read_point)

-- when each fault comes
abbrev pub GatherFails : ℕ → List Entry → List ℕ → GatherFault → Type 0
GatherFails base log receipts ReceiptMissing = ReceiptsMatch base log receipts → ⊥
GatherFails base log receipts OutOfOrder = ReceiptsMatch base log receipts × (InOrder base log → ⊥)
GatherFails base log receipts Memory = Unit {0}

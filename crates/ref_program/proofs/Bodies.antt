-- What is said of a closure as a body, said of the closure.
use Rattle.std.proofs.Common.{◌≡◌, ◌⊎◌, ⊎_elim, inl, inr, ℕ, Ok, subst}
use Rattle.std.proofs.lemmas.Result.{IfErr-weaker, IfOk-weaker}
use Rattle.std.specs.Prelude.{Result, Option, IfErr, IfOk}
use Rattle.ref_fun.specs.Meaning.{Means}
use Rattle.ref_log.specs.declared.entries.Stamp.{Stamp}
use Rattle.ref_world.specs.Seen.{HistorySeen, ShareSeen}
use Rattle.ref_shared.proofs.Within.{within, committed, fault_comes, landed, wait_fails}
use Rattle.ref_shared.specs.Bodies.{Doing, Committed, FaultComes}
use Rattle.ref_shared.specs.Waits.{Landed, WaitFails}
use Rattle.ref_shared.specs.declared.faults.TransactFault.{TransactFault}
use Rattle.ref_shared.specs.declared.faults.WaitFault.{WaitFault}

pub if_committed : {W B T E : Type 0} (means : Means) (inner : W → B) (does : Doing B (Result T E)) (first last : W) (body : B) (tries : ℕ) (stamp : Stamp) (point : ℕ) (old new : ShareSeen) (r : Result T (TransactFault E))
    → inner first ≡ body → IfOk r (λ t. Committed means (within inner does) first last tries (Ok t) stamp point old new)
    → IfOk r (λ t. (after : B) × Committed means does body after tries (Ok t) stamp point old new)
if_committed {B = B} means inner does first last body tries stamp point old new r is so =
    subst (λ (b : B). IfOk r (λ t. (after : B) × Committed means does b after tries (Ok t) stamp point old new)) is
    (IfOk-weaker r
    (λ t. Committed means (within inner does) first last tries (Ok t) stamp point old new)
    (λ t. (after : B) × Committed means does (inner first) after tries (Ok t) stamp point old new)
    (λ t h. (inner last, committed means inner does first last tries (Ok t) stamp point old new h))
    so)

pub if_fault_comes : {W B T E : Type 0} (means : Means) (known : HistorySeen) (P Q : TransactFault E → Type 0) (inner : W → B) (does : Doing B (Result T E)) (first last : W) (body : B) (tries : ℕ) (r : Result T (TransactFault E))
    → ((f : TransactFault E) → P f → Q f) → inner first ≡ body → IfErr r (λ f. P f ⊎ FaultComes means known (within inner does) first last tries f)
    → IfErr r (λ f. Q f ⊎ (after : B) × FaultComes means known does body after tries f)
if_fault_comes {B = B} means known P Q inner does first last body tries r weaker is so =
    subst (λ (b : B). IfErr r (λ f. Q f ⊎ (after : B) × FaultComes means known does b after tries f)) is
    (IfErr-weaker r
    (λ f. P f ⊎ FaultComes means known (within inner does) first last tries f)
    (λ f. Q f ⊎ (after : B) × FaultComes means known does (inner first) after tries f)
    (λ f h. ⊎_elim (λ p. inl (weaker f p)) (λ q. inr (inner last, fault_comes means known inner does first last tries f q)) h)
    so)

pub if_landed : {W B T E : Type 0} (means : Means) (inner : W → B) (does : Doing B (Result (Option T) E)) (first last : W) (body : B) (tries : ℕ) (stamp : Stamp) (point : ℕ) (old new : ShareSeen) (r : Result T (WaitFault E))
    → inner first ≡ body → IfOk r (λ t. Landed means (within inner does) first last tries t stamp point old new)
    → IfOk r (λ t. (after : B) × Landed means does body after tries t stamp point old new)
if_landed {B = B} means inner does first last body tries stamp point old new r is so =
    subst (λ (b : B). IfOk r (λ t. (after : B) × Landed means does b after tries t stamp point old new)) is
    (IfOk-weaker r
    (λ t. Landed means (within inner does) first last tries t stamp point old new)
    (λ t. (after : B) × Landed means does (inner first) after tries t stamp point old new)
    (λ t h. (inner last, landed means inner does first last tries t stamp point old new h))
    so)

pub if_wait_fails : {W B T E : Type 0} (means : Means) (known : HistorySeen) (P Q : WaitFault E → Type 0) (inner : W → B) (does : Doing B (Result (Option T) E)) (first last : W) (body : B) (tries : ℕ) (r : Result T (WaitFault E))
    → ((f : WaitFault E) → P f → Q f) → inner first ≡ body → IfErr r (λ f. P f ⊎ WaitFails means known (within inner does) first last tries f)
    → IfErr r (λ f. Q f ⊎ (after : B) × WaitFails means known does body after tries f)
if_wait_fails {B = B} means known P Q inner does first last body tries r weaker is so =
    subst (λ (b : B). IfErr r (λ f. Q f ⊎ (after : B) × WaitFails means known does b after tries f)) is
    (IfErr-weaker r
    (λ f. P f ⊎ WaitFails means known (within inner does) first last tries f)
    (λ f. Q f ⊎ (after : B) × WaitFails means known does (inner first) after tries f)
    (λ f h. ⊎_elim (λ p. inl (weaker f p)) (λ q. inr (inner last, wait_fails means known inner does first last tries f q)) h)
    so)

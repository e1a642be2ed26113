-- A body that is a wrapper: what the wrapper's calls do, the body in it does.
use Rattle.std.proofs.Common.{◌≡◌, ℕ, List, [], ◌∷◌, Ok, ap, subst}
use Rattle.std.proofs.lemmas.Result.{IfErr-weaker, IfOk-weaker}
use Rattle.std.specs.Prelude.{Result, Option, IfErr, IfOk}
use Rattle.ref_fun.specs.Meaning.{Means}
use Rattle.ref_log.specs.declared.entries.Stamp.{Stamp}
use Rattle.ref_world.specs.Seen.{HistorySeen, ShareSeen}
use Rattle.ref_world.specs.declared.commits.Receipt.{Receipt}
use Rattle.ref_shared.specs.Bodies.{Doing, Call, Called, AllCalls, Committed, FaultComes, seeing}
use Rattle.ref_shared.specs.Waits.{AllWaits, Landed, WaitFails}
use Rattle.ref_shared.specs.declared.faults.TransactFault.{TransactFault}
use Rattle.ref_shared.specs.declared.faults.TransactFault.TheVariants.{GaveUp, Body, Commit, Memory}
use Rattle.ref_shared.specs.declared.faults.WaitFault.{WaitFault}
use Rattle.ref_shared.specs.declared.faults.WaitFault.TheVariants.{Closed, Transact}

-- what a call of a wrapper does, where `inner` is the body in it
abbrev pub within : {W B R : Type 0} → (W → B) → Doing B R → Doing W R
within inner does before began answer left after = does (inner before) began answer left (inner after)

called : {W B R : Type 0} (inner : W → B) (does : Doing B R) (first last : W) (calls : List (Call R))
    → Called (within inner does) first calls last → Called does (inner first) calls (inner last)
called inner does first last [] same = ap inner same
called inner does first last (call ∷ earlier) so =
    (inner so.0, called inner does first so.0 earlier so.1, record { fresh = so.2.fresh; called = so.2.called })

all_calls : {W B T E : Type 0} (means : Means) (known : HistorySeen) (inner : W → B) (does : Doing B (Result T E)) (body last : W) (calls : List (Call (Result T E))) (tries : ℕ)
    → AllCalls means known (within inner does) body last calls tries → AllCalls means known does (inner body) (inner last) calls tries
all_calls means known inner does body last calls tries all =
    record { called = called inner (seeing means known does) body last calls all.called; few = all.few; retried = all.retried }

pub committed : {W B T E : Type 0} (means : Means) (inner : W → B) (does : Doing B (Result T E)) (body last : W) (tries : ℕ) (answer : Result T E) (stamp : Stamp) (point : ℕ) (old new : ShareSeen)
    → Committed means (within inner does) body last tries answer stamp point old new → Committed means does (inner body) (inner last) tries answer stamp point old new
committed means inner does body last tries answer stamp point old new so = record {
  call = so.call;
  earlier = so.earlier;
  calls = all_calls means new.history inner does body last (so.call ∷ so.earlier) tries so.calls;
  answered = so.answered;
  landed = so.landed;
}

pub fault_comes : {W B T E : Type 0} (means : Means) (known : HistorySeen) (inner : W → B) (does : Doing B (Result T E)) (body last : W) (tries : ℕ) (fault : TransactFault E)
    → FaultComes means known (within inner does) body last tries fault → FaultComes means known does (inner body) (inner last) tries fault
fault_comes means known inner does body last tries (GaveUp n conflict) so =
    (so.0, so.1, all_calls means known inner does body last (so.0 ∷ so.1) tries so.2, so.3, so.4, so.5, so.6)
fault_comes means known inner does body last tries (Body e) so = (so.0, so.1, all_calls means known inner does body last (so.0 ∷ so.1) tries so.2, so.3)
fault_comes means known inner does body last tries (Commit fault) so =
    (so.0, so.1, all_calls means known inner does body last (so.0 ∷ so.1) tries so.2, so.3, so.4)
fault_comes means known inner does body last tries Memory so = (so.0, all_calls means known inner does body last so.0 tries so.1)

all_waits : {W B T E : Type 0} (means : Means) (known : HistorySeen) (inner : W → B) (does : Doing B (Result (Option T) E)) (body last : W) (calls : List (Call (Result (Option T) E))) (tries : ℕ)
    → AllWaits means known (within inner does) body last calls tries → AllWaits means known does (inner body) (inner last) calls tries
all_waits means known inner does body last calls tries all =
    record { called = called inner (seeing means known does) body last calls all.called; few = all.few; again = all.again }

pub landed : {W B T E : Type 0} (means : Means) (inner : W → B) (does : Doing B (Result (Option T) E)) (body last : W) (tries : ℕ) (answer : T) (stamp : Stamp) (point : ℕ) (old new : ShareSeen)
    → Landed means (within inner does) body last tries answer stamp point old new → Landed means does (inner body) (inner last) tries answer stamp point old new
landed means inner does body last tries answer stamp point old new so = record {
  call = so.call;
  earlier = so.earlier;
  calls = all_waits means new.history inner does body last (so.call ∷ so.earlier) tries so.calls;
  answered = so.answered;
  landed = so.landed;
}

pub wait_fails : {W B T E : Type 0} (means : Means) (known : HistorySeen) (inner : W → B) (does : Doing B (Result (Option T) E)) (body last : W) (tries : ℕ) (fault : WaitFault E)
    → WaitFails means known (within inner does) body last tries fault → WaitFails means known does (inner body) (inner last) tries fault
wait_fails means known inner does body last tries Closed so = (so.0, so.1, all_waits means known inner does body last (so.0 ∷ so.1) tries so.2, so.3, so.4)
wait_fails means known inner does body last tries (Transact (GaveUp n conflict)) so =
    (so.0, so.1, all_waits means known inner does body last (so.0 ∷ so.1) tries so.2, so.3, so.4, so.5, so.6)
wait_fails means known inner does body last tries (Transact (Body e)) so =
    (so.0, so.1, all_waits means known inner does body last (so.0 ∷ so.1) tries so.2, so.3)
wait_fails means known inner does body last tries (Transact (Commit fault)) so =
    (so.0, so.1, all_waits means known inner does body last (so.0 ∷ so.1) tries so.2, so.3, so.4)
wait_fails means known inner does body last tries (Transact Memory) so = (so.0, all_waits means known inner does body last so.0 tries so.1)

-- ---- what is said of a wrapper that a body was put into, of the body

pub if_committed : {W B T E : Type 0} (means : Means) (inner : W → B) (does : Doing B (Result T E)) (first last : W) (body : B) (tries : ℕ) (stamp : Stamp) (old new : ShareSeen) (r : Result (T × Receipt) (TransactFault E))
    → inner first ≡ body → IfOk r (λ x. Committed means (within inner does) first last tries (Ok x.0) stamp x.1.point old new)
    → IfOk r (λ x. (after : B) × Committed means does body after tries (Ok x.0) stamp x.1.point old new)
if_committed {B = B} means inner does first last body tries stamp old new r is so =
    subst (λ (b : B). IfOk r (λ x. (after : B) × Committed means does b after tries (Ok x.0) stamp x.1.point old new)) is
    (IfOk-weaker r
    (λ x. Committed means (within inner does) first last tries (Ok x.0) stamp x.1.point old new)
    (λ x. (after : B) × Committed means does (inner first) after tries (Ok x.0) stamp x.1.point old new)
    (λ x h. (inner last, committed means inner does first last tries (Ok x.0) stamp x.1.point old new h))
    so)

pub if_fault_comes : {W B T E : Type 0} (means : Means) (known : HistorySeen) (inner : W → B) (does : Doing B (Result T E)) (first last : W) (body : B) (tries : ℕ) (r : Result (T × Receipt) (TransactFault E))
    → inner first ≡ body → IfErr r (λ f. FaultComes means known (within inner does) first last tries f) → IfErr r (λ f. (after : B) × FaultComes means known does body after tries f)
if_fault_comes {B = B} means known inner does first last body tries r is so =
    subst (λ (b : B). IfErr r (λ f. (after : B) × FaultComes means known does b after tries f)) is
    (IfErr-weaker r
    (λ f. FaultComes means known (within inner does) first last tries f)
    (λ f. (after : B) × FaultComes means known does (inner first) after tries f)
    (λ f h. (inner last, fault_comes means known inner does first last tries f h))
    so)

pub if_landed : {W B T E : Type 0} (means : Means) (inner : W → B) (does : Doing B (Result (Option T) E)) (first last : W) (body : B) (tries : ℕ) (stamp : Stamp) (old new : ShareSeen) (r : Result (T × Receipt) (WaitFault E))
    → inner first ≡ body → IfOk r (λ x. Landed means (within inner does) first last tries x.0 stamp x.1.point old new)
    → IfOk r (λ x. (after : B) × Landed means does body after tries x.0 stamp x.1.point old new)
if_landed {B = B} means inner does first last body tries stamp old new r is so =
    subst (λ (b : B). IfOk r (λ x. (after : B) × Landed means does b after tries x.0 stamp x.1.point old new)) is
    (IfOk-weaker r
    (λ x. Landed means (within inner does) first last tries x.0 stamp x.1.point old new)
    (λ x. (after : B) × Landed means does (inner first) after tries x.0 stamp x.1.point old new)
    (λ x h. (inner last, landed means inner does first last tries x.0 stamp x.1.point old new h))
    so)

pub if_wait_fails : {W B T E : Type 0} (means : Means) (known : HistorySeen) (inner : W → B) (does : Doing B (Result (Option T) E)) (first last : W) (body : B) (tries : ℕ) (r : Result (T × Receipt) (WaitFault E))
    → inner first ≡ body → IfErr r (λ f. WaitFails means known (within inner does) first last tries f) → IfErr r (λ f. (after : B) × WaitFails means known does body after tries f)
if_wait_fails {B = B} means known inner does first last body tries r is so =
    subst (λ (b : B). IfErr r (λ f. (after : B) × WaitFails means known does b after tries f)) is
    (IfErr-weaker r
    (λ f. WaitFails means known (within inner does) first last tries f)
    (λ f. (after : B) × WaitFails means known does (inner first) after tries f)
    (λ f h. (inner last, wait_fails means known inner does first last tries f h))
    so)

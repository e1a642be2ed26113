-- The calls of a body that may say that it isn't ready.
use Rattle.std.proofs.Common.{◌≡◌, ◌⊎◌, ⊎_elim, inl, inr, ℕ, suc, ◌+◌, ◌<◌, ◌≤◌, Bool, true, false, List, [], ◌∷◌, length, filter, None, Some, arith, refl}
use Rattle.std.specs.List.{All}
use Rattle.std.specs.Prelude.{Result, Option}
use Rattle.ref_tx.specs.Seen.{TxSeen}
use Rattle.ref_fun.specs.Meaning.{Means}
use Rattle.ref_world.specs.History.{Begins}
use Rattle.ref_world.specs.Seen.{HistorySeen}
use Rattle.ref_shared.specs.Bodies.{Doing, Call, Called, Calls, earlier_of, seeing}
use Rattle.ref_shared.specs.Waits.{AllWaits, IsCalledAgain, is_value, tried}
use Rattle.ref_shared.proofs.Chains.{called_later, in_conflict_later, point_later}

-- one more that passes, or doesn't
longer_by : {X : Type 0} (p : X → Bool) (x : X) (xs : List X) (b : Bool) → p x ≡ b → length (filter p (x ∷ xs)) ≤ length (filter p xs) + 1
longer_by p x xs true is = rw is (omega arith)
longer_by p x xs false is = rw is (omega arith)

pub tried_more : {T E : Type 0} (began left : TxSeen) (answer : Result (Option T) E) (earlier : List (Call (Result (Option T) E)))
    → is_value answer ≡ true → length (tried (record { began = began; answer = answer; left = left } ∷ earlier)) ≡ length (tried earlier) + 1
tried_more began left answer earlier is = rw is (omega arith)

pub tried_same : {T E : Type 0} (began left : TxSeen) (answer : Result (Option T) E) (earlier : List (Call (Result (Option T) E)))
    → is_value answer ≡ false → length (tried (record { began = began; answer = answer; left = left } ∷ earlier)) ≡ length (tried earlier)
tried_same began left answer earlier is = rw is refl

-- what a body returned that isn't a value says that it isn't ready
pub not_ready : {T : Type 0} (answer : Option T) → ((x : T) → answer ≡ Some x → ⊥) → answer ≡ None
not_ready None never = refl
not_ready (Some x) never = absurd (never x refl)

-- What is known of the history has grown.
pub again_later : {T E : Type 0} (one two : HistorySeen) (calls : List (Call (Result (Option T) E))) → Begins one two → All (IsCalledAgain one) calls → All (IsCalledAgain two) calls
again_later one two calls more all = λ k d below.
    let farther = point_later one two more in
    ⊎_elim (λ was. inl (record { waits = was.waits; later = omega (arith, was.later, farther) }))
    (λ was. inr (record { answered = was.answered; conflict = in_conflict_later one two _ more was.conflict }))
    (all k d below)

-- one call more, where fewer than that were tried
pub one_more : {B T E : Type 0} (means : Means) (one two : HistorySeen) (does : Doing B (Result (Option T) E)) (body before after : B) (earlier : List (Call (Result (Option T) E))) (i tries : ℕ) (call : Call (Result (Option T) E))
    → Begins one two → Called (seeing means one does) body earlier before → length (tried earlier) ≡ i → All (IsCalledAgain one) earlier → i < tries
    → Calls (seeing means two does) before call after → AllWaits means two does body after (call ∷ earlier) tries
one_more means one two does body before after earlier i tries call more called count again room calls =
    let most = longer_by (λ c. is_value c.answer) call earlier (is_value call.answer) refl in
    record {
      called = (before, called_later means one two does body before earlier more called, calls);
      few = omega (arith, count, room, most);
      again = again_later one two earlier more again;
    }

pub again_earlier : {T E : Type 0} (known : HistorySeen) (calls : List (Call (Result (Option T) E))) → All (IsCalledAgain known) calls → All (IsCalledAgain known) (earlier_of calls)
again_earlier known [] all = all
again_earlier known (call ∷ earlier) all = λ k d below. all (suc k) d (omega (arith, below))

use Rattle.std.proofs.Common.{◌≡◌, ◌≤◌, ℕ, zero, suc, ◌<◌, List, [], ◌∷◌, ◌++◌, length, ap, arith, length-append, refl, subst, sym}
use Rattle.std.specs.List.{All}
use Rattle.std.specs.Prelude.{Result}
use Rattle.ref_refs.specs.declared.faults.CommitFault.{CommitFault}
use Rattle.ref_refs.specs.declared.faults.CommitFault.TheVariants as commits
use Rattle.ref_refs.specs.declared.faults.Conflict.{Conflict}
use Rattle.ref_fun.specs.Meaning.{Means}
use Rattle.ref_log.specs.declared.entries.Entry.{Entry}
use Rattle.ref_log.specs.declared.states.Base.{Base}
use Rattle.ref_tx.specs.Seen.{TxSeen}
use Rattle.ref_world.specs.History.{Begins, IsLegal, point_in, refs_in}
use Rattle.ref_world.specs.HistoryLaws.{begins_itself, begins_more, begins_then}
use Rattle.ref_world.specs.Seen.{HistorySeen, ShareSeen}
use Rattle.ref_shared.specs.Bodies.{AllCalls, Call, Called, Calls, Doing, HasBegun, IsFinal, IsRetried, WasInConflict, earlier_of, seeing}
use Rattle.ref_shared.specs.Commits.{HasEntered, HasLearned}

-- ---- what is known of the history grows

pub point_later : (one two : HistorySeen) → Begins one two → point_in one ≤ point_in two
point_later one two more =
    let count = length-append one.entries more.more in
    let entries : length two.entries ≡ length (one.entries ++ more.more) = ap length more.entries in
    let start : two.start.point ≡ one.start.point = ap (λ (b : Base). b.point) more.start in
    omega (arith, count, entries, start)

pub entered_begins : (means : Means) (e : Entry) (point : ℕ) (old new : HistorySeen) → HasEntered means e point old new → Begins old new
entered_begins means e point old new is =
    begins_then old is.found new is.known (subst (Begins is.found) (sym is.entered) (begins_more is.found e))

-- A transaction began at the end of what a share knew when it was begun.
pub begun : (means : Means) (old new : ShareSeen) (known : HistorySeen) (tx : TxSeen)
    → HasLearned means old new → (tx.read_point ≡ point_in new.history) × (tx.began ≡ refs_in means new.history) → Begins new.history known → HasBegun means known tx
begun means old new known tx learned began more = record { at = new.history; begins = more; legal = learned.legal; read = began.0; values = began.1 }

has_begun_later : (means : Means) (one two : HistorySeen) (tx : TxSeen) → Begins one two → HasBegun means one tx → HasBegun means two tx
has_begun_later means one two tx more is =
    record { at = is.at; begins = begins_then is.at one two is.begins more; legal = is.legal; read = is.read; values = is.values }

pub called_later : {B R : Type 0} (means : Means) (one two : HistorySeen) (does : Doing B R) (first last : B) (calls : List (Call R))
    → Begins one two → Called (seeing means one does) first calls last → Called (seeing means two does) first calls last
called_later means one two does first last [] more same = same
called_later means one two does first last (call ∷ earlier) more so = (
  so.0,
  called_later means one two does first so.0 earlier more so.1,
  record { fresh = so.2.fresh; called = (so.2.called.0, has_begun_later means one two call.began more so.2.called.1) },
)

pub in_conflict_later : {R : Type 0} (one two : HistorySeen) (call : Call R) → Begins one two → WasInConflict one call → WasInConflict two call
in_conflict_later one two call more is =
    record { conflict = is.conflict; at = is.at; begins = begins_then is.at one two is.begins more; fits = is.fits }

pub retried_later : {T E : Type 0} (one two : HistorySeen) (calls : List (Call (Result T E))) → Begins one two → All (IsRetried one) calls → All (IsRetried two) calls
retried_later one two calls more all = λ k d below.
    let was = all k d below in
    record { answered = was.answered; conflict = in_conflict_later one two _ more was.conflict }

-- ---- calls

-- one call more, where there were fewer than that
pub one_more : {B T E : Type 0} (means : Means) (one two : HistorySeen) (does : Doing B (Result T E)) (body before after : B) (earlier : List (Call (Result T E))) (i tries : ℕ) (call : Call (Result T E))
    → Begins one two → Called (seeing means one does) body earlier before → length earlier ≡ i → All (IsRetried one) earlier → i < tries
    → Calls (seeing means two does) before call after → AllCalls means two does body after (call ∷ earlier) tries
one_more means one two does body before after earlier i tries call more called count retried room calls = record {
  called = (before, called_later means one two does body before earlier more called, calls);
  few = omega (arith, count, room);
  retried = retried_later one two earlier more retried;
}

-- a fault that is neither a conflict nor out of memory
pub final : (fault : CommitFault) → ((c : Conflict) → fault ≡ commits.Conflict c → ⊥) → (fault ≡ commits.Memory → ⊥) → IsFinal fault
final (commits.Foreign what) conflict memory = tt
final (commits.Conflict c) conflict memory = conflict c refl
final (commits.Refused r cause) conflict memory = tt
final (commits.Invalid r) conflict memory = tt
final commits.PointLimit conflict memory = tt
final commits.BookFull conflict memory = tt
final commits.Memory conflict memory = memory refl
final (commits.NoSuchFun code) conflict memory = tt

-- what is so of all calls, with one call more and without the latest
pub all_more : {X : Type 0} (P : X → Type 0) (x : X) (xs : List X) → P x → All P xs → All P (x ∷ xs)
all_more P x xs p all zero d below = p
all_more P x xs p all (suc k) d below = all k d (omega (arith, below))

pub all_earlier : {T E : Type 0} (known : HistorySeen) (calls : List (Call (Result T E))) → All (IsRetried known) calls → All (IsRetried known) (earlier_of calls)
all_earlier known [] all = all
all_earlier known (call ∷ earlier) all = λ k d below. all (suc k) d (omega (arith, below))

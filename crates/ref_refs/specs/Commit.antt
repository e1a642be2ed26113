-- When a transaction can be committed, and what its commit makes.
--
-- A commit is asked for at a point, which comes right after the present one, by a caller that knows how many agents there are. What
-- stands here speaks of the values and the last changes of all refs as they are before it, and of the transaction as a record:
-- its read point, the values that it began with, its operations with their answers, and what it sends.
use Rattle.std.specs.Prelude.{ℕ, ◌==◌, nat_lt, Bool, true, false, not, ◌&&◌, ◌||◌, if◌then◌else◌, List, [], ◌∷◌, ◌++◌, find, length, slice_get, slice_set, Option, None, Some, Result, Ok, Err}
use Rattle.std.specs.List.{range_with_len}
use Rattle.std.specs.Option.{option_map, option_or}
use Rattle.std.specs.Ordering.{eq_by_cmp}
use Rattle.ref_value.specs.Edn.{Edn}
use Rattle.ref_value.specs.Order.{edn_cmp}
use Rattle.ref_fun.specs.declared.faults.Cause.{Cause}
use Rattle.ref_fun.specs.Actions.{absent_agent}
use Rattle.ref_fun.specs.Calls.{Known}
use Rattle.ref_fun.specs.Meaning.{Means}
use Rattle.ref_fun.specs.Rule.{Accepts, unknown}
use Rattle.ref_fun.specs.declared.rules.Rule.{Rule}
use Rattle.ref_log.specs.Guards.{is_accepted_at, rule_at}
use Rattle.ref_log.specs.declared.guards.Guard.{Guard}
use Rattle.ref_log.specs.Replay.{after_dones, place, is_ensure, is_protected, is_touched, missing}
use Rattle.ref_log.specs.declared.faults.AuditFault.{AuditFault}
use Rattle.ref_log.specs.declared.entries.Entry.{Entry}
use Rattle.ref_log.specs.declared.entries.Entry.TheVariants.{Trans}
use Rattle.ref_log.specs.declared.entries.Stamp.{Stamp}
use Rattle.ref_log.specs.declared.operations.Op.{Op}
use Rattle.ref_log.specs.declared.operations.Op.TheVariants.{Set, Alter, Commute, Ensure}
use Rattle.ref_log.specs.declared.operations.Done.{Done}
use Rattle.ref_log.specs.declared.sends.Sent.{Sent}
use Rattle.ref_log.specs.Tally.{fit_tally, moved_by_dones}
use Rattle.ref_log.specs.declared.counting.Side.TheVariants.{Added, Taken}
use Rattle.ref_tx.specs.Seen.{TxSeen}
use Rattle.ref_refs.specs.Seen.{RefsSeen, changed_at}
use Rattle.ref_refs.specs.Watches.{touched_refs}
use Rattle.ref_refs.specs.declared.faults.Alien.TheVariants as aliens
use Rattle.ref_refs.specs.declared.faults.CommitFault.{CommitFault}
use Rattle.ref_refs.specs.declared.faults.CommitFault.TheVariants.{Foreign, Conflict, Refused, Invalid, PointLimit, BookFull, NoSuchFun}
use Rattle.ref_log.specs.Limits.{last_point}

abbrev pub or_fault : Option CommitFault → Option CommitFault → Option CommitFault
or_fault (Some fault) later = Some fault
or_fault None later = later

-- ---- what is foreign to a store: a transaction that was begun elsewhere

abbrev pub has_ref : List Edn → ℕ → Bool
has_ref values r = nat_lt r (length values)

-- the first operation on a ref that isn't here
abbrev pub alien_ref : List Edn → List Done → Option CommitFault
alien_ref values ds = option_map (λ d. Foreign (aliens.Ref d.r)) (find (λ d. not (has_ref values d.r)) ds)

-- the first agent that isn't here, where there are so many: of each send the one that it goes to, and then those of what its
-- action carries
abbrev pub first_absent : ℕ → List Sent → Option ℕ
first_absent agents [] = None
first_absent agents (s ∷ ss) = option_or (absent_agent agents s.agent s.action) (first_absent agents ss)

abbrev pub alien_agent : ℕ → List Sent → Option CommitFault
alien_agent agents ss = option_map (λ g. Foreign (aliens.Agent g)) (first_absent agents ss)

-- an operation that the tally here doesn't take
abbrev pub alien_tally : Option ℕ → List Done → Option CommitFault
alien_tally tally ds = if fit_tally tally ds then None else Some (Foreign aliens.Tally)

-- a read point after the present one
abbrev pub alien_point : ℕ → ℕ → Option CommitFault
alien_point at read_point = if nat_lt read_point at then None else Some (Foreign (aliens.Point read_point))

-- ---- the functions that a commit calls: those of its commutes

abbrev pub commuted_code : Op → List ℕ
commuted_code (Set w) = []
commuted_code (Alter code args) = []
commuted_code (Commute code args) = code ∷ []
commuted_code Ensure = []

abbrev pub commuted_codes : List Done → List ℕ
commuted_codes [] = []
commuted_codes (d ∷ ds) = commuted_code d.op ++ commuted_codes ds

-- the first of them that the table doesn't know
abbrev pub lacking : (ℕ → Bool) → List Done → Option CommitFault
lacking knows ds = option_map NoSuchFun (missing knows (commuted_codes ds))

-- ---- the predicates that a commit asks: the rules of the refs that it changes

-- the rule that an operation calls for, if any
abbrev pub needed_rule : List Guard → Done → Option Rule
needed_rule guards d = if is_ensure d.op then None else rule_at guards d.r

abbrev pub unknown_at : (ℕ → Bool) → List Guard → Done → Option CommitFault
unknown_at knows guards d = option_map NoSuchFun (unknown knows (needed_rule guards d))

-- the first of them whose predicate the table doesn't know
abbrev pub lacking_rule : (ℕ → Bool) → List Guard → List Done → Option CommitFault
lacking_rule knows guards [] = None
lacking_rule knows guards (d ∷ ds) = or_fault (unknown_at knows guards d) (lacking_rule knows guards ds)

-- ---- protected refs

-- The smallest ref here that the transaction protects and of which something holds.
abbrev pub first_protected : List Edn → List Done → (ℕ → Bool) → Option ℕ
first_protected values ds holds = find (λ r. is_protected ds r && holds r) (range_with_len 0 (length values))

-- A transaction is in conflict where a ref that it protects has changed after its read point.
abbrev pub changed_after : List ℕ → ℕ → ℕ → Bool
changed_after lasts read_point r = nat_lt read_point (changed_at lasts r)

abbrev pub conflict_on : List ℕ → ℕ → ℕ → CommitFault
conflict_on lasts read_point r = Conflict (record { r = r; read_point = read_point; changed_at = changed_at lasts r })

abbrev pub conflict : RefsSeen → TxSeen → Option CommitFault
conflict store tx = option_map (conflict_on store.lasts tx.read_point) (first_protected store.values tx.dones (changed_after store.lasts tx.read_point))

-- Whether a ref that is here has another value than the transaction began with.
abbrev pub differs : Option Edn → Option Edn → Bool
differs began None = false
differs None (Some now) = true
differs (Some began) (Some now) = not (eq_by_cmp edn_cmp began now)

abbrev pub differs_at : List Edn → List Edn → ℕ → Bool
differs_at values began r = differs (slice_get began r) (slice_get values r)

abbrev pub alien_value : List Edn → TxSeen → Option CommitFault
alien_value values tx = option_map (λ r. Foreign (aliens.Value r)) (first_protected values tx.dones (differs_at values tx.began))

-- ---- what refuses over the latest values

-- An operation on a ref that isn't here is reported before, and doesn't count here.
abbrev pub refused_at : ℕ → Option (Result Edn Cause) → (Edn → Option CommitFault) → Option CommitFault
refused_at r (Some (Ok v)) later = later v
refused_at r (Some (Err cause)) later = Some (Refused r cause)
refused_at r None later = None

-- The first operation that refuses, where they are made one at a time, each on the value that its ref has by then.
abbrev pub refused : Means → List Done → List Edn → Option CommitFault
refused means [] values = None
refused means (d ∷ ds) values = refused_at d.r (option_map (place means d.op) (slice_get values d.r)) (λ v. refused means ds (slice_set values d.r v))

-- ---- what the rules refuse

-- the smallest of these refs whose rule doesn't accept its value
abbrev pub first_invalid : Accepts → List Guard → List Edn → List ℕ → Option ℕ
first_invalid accepts guards values rs = find (λ r. not (is_accepted_at accepts guards values r)) rs

-- The rules of the refs that the operations change are asked of the values that they make. What refuses is reported before, and
-- doesn't count here.
abbrev pub invalid : Accepts → List Guard → List Done → Result (List Edn) AuditFault → Option CommitFault
invalid accepts guards ds (Ok after) = option_map Invalid (first_invalid accepts guards after (touched_refs ds))
invalid accepts guards ds (Err fault) = None

-- ---- the points end

abbrev pub past_points : ℕ → Option CommitFault
past_points at = if nat_lt last_point at then Some PointLimit else None

-- ---- a book is full

-- What is added to the tally is more than its book can take, or what is taken from it is.
abbrev pub full_book : ℕ → ℕ → Option ℕ → List Done → Option CommitFault
full_book most_added most_taken tally ds =
    if nat_lt most_added (moved_by_dones Added tally ds) || nat_lt most_taken (moved_by_dones Taken tally ds) then Some BookFull else None

-- ---- all together

-- what is foreign, but for the values
abbrev pub alien : RefsSeen → ℕ → ℕ → TxSeen → Option CommitFault
alien store at agents tx =
    or_fault (alien_ref store.values tx.dones)
    (or_fault (alien_agent agents tx.sends)
    (or_fault (alien_tally store.tally tx.dones)
    (alien_point at tx.read_point)))

-- The first fault that is known before any memory is taken.
abbrev pub early_refusal : Known → RefsSeen → ℕ → ℕ → TxSeen → Option CommitFault
early_refusal knows store at agents tx =
    or_fault (alien store at agents tx)
    (or_fault (lacking knows.funs tx.dones)
    (or_fault (lacking_rule knows.preds store.guards tx.dones)
    (or_fault (conflict store tx)
    (alien_value store.values tx))))

-- The first fault of a commit at this point, where there are so many agents and the books can take so much, if it has one.
abbrev pub commit_refusal : Means → Accepts → Known → RefsSeen → ℕ → ℕ → ℕ → ℕ → TxSeen → Option CommitFault
commit_refusal means accepts knows store at agents most_added most_taken tx =
    or_fault (early_refusal knows store at agents tx)
    (or_fault (refused means tx.dones store.values)
    (or_fault (invalid accepts store.guards tx.dones (after_dones means tx.dones at tx.dones (Ok store.values)))
    (or_fault (past_points at)
    (full_book most_added most_taken store.tally tx.dones))))

-- ---- the commit

-- its entry
abbrev pub entry_of : Stamp → TxSeen → Entry
entry_of stamp tx = Trans (record { stamp = stamp; read_point = tx.read_point; dones = tx.dones; sends = tx.sends })

-- the last change of a ref after one operation of a commit at this point
abbrev pub changed_by_one : List ℕ → ℕ → Done → ℕ → ℕ
changed_by_one lasts at d r = if d.r == r && not (is_ensure d.op) then at else changed_at lasts r

-- and after all of them
abbrev pub changed_by : List ℕ → ℕ → List Done → ℕ → ℕ
changed_by lasts at ds r = if is_touched ds r then at else changed_at lasts r

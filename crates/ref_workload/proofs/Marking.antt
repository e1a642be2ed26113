-- What the passes over refused steps, log and plan keep, and what they say together.
use denote.Bor.{Bor}
use Rattle.std.proofs.Common.{◌≡◌, ℕ, ◌+◌, ◌<◌, ◌==◌, Bool, true, false, ◌&&◌, ◌||◌, if◌then◌else◌, Option, None, Some, List, [], ◌∷◌, ◌++◌, ◌≤◌, ◌≢◌, length, length-take, slice_get, get_or, subst, refl, sym, ap, ◌∙◌, zero, suc, arith, map, take, replicate}
use Rattle.std.specs.List.{All, IsDistinct, list_any}
use Rattle.std.specs.Cmp.{IsEquivalence}
use Rattle.std.proofs.lemmas.Bool.Decides.{nat_tests}
use Rattle.std.proofs.lemmas.List.{get_or-take, take_more}
use Rattle.std.proofs.lemmas.List.Elements.{All-get_or, All-head, All-nil, All-push, All-tail}
use Rattle.std.proofs.lemmas.List.Folds.{list_any_none}
use Rattle.std.proofs.lemmas.Option.{slice_get_within}
use Rattle.std.proofs.lemmas.Map.Keys.{IsDistinct-push, apart_from_distinct}
use Rattle.ref_audit.specs.declared.reports.Refusal.{Refusal}
use Rattle.ref_log.specs.declared.entries.Entry.{Entry}
use Rattle.ref_log.specs.declared.entries.Entry.TheVariants.{Trans, Atom, MadeRef, MadeAtom}
use Rattle.ref_log.specs.declared.entries.Stamp.{Stamp}
use Rattle.ref_log.specs.declared.entries.Transaction.{Transaction}
use Rattle.ref_shared.specs.Gather.{InOrder, transaction_of}
use Rattle.ref_workload.specs.Marks.{AreMarks, EntriesStand, EntryMissed, EntryTaken, IsDone, IsRowDone, RefusedStand, Takes, TransactionTaken, mark_of}
use Rattle.ref_workload.specs.Orderly.{IsOfStep, IsOrderly, IsPlanned, IsStep, at_stamp, base_declared, has_entry, in_row, is_entry_of, is_of_same_step, is_refused, is_stamp}
use Rattle.ref_plan.specs.Plan.{PlanSeen}
use Rattle.ref_workload.specs.declared.order.board.Mark.{Mark}
use Rattle.ref_workload.specs.declared.order.board.Mark.TheVariants.{Open, Refused, Committed}
use Rattle.ref_plan.specs.declared.plans.PlannedOp.{PlannedOp}
use Rattle.ref_plan.specs.declared.plans.Step.{Step}
use Rattle.ref_plan.specs.declared.plans.Step.TheVariants.{Tx}
use Rattle.ref_world.specs.Seen.{WorldSeen}

-- ---- stamps

abbrev stamp_of : ℕ → ℕ → Stamp
stamp_of w k = record { worker = w; step = k }

pub stamp_is : (s t : Stamp) → is_stamp s t ≡ true → s ≡ t
stamp_is s t h = by_worker (s.worker == t.worker) refl h
  where
    by_worker : (b : Bool) → (s.worker == t.worker) ≡ b → (b && (s.step == t.step)) ≡ true → s ≡ t
    by_worker true w k =
        let a : s.worker ≡ t.worker = grind (arith, nat_tests) in
        let b : s.step ≡ t.step = grind (arith, nat_tests) in
        ap (λ x. stamp_of x s.step) a ∙ ap (stamp_of t.worker) b
    by_worker false w k = absurd (grind arith)

stamp_same : (s : Stamp) → is_stamp s s ≡ true
stamp_same s =
    let a : (s.worker == s.worker) ≡ true = grind (arith, nat_tests) in
    let b : (s.step == s.step) ≡ true = grind (arith, nat_tests) in
    rw (a, b) refl

nat_flip : (m n : ℕ) → (m == n) ≡ (n == m)
nat_flip m n = by_left (m == n) refl
  where
    by_left : (b : Bool) → (m == n) ≡ b → b ≡ (n == m)
    by_left true h = grind (arith, nat_tests)
    by_left false h = grind (arith, nat_tests)

same_step_equivalence : IsEquivalence is_of_same_step
same_step_equivalence = record {
  refl = λ a. stamp_same a.stamp;
  symm = λ a b. rw (nat_flip a.stamp.worker b.stamp.worker, nat_flip a.stamp.step b.stamp.step) refl;
  congr = λ a b c h. ap (λ x. is_stamp x c.stamp) (stamp_is a.stamp b.stamp h);
}

-- ---- tests

any_push : {X : Type 0} (p : X → Bool) (xs : List X) (x : X) → list_any p (xs ++ x ∷ []) ≡ (list_any p xs || p x)
any_push p [] x = or_false (p x)
  where
    or_false : (b : Bool) → (b || false) ≡ b
    or_false true = refl
    or_false false = refl
any_push p (y ∷ ys) x = ap (λ b. p y || b) (any_push p ys x) ∙ or_assoc (p y) (list_any p ys) (p x)
  where
    or_assoc : (a b c : Bool) → (a || (b || c)) ≡ ((a || b) || c)
    or_assoc true b c = refl
    or_assoc false b c = refl

or_no : (b : Bool) → (b || false) ≡ b
or_no true = refl
or_no false = refl

or_yes : (b : Bool) → (b || true) ≡ true
or_yes true = refl
or_yes false = refl

-- ---- marks

-- A step that is marked open is one of the plan that is neither refused nor committed.
record IsOpen (o : Option Step) (refused done : Bool) : Type 0 where
  pub step : Step
  pub here : o ≡ Some step
  pub stands : refused ≡ false
  pub new : done ≡ false

open_means : (o : Option Step) (r d : Bool) → mark_of o r d ≡ Some Open → IsOpen o r d
open_means None r d h = absurd (grind arith)
open_means (Some x) true d h = absurd (grind arith)
open_means (Some x) false true h = absurd (grind arith)
open_means (Some x) false false h = record { step = x; here = refl; stands = refl; new = refl }

pub refused_none : (workers : List (List Step)) (board : List (List Mark)) → AreMarks workers [] [] board → RefusedStand workers [] board
unfolding IsDistinct
refused_none workers board m = record { marks = m; once = tt; steps = All-nil (IsStep workers) }

refused_more : (workers : List (List Step)) (ys : List Refusal) (r : Refusal) (board board' : List (List Mark)) → RefusedStand workers ys board → Takes board r.stamp Refused board' → RefusedStand workers (ys ++ r ∷ []) board'
refused_more workers ys r board board' was t = record {
  marks = marks;
  once = IsDistinct-push same_step_equivalence ys r was.once here.stands;
  steps = All-push (IsStep workers) ys r was.steps (here.step, here.here);
}
  where
    here : IsOpen (at_stamp workers r.stamp) (is_refused ys r.stamp) false
    here = open_means (at_stamp workers r.stamp) (is_refused ys r.stamp) false (sym (was.marks r.stamp) ∙ t.free)

    by_stamp : (u : Stamp) → (b : Bool) → is_stamp u r.stamp ≡ b → (if b then Some Refused else at_stamp board u) ≡ mark_of (at_stamp workers u) (is_refused ys u || b) false
    by_stamp u true is =
        let there : at_stamp workers u ≡ Some here.step = ap (at_stamp workers) (stamp_is u r.stamp is) ∙ here.here in
        sym (ap (λ o. mark_of o (is_refused ys u || true) false) there ∙ ap (λ b. mark_of (Some here.step) b false) (or_yes (is_refused ys u)))
    by_stamp u false is = was.marks u ∙ ap (λ b. mark_of (at_stamp workers u) b false) (sym (or_no (is_refused ys u)))

    marks : AreMarks workers (ys ++ r ∷ []) [] board'
    marks u = t.after u ∙ (by_stamp u (is_stamp u r.stamp) refl ∙ ap (λ b. mark_of (at_stamp workers u) b false) (sym (any_push (λ (x : Refusal). is_stamp u x.stamp) ys r)))

-- The next of all refusals, by whatever stands for one past their end.
pub refused_next : (workers : List (List Step)) (all : List Refusal) (i : ℕ) (d : Refusal) (board board' : List (List Mark)) → i < length all → RefusedStand workers (take i all) board → Takes board (get_or all i d).stamp Refused board' → RefusedStand workers (take (i + 1) all) board'
refused_next workers all i d board board' below was t = rw (take_more all i d below) (refused_more workers (take i all) (get_or all i d) board board' was t)

-- the entries that a loop has passed
abbrev pub passed : List (Bor Entry) → List Entry
passed entries = map (λ entry. entry.now) entries

pub passed_more : (entries : List (Bor Entry)) (entry : Bor Entry) → passed (entries ++ entry ∷ []) ≡ passed entries ++ entry.now ∷ []
passed_more [] entry = refl
passed_more (first ∷ entries) entry = ap (λ rest. first.now ∷ rest) (passed_more entries entry)

pub entries_none : (workers : List (List Step)) (refused : List Refusal) (board : List (List Mark)) → AreMarks workers refused [] board → EntriesStand workers refused [] board
entries_none workers refused board m = record { marks = m; entries = All-nil (IsPlanned workers refused) }

transaction_more : (workers : List (List Step)) (refused : List Refusal) (log : List Entry) (t : Transaction) (board board' : List (List Mark)) → EntriesStand workers refused log board → TransactionTaken workers board t board' → EntriesStand workers refused (log ++ Trans t ∷ []) board'
transaction_more workers refused log t board board' was taken = record {
  marks = marks;
  entries = All-push (IsPlanned workers refused) log (Trans t) was.entries of_step;
}
  where
    here : IsOpen (at_stamp workers t.stamp) (is_refused refused t.stamp) (has_entry log t.stamp)
    here = open_means (at_stamp workers t.stamp) (is_refused refused t.stamp) (has_entry log t.stamp) (sym (was.marks t.stamp) ∙ taken.taken.free)

    of_step : IsOfStep workers refused t
    of_step = record { ops = taken.ops; step = taken.step; named = taken.named; stands = here.stands }

    by_stamp : (u : Stamp) → (b : Bool) → is_stamp u t.stamp ≡ b → (if b then Some Committed else at_stamp board u) ≡ mark_of (at_stamp workers u) (is_refused refused u) (has_entry log u || b)
    by_stamp u true is =
        let there : at_stamp workers u ≡ Some here.step = ap (at_stamp workers) (stamp_is u t.stamp is) ∙ here.here in
        let stands : is_refused refused u ≡ false = ap (is_refused refused) (stamp_is u t.stamp is) ∙ here.stands in
        sym (ap (λ o. mark_of o (is_refused refused u) (has_entry log u || true)) there
        ∙ (ap (λ b. mark_of (Some here.step) b (has_entry log u || true)) stands
        ∙ ap (mark_of (Some here.step) false) (or_yes (has_entry log u))))
    by_stamp u false is = was.marks u ∙ ap (mark_of (at_stamp workers u) (is_refused refused u)) (sym (or_no (has_entry log u)))

    marks : AreMarks workers refused (log ++ Trans t ∷ []) board'
    marks u = taken.taken.after u ∙ (by_stamp u (is_stamp u t.stamp) refl ∙ ap (mark_of (at_stamp workers u) (is_refused refused u)) (sym (any_push (is_entry_of u) log (Trans t))))

pub entries_more : (workers : List (List Step)) (refused : List Refusal) (log : List Entry) (e : Entry) (board board' : List (List Mark)) → EntriesStand workers refused log board → EntryTaken workers board e board' → EntriesStand workers refused (log ++ e ∷ []) board'
entries_more workers refused log (Trans t) board board' was taken = transaction_more workers refused log t board board' was taken
entries_more workers refused log (Atom a op answer) board board' was same = record {
  marks = λ u. ap (λ b. at_stamp b u) same ∙ (was.marks u ∙ ap (mark_of (at_stamp workers u) (is_refused refused u)) (sym (any_push (is_entry_of u) log (Atom a op answer) ∙ or_no (has_entry log u))));
  entries = All-push (IsPlanned workers refused) log (Atom a op answer) was.entries tt;
}
entries_more workers refused log (MadeRef v) board board' was taken = absurd taken
entries_more workers refused log (MadeAtom v) board board' was taken = absurd taken

-- Where no transaction's step is open, each is refused or committed.
all_there : (workers : List (List Step)) (refused : List Refusal) (log : List Entry) (board : List (List Mark)) → AreMarks workers refused log board → IsDone workers board
    → (s : Stamp) (ops : List PlannedOp) → at_stamp workers s ≡ Some (Tx ops) → (is_refused refused s || has_entry log s) ≡ true
all_there workers refused log board m done s ops is = by_marks (is_refused refused s) (has_entry log s) (m s ∙ ap (λ o. mark_of o (is_refused refused s) (has_entry log s)) is)
  where
    by_marks : (r d : Bool) → at_stamp board s ≡ mark_of (Some (Tx ops)) r d → (r || d) ≡ true
    by_marks true d h = refl
    by_marks false true h = refl
    by_marks false false h = absurd (done s ops is h)

row_open : (steps : List Step) (k : ℕ) → slice_get (replicate (length steps) Open) k ≡ mark_of (slice_get steps k) false false
row_open [] k = refl
row_open (x ∷ xs) zero = refl
row_open (x ∷ xs) (suc k) = row_open xs k

rows_open : (workers : List (List Step)) (w k : ℕ) → in_row (slice_get (map (λ (steps : List Step). replicate (length steps) Open) workers) w) k ≡ mark_of (in_row (slice_get workers w) k) false false
rows_open [] w k = refl
rows_open (x ∷ xs) zero k = row_open x k
rows_open (x ∷ xs) (suc w) k = rows_open xs w k

-- ---- what a run of the plan can't miss

mark_open : (workers : List (List Step)) (refused : List Refusal) (log : List Entry) (board : List (List Mark)) (s : Stamp) (step : Step) → AreMarks workers refused log board
    → at_stamp workers s ≡ Some step → is_refused refused s ≡ false → has_entry log s ≡ false → at_stamp board s ≡ Some Open
mark_open workers refused log board s step m is stands new =
    m s ∙ (ap (λ o. mark_of o (is_refused refused s) (has_entry log s)) is
    ∙ (ap (λ b. mark_of (Some step) b (has_entry log s)) stands ∙ ap (mark_of (Some step) false) new))

-- A step that is refused once isn't among those that were refused before.
refused_new : (all : List Refusal) (i : ℕ) (d : Refusal) → i < length all → IsDistinct is_of_same_step all → is_refused (take i all) (get_or all i d).stamp ≡ false
refused_new all i d below once = list_any_none (is_of_same_step (get_or all i d)) (take i all) (λ k e inside. apart k e inside)
  where
    nat_flips : (a b : Refusal) → is_of_same_step a b ≡ is_of_same_step b a
    nat_flips a b = rw (nat_flip a.stamp.worker b.stamp.worker, nat_flip a.stamp.step b.stamp.step) refl

    get_or_any : (xs : List Refusal) (k : ℕ) (e f : Refusal) → k < length xs → get_or xs k e ≡ get_or xs k f
    get_or_any [] k e f h = absurd (omega arith)
    get_or_any (x ∷ xs) zero e f h = refl
    get_or_any (x ∷ xs) (suc k) e f h = get_or_any xs k e f (omega arith)

    apart : (k : ℕ) (e : Refusal) → k < length (take i all) → is_of_same_step (get_or all i d) (get_or (take i all) k e) ≡ false
    apart k e inside =
        let before : k < i = omega (arith, length-take i all) in
        let same : get_or (take i all) k e ≡ get_or all k d = get_or-take i all k e before ∙ get_or_any all k e d (omega arith) in
        ap (is_of_same_step (get_or all i d)) same
        ∙ (nat_flips (get_or all i d) (get_or all k d) ∙ apart_from_distinct is_of_same_step all k i d once before below)

-- If all refused steps are steps of the plan, each once, the next one's step is open.
pub refused_missed : (workers : List (List Step)) (all : List Refusal) (i : ℕ) (d : Refusal) (board : List (List Mark)) → i < length all → RefusedStand workers (take i all) board
    → at_stamp board (get_or all i d).stamp ≢ Some Open → All (IsStep workers) all → IsDistinct is_of_same_step all → ⊥
refused_missed workers all i d board below was missed steps once =
    let step = All-get_or (IsStep workers) all i d below steps in
    missed (mark_open workers (take i all) [] board (get_or all i d).stamp step.0 was.marks step.1 (refused_new all i d below once) refl)

-- No entry before a transaction is of its step.
entry_new : (base : ℕ) (before after : List Entry) (t : Transaction) → InOrder base (before ++ Trans t ∷ after) → has_entry before t.stamp ≡ false
entry_new base before after t order = list_any_none (is_entry_of t.stamp) before (λ k e inside. by_entry k (get_or before k e) inside (get_front before (Trans t ∷ after) k e inside))
  where
    get_front : (xs ys : List Entry) (k : ℕ) (e : Entry) → k < length xs → slice_get (xs ++ ys) k ≡ Some (get_or xs k e)
    get_front [] ys k e h = absurd (omega arith)
    get_front (x ∷ xs) ys zero e h = refl
    get_front (x ∷ xs) ys (suc k) e h = get_front xs ys k e (omega arith)

    get_middle : (xs : List Entry) (e : Entry) (ys : List Entry) → slice_get (xs ++ e ∷ ys) (length xs) ≡ Some e
    get_middle [] e ys = refl
    get_middle (x ∷ xs) e ys = get_middle xs e ys

    by_stamp : (k : ℕ) (u : Transaction) → k < length before → slice_get (before ++ Trans t ∷ after) k ≡ Some (Trans u) → (b : Bool) → is_stamp t.stamp u.stamp ≡ b → b ≡ false
    by_stamp k u inside at true is =
        let same : t.stamp ≡ u.stamp = stamp_is t.stamp u.stamp is in
        let later = order k (length before) u t inside (ap transaction_of at) (ap transaction_of (get_middle before (Trans t) after)) (sym (ap (λ (s : Stamp). s.worker) same)) in
        let step : t.stamp.step ≡ u.stamp.step = ap (λ (s : Stamp). s.step) same in
        absurd (omega (arith, later.0, step))
    by_stamp k u inside at false is = refl

    by_entry : (k : ℕ) (e : Entry) → k < length before → slice_get (before ++ Trans t ∷ after) k ≡ Some e → is_entry_of t.stamp e ≡ false
    by_entry k (Trans u) inside at = by_stamp k u inside at (is_stamp t.stamp u.stamp) refl
    by_entry k (Atom a op answer) inside at = refl
    by_entry k (MadeRef v) inside at = refl
    by_entry k (MadeAtom v) inside at = refl

middle_of : {X : Type 0} (P : X → Type 0) (before : List X) (x : X) (after : List X) → All P (before ++ x ∷ after) → P x
middle_of P [] x after all = All-head P x after all
middle_of P (y ∷ before) x after all = middle_of P before x after (All-tail P y (before ++ x ∷ after) all)

-- If all entries are of the plan, the next one's step is open and names what it holds.
pub entry_missed : (workers : List (List Step)) (refused : List Refusal) (base : ℕ) (log before : List Entry) (e : Entry) (after : List Entry) (board : List (List Mark))
    → before ++ e ∷ after ≡ log → EntriesStand workers refused before board → EntryMissed workers board e → InOrder base log → All (IsPlanned workers refused) log → ⊥
entry_missed workers refused base log before e after board is was missed order planned =
    missed_by e missed (subst (InOrder base) (sym is) order) (middle_of (IsPlanned workers refused) before e after (subst (All (IsPlanned workers refused)) (sym is) planned))
  where
    missed_by : (x : Entry) → EntryMissed workers board x → InOrder base (before ++ x ∷ after) → IsPlanned workers refused x → ⊥
    missed_by (Trans t) miss orders of_step =
        miss of_step.ops of_step.step of_step.named
        (mark_open workers refused before board t.stamp (Tx of_step.ops) was.marks of_step.step of_step.stands (entry_new base before after t orders))
    missed_by (Atom a op answer) miss orders p = miss
    missed_by (MadeRef v) miss orders p = p
    missed_by (MadeAtom v) miss orders p = p

-- If each transaction is refused or has an entry, none is open.
done_there : (workers : List (List Step)) (refused : List Refusal) (log : List Entry) (board : List (List Mark)) → AreMarks workers refused log board
    → ((s : Stamp) (ops : List PlannedOp) → at_stamp workers s ≡ Some (Tx ops) → (is_refused refused s || has_entry log s) ≡ true) → IsDone workers board
done_there workers refused log board m whole s ops is marked =
    by_marks (is_refused refused s) (has_entry log s) (whole s ops is) (sym (ap (λ o. mark_of o (is_refused refused s) (has_entry log s)) is) ∙ (sym (m s) ∙ marked))
  where
    by_marks : (r d : Bool) → (r || d) ≡ true → mark_of (Some (Tx ops)) r d ≡ Some Open → ⊥
    by_marks true d h e = cc
    by_marks false true h e = cc
    by_marks false false h e = cc

-- ---- rows of marks

pub row_done : (workers : List (List Step)) (board : List (List Mark)) (k : ℕ) (steps : List Step) (marks : List Mark) → slice_get workers k ≡ Some steps → slice_get board k ≡ Some marks
    → IsDone workers board → IsRowDone steps marks
row_done workers board k steps marks at row done j ops is marked =
    done (stamp_of k j) ops (ap (λ r. in_row r j) at ∙ is) (ap (λ r. in_row r j) row ∙ marked)

-- What is so of each row up to one is so of one more.
pub rows_more : (workers : List (List Step)) (board : List (List Mark)) (k : ℕ) (row : List Step) (marked : List Mark) → slice_get workers k ≡ Some row → slice_get board k ≡ Some marked
    → ((i : ℕ) (steps : List Step) (marks : List Mark) → i < k → slice_get workers i ≡ Some steps → slice_get board i ≡ Some marks → IsRowDone steps marks)
    → IsRowDone row marked → (i : ℕ) (steps : List Step) (marks : List Mark) → i < k + 1 → slice_get workers i ≡ Some steps → slice_get board i ≡ Some marks → IsRowDone steps marks
rows_more workers board k row marked at here before this i steps marks below there stands = by_place (i == k) refl
  where
    by_place : (b : Bool) → (i == k) ≡ b → IsRowDone steps marks
    by_place true same =
        let place : i ≡ k = grind (arith, nat_tests) in
        let r : row ≡ steps = cc in
        let m : marked ≡ marks = cc in
        subst (λ xs. IsRowDone xs marks) r (subst (IsRowDone row) m this)
    by_place false other = before i steps marks (grind (arith, nat_tests)) there stands

pub rows_done : (workers : List (List Step)) (board rows : List (List Mark)) (k : ℕ) → rows ≡ board → length workers ≤ k
    → ((i : ℕ) (steps : List Step) (marks : List Mark) → i < k → slice_get workers i ≡ Some steps → slice_get rows i ≡ Some marks → IsRowDone steps marks) → IsDone workers board
rows_done workers board rows k same past all s ops is marked = by_worker (slice_get workers s.worker) refl is
  where
    by_row : (steps : List Step) (o : Option (List Mark)) → slice_get rows s.worker ≡ o → slice_get workers s.worker ≡ Some steps → slice_get steps s.step ≡ Some (Tx ops) → in_row o s.step ≡ Some Open → ⊥
    by_row steps None at there step mark = cc
    by_row steps (Some marks) at there step mark =
        let inside : s.worker < length workers = slice_get_within workers s.worker steps there in
        all s.worker steps marks (omega arith) there at s.step ops step mark

    by_worker : (o : Option (List Step)) → slice_get workers s.worker ≡ o → in_row o s.step ≡ Some (Tx ops) → ⊥
    by_worker None at step = cc
    by_worker (Some steps) at step =
        by_row steps (slice_get rows s.worker) refl at step (ap (λ b. in_row (slice_get b s.worker) s.step) same ∙ marked)

-- What the passes say together.
together : (plan : PlanSeen) (world : WorldSeen) (refused : List Refusal) (board board' board'' : List (List Mark))
    → board ≡ map (λ (steps : List Step). replicate (length steps) Open) plan.workers
    → world.base ≡ base_declared plan.refs plan.atoms → length world.agents.agents ≡ length plan.agents → InOrder world.base.point world.log
    → (AreMarks plan.workers [] [] board → RefusedStand plan.workers refused board')
    → (AreMarks plan.workers refused [] board' → EntriesStand plan.workers refused world.log board'')
    → IsDone plan.workers board'' → IsOrderly plan world refused
together plan world refused board board' board'' opened base agents order first second done = record {
  base = base;
  agents = agents;
  steps = one.steps;
  once = one.once;
  order = order;
  entries = two.entries;
  whole = all_there plan.workers refused world.log board'' two.marks done;
}
  where
    one : RefusedStand plan.workers refused board'
    one = first (λ s. ap (λ b. at_stamp b s) opened ∙ rows_open plan.workers s.worker s.step)

    two : EntriesStand plan.workers refused world.log board''
    two = second one.marks

-- The same, where the plan's steps and the log are lent.
pub orderly : (plan : PlanSeen) (world : WorldSeen) (refused : List Refusal) (workers : List (List Step)) (log : List Entry) (board board' board'' : List (List Mark))
    → workers ≡ plan.workers → log ≡ world.log
    → board ≡ map (λ (steps : List Step). replicate (length steps) Open) workers
    → world.base ≡ base_declared plan.refs plan.atoms → length world.agents.agents ≡ length plan.agents → InOrder world.base.point world.log
    → (AreMarks workers [] [] board → RefusedStand workers refused board')
    → (AreMarks workers refused [] board' → EntriesStand workers refused log board'')
    → IsDone workers board'' → IsOrderly plan world refused
orderly plan world refused workers log board board' board'' steps entries opened base agents order first second done =
    together plan world refused board board' board'' (opened ∙ ap (map (λ (steps : List Step). replicate (length steps) Open)) steps) base agents order
    (subst (λ w. AreMarks w [] [] board → RefusedStand w refused board') steps first)
    (subst (λ l. AreMarks plan.workers refused [] board' → EntriesStand plan.workers refused l board'') entries
    (subst (λ w. AreMarks w refused [] board' → EntriesStand w refused log board'') steps second))
    (subst (λ w. IsDone w board'') steps done)

-- The same, if an entry isn't of the plan or a transaction is left: this is no run of the plan.
pub not_orderly : (plan : PlanSeen) (world : WorldSeen) (refused : List Refusal) (workers : List (List Step)) (log : List Entry) (board board' : List (List Mark))
    → workers ≡ plan.workers → log ≡ world.log → board ≡ map (λ (steps : List Step). replicate (length steps) Open) workers
    → (AreMarks workers [] [] board → RefusedStand workers refused board')
    → (AreMarks workers refused [] board' → InOrder world.base.point log → All (IsPlanned workers refused) log
    → ((s : Stamp) (ops : List PlannedOp) → at_stamp workers s ≡ Some (Tx ops) → (is_refused refused s || has_entry log s) ≡ true) → ⊥)
    → IsOrderly plan world refused → ⊥
not_orderly plan world refused workers log board board' steps entries opened first missed is =
    missed one.marks (subst (InOrder world.base.point) (sym entries) is.order)
    (subst (All (IsPlanned workers refused)) (sym entries) (subst (λ w. All (IsPlanned w refused) world.log) (sym steps) is.entries))
    (λ s ops at. ap (λ l. is_refused refused s || has_entry l s) entries ∙ is.whole s ops (sym (ap (λ w. at_stamp w s) steps) ∙ at))
  where
    one : RefusedStand workers refused board'
    one = first (λ s. ap (λ b. at_stamp b s) opened ∙ rows_open workers s.worker s.step)

pub not_done : (workers : List (List Step)) (refused : List Refusal) (log : List Entry) (board' board'' : List (List Mark)) (base : ℕ)
    → (AreMarks workers refused [] board' → EntriesStand workers refused log board'') → (IsDone workers board'' → ⊥)
    → AreMarks workers refused [] board' → InOrder base log → All (IsPlanned workers refused) log
    → ((s : Stamp) (ops : List PlannedOp) → at_stamp workers s ≡ Some (Tx ops) → (is_refused refused s || has_entry log s) ≡ true) → ⊥
not_done workers refused log board' board'' base second left m order entries whole =
    left (done_there workers refused log board'' (second m).marks whole)

-- Laws of the replay, for a caller that adds to a log.
use Rattle.std.specs.Prelude.{◌≡◌, ℕ, zero, suc, ◌+◌, ◌<◌, ◌==◌, ◌&&◌, ◌||◌, not, true, false, Bool, Result, Ok, Err, Option, None, Some, List, [], ◌∷◌, ◌++◌, length, slice_get, slice_index_or, slice_set, if◌then◌else◌, refl}
use Rattle.std.proofs.Common.{◌∙◌, ap, sym, arith}
use Rattle.std.specs.Ordering.{eq_by_cmp, is_eq}
use Rattle.std.proofs.lemmas.Bool.{eqb-false, or_parts}
use Rattle.std.proofs.lemmas.Cmp.{tied_itself}
use Rattle.std.proofs.lemmas.List.{length-set}
use Rattle.ref_value.specs.Edn.{Edn}
use Rattle.ref_value.specs.Order.{edn_cmp}
use Rattle.ref_value.specs.OrderLaws.{edn_cmp_total, edn_eq}
use Rattle.ref_fun.specs.declared.faults.Cause.{Cause}
use Rattle.ref_fun.specs.Meaning.{Means}
use Rattle.ref_log.specs.declared.faults.AuditFault.{AuditFault}
use Rattle.ref_log.specs.declared.faults.AuditFault.TheVariants.{Answer}
use Rattle.ref_log.specs.declared.operations.Op.{Op}
use Rattle.ref_log.specs.declared.operations.Op.TheVariants.{Set, Alter, Commute, Ensure}
use Rattle.ref_log.specs.declared.operations.Done.{Done}
use Rattle.ref_log.specs.declared.entries.Entry.{Entry}
use Rattle.ref_log.specs.declared.entries.Entry.TheVariants.{Trans, Atom, MadeRef, MadeAtom}
use Rattle.ref_log.specs.declared.states.Base.{Base}
use Rattle.ref_log.specs.declared.states.PlainState.{PlainState}
use Rattle.ref_log.specs.Replay.{place, is_ensure, is_protected, is_touched, is_kept, after_done, after_found, after_one, after_place, and_done, after_dones, done_of, with_refs, with_atoms, step, and_step, replay_from, point_after, state_of, replay, is_changed_by, refs_after_one, refs_after, last_change_from, last_change}

-- One more operation in an entry is taken after the others.
pub after_dones-append : (means : Means) (all : List Done) (point : ℕ) (ds : List Done) (d : Done) (values : Result (List Edn) AuditFault) → after_dones means all point (ds ++ d ∷ []) values ≡ and_done means all point d (after_dones means all point ds values)
after_dones-append means all point [] d values = refl
after_dones-append means all point (x ∷ ds) d values = after_dones-append means all point ds d (and_done means all point x values)

-- One more entry is one more step, at the next point.
pub replay_from-append : (means : Means) (point : ℕ) (es : List Entry) (e : Entry) (state : Result PlainState AuditFault) → replay_from means point (es ++ e ∷ []) state ≡ and_step means (point + length es + 1) e (replay_from means point es state)
replay_from-append means point [] e state =
    let next : point + 1 ≡ point + length {A = Entry} [] + 1 = omega arith in
    ap (λ p. and_step means p e state) next
replay_from-append means point (x ∷ es) e state =
    let next : point + 1 + length es + 1 ≡ point + length (x ∷ es) + 1 = omega arith in
    replay_from-append means (point + 1) es e (and_step means (point + 1) x state) ∙ ap (λ p. and_step means p e (replay_from means (point + 1) es (and_step means (point + 1) x state))) next

pub replay-append : (means : Means) (base : Base) (es : List Entry) (e : Entry) → replay means base (es ++ e ∷ []) ≡ and_step means (point_after base es + 1) e (replay means base es)
replay-append means base es e = replay_from-append means base.point es e (Ok (state_of base))

-- So it is where the log has a replay.
pub replay-more : (means : Means) (base : Base) (es : List Entry) (e : Entry) (state after : PlainState) → replay means base es ≡ Ok state → step means (point_after base es + 1) e state ≡ Ok after → replay means base (es ++ e ∷ []) ≡ Ok after
replay-more means base es e state after so_far next = replay-append means base es e ∙ (ap (and_step means (point_after base es + 1) e) so_far ∙ next)

-- After a fault nothing changes.
pub after_dones-Err : (means : Means) (all : List Done) (point : ℕ) (ds : List Done) (fault : AuditFault) → after_dones means all point ds (Err fault) ≡ Err fault
after_dones-Err means all point [] fault = refl
after_dones-Err means all point (d ∷ ds) fault = after_dones-Err means all point ds fault

pub replay_from-Err : (means : Means) (point : ℕ) (es : List Entry) (fault : AuditFault) → replay_from means point es (Err fault) ≡ Err fault
replay_from-Err means point [] fault = refl
replay_from-Err means point (e ∷ es) fault = replay_from-Err means (point + 1) es fault

-- Values that are equal by their order are the same.
pub same_value : (v w : Edn) → eq_by_cmp edn_cmp v w ≡ true → v ≡ w
same_value v w same = (edn_eq v w true (sym same)).0 refl

-- An operation that stores what its function gave on the ref's value sets the ref to it.
pub is_kept-itself : (d : Done) → is_kept d d.answer ≡ true
is_kept-itself d = ap is_eq (tied_itself edn_cmp_total d.answer)

or-true : (b : Bool) → (b || true) ≡ true
or-true true = refl
or-true false = refl

pub after_done-kept : (means : Means) (all : List Done) (point : ℕ) (d : Done) (values : List Edn) (v : Edn) → slice_get values d.r ≡ Some v → place means d.op v ≡ Ok d.answer → after_done means all point d values ≡ Ok (slice_set values d.r d.answer)
after_done-kept means all point d values v there gives =
    let free = not (is_protected all d.r) in
    ap (after_found means free point d values) there ∙ (ap (after_place free point d values) gives ∙ rw (is_kept-itself d, or-true free))

-- The last change of a ref moves to the point of an entry that makes or touches it, and stays where it was at another entry.
pub last_change_from-append : (point refs : ℕ) (es : List Entry) (e : Entry) (r before : ℕ) → last_change_from point refs (es ++ e ∷ []) r before ≡ (if is_changed_by (refs_after refs es) e r then point + length es + 1 else last_change_from point refs es r before)
last_change_from-append point refs [] e r before =
    let next : point + 1 ≡ point + length {A = Entry} [] + 1 = omega arith in
    ap (λ p. if is_changed_by refs e r then p else before) next
last_change_from-append point refs (x ∷ es) e r before =
    let next : point + 1 + length es + 1 ≡ point + length (x ∷ es) + 1 = omega arith in
    let more = refs_after_one refs x in
    let first = if is_changed_by refs x r then point + 1 else before in
    last_change_from-append (point + 1) more es e r first ∙ ap (λ p. if is_changed_by (refs_after more es) e r then p else last_change_from (point + 1) more es r first) next

pub last_change-append : (base : Base) (es : List Entry) (e : Entry) (r : ℕ) → last_change base (es ++ e ∷ []) r ≡ (if is_changed_by (refs_after (length base.refs) es) e r then point_after base es + 1 else last_change base es r)
last_change-append base es e r = last_change_from-append base.point (length base.refs) es e r (slice_index_or base.last r 0)

-- An operation that is applied sets its ref to its place.
if-Ok : (b : Bool) (values after : List Edn) (fault : AuditFault) → (if b then Ok values else Err fault) ≡ Ok after → after ≡ values
if-Ok true values after fault is = cc
if-Ok false values after fault is = absurd cc

after_place-Ok : (free : Bool) (point : ℕ) (d : Done) (values after : List Edn) (gives : Result Edn Cause) → after_place free point d values gives ≡ Ok after → (v : Edn) × (gives ≡ Ok v) × (after ≡ slice_set values d.r v)
after_place-Ok free point d values after (Ok v) is = (v, refl, if-Ok (free || is_kept d v) (slice_set values d.r v) after (Answer point) is)
after_place-Ok free point d values after (Err c) is = absurd cc

pub after_found-Ok : (means : Means) (free : Bool) (point : ℕ) (d : Done) (values after : List Edn) (there : Option Edn) → after_found means free point d values there ≡ Ok after → (old v : Edn) × (there ≡ Some old) × (place means d.op old ≡ Ok v) × (after ≡ slice_set values d.r v)
after_found-Ok means free point d values after (Some old) is =
    let set = after_place-Ok free point d values after (place means d.op old) is in
    (old, set.0, refl, set.1, set.2)
after_found-Ok means free point d values after None is = absurd cc

-- What is at a number of a list, one of whose elements is set.
pub slice_get-slice_set-here : (values : List Edn) (i : ℕ) (v : Edn) → i < length values → slice_get (slice_set values i v) i ≡ Some v
slice_get-slice_set-here [] i v below = absurd (omega (arith, below))
slice_get-slice_set-here (x ∷ xs) zero v below = refl
slice_get-slice_set-here (x ∷ xs) (suc i) v below = slice_get-slice_set-here xs i v (omega (arith, below))

pub slice_get-slice_set : (values : List Edn) (i r : ℕ) (v : Edn) → (i ≡ r → ⊥) → slice_get (slice_set values i v) r ≡ slice_get values r
slice_get-slice_set [] i r v other = refl
slice_get-slice_set (x ∷ xs) zero zero v other = absurd (other refl)
slice_get-slice_set (x ∷ xs) zero (suc r) v other = refl
slice_get-slice_set (x ∷ xs) (suc i) zero v other = refl
slice_get-slice_set (x ∷ xs) (suc i) (suc r) v other = slice_get-slice_set xs i r v (λ same. other (ap suc same))

-- An operation that doesn't touch a ref leaves its value: it is on another ref, or it is `ensure`.
and-true : (b : Bool) → (b && true) ≡ false → b ≡ false
and-true true is = is
and-true false is = refl

slice_set-itself : (values : List Edn) (i : ℕ) (v : Edn) → slice_get values i ≡ Some v → slice_set values i v ≡ values
slice_set-itself [] i v there = refl
slice_set-itself (x ∷ xs) zero v there = cc
slice_set-itself (x ∷ xs) (suc i) v there = ap (λ l. x ∷ l) (slice_set-itself xs i v there)

slice_get-untouched : (means : Means) (op : Op) (i r : ℕ) (values : List Edn) (old v : Edn) → slice_get values i ≡ Some old → place means op old ≡ Ok v → (i == r && not (is_ensure op)) ≡ false → slice_get (slice_set values i v) r ≡ slice_get values r
slice_get-untouched means Ensure i r values old v there gives untouched = ap (λ l. slice_get l r) (slice_set-itself values i v cc)
slice_get-untouched means (Set w) i r values old v there gives untouched = slice_get-slice_set values i r v (eqb-false i r (and-true (i == r) untouched))
slice_get-untouched means (Alter code args) i r values old v there gives untouched = slice_get-slice_set values i r v (eqb-false i r (and-true (i == r) untouched))
slice_get-untouched means (Commute code args) i r values old v there gives untouched = slice_get-slice_set values i r v (eqb-false i r (and-true (i == r) untouched))

pub after_done-untouched : (means : Means) (all : List Done) (point : ℕ) (d : Done) (values after : List Edn) (r : ℕ) → after_done means all point d values ≡ Ok after → (d.r == r && not (is_ensure d.op)) ≡ false → slice_get after r ≡ slice_get values r
after_done-untouched means all point d values after r is untouched =
    let set = after_found-Ok means (not (is_protected all d.r)) point d values after (slice_get values d.r) is in
    ap (λ l. slice_get l r) set.4 ∙ slice_get-untouched means d.op d.r r values set.0 set.1 set.2 set.3 untouched

pub after_done-length : (means : Means) (all : List Done) (point : ℕ) (d : Done) (values after : List Edn) → after_done means all point d values ≡ Ok after → length after ≡ length values
after_done-length means all point d values after is =
    let set = after_found-Ok means (not (is_protected all d.r)) point d values after (slice_get values d.r) is in
    ap (λ l. length l) set.4 ∙ length-set values d.r set.1

-- Where all operations are applied, so is the first.
pub after_dones-Ok : (means : Means) (all : List Done) (point : ℕ) (ds : List Done) (former : Result (List Edn) AuditFault) (after : List Edn) → after_dones means all point ds former ≡ Ok after → (values : List Edn) × (former ≡ Ok values)
after_dones-Ok means all point ds (Ok values) after is = (values, refl)
after_dones-Ok means all point ds (Err fault) after is =
    let fails : Err fault ≡ Ok after = sym (after_dones-Err means all point ds fault) ∙ is in
    absurd cc

pub after_dones-untouched : (means : Means) (all : List Done) (point : ℕ) (ds : List Done) (values after : List Edn) (r : ℕ) → after_dones means all point ds (Ok values) ≡ Ok after → is_touched ds r ≡ false → slice_get after r ≡ slice_get values r
after_dones-untouched means all point [] values after r is untouched = ap (λ l. slice_get l r) cc
after_dones-untouched means all point (d ∷ ds) values after r is untouched =
    let none = or_parts (d.r == r && not (is_ensure d.op)) (is_touched ds r) untouched in
    let first = after_dones-Ok means all point ds (after_done means all point d values) after is in
    let rest : after_dones means all point ds (Ok first.0) ≡ Ok after = ap (after_dones means all point ds) (sym first.1) ∙ is in
    after_dones-untouched means all point ds first.0 after r rest none.1 ∙ after_done-untouched means all point d values first.0 r first.1 none.0

pub after_dones-length : (means : Means) (all : List Done) (point : ℕ) (ds : List Done) (values after : List Edn) → after_dones means all point ds (Ok values) ≡ Ok after → length after ≡ length values
after_dones-length means all point [] values after is = ap (λ l. length l) cc
after_dones-length means all point (d ∷ ds) values after is =
    let first = after_dones-Ok means all point ds (after_done means all point d values) after is in
    let rest : after_dones means all point ds (Ok first.0) ≡ Ok after = ap (after_dones means all point ds) (sym first.1) ∙ is in
    after_dones-length means all point ds first.0 after rest ∙ after_done-length means all point d values first.0 first.1

-- What is at a number of a list with one element more, which isn't the number of that one.
slice_get-append : (values : List Edn) (r : ℕ) (v : Edn) → (length values ≡ r → ⊥) → slice_get (values ++ v ∷ []) r ≡ slice_get values r
slice_get-append [] zero v other = absurd (other refl)
slice_get-append [] (suc r) v other = refl
slice_get-append (x ∷ xs) zero v other = refl
slice_get-append (x ∷ xs) (suc r) v other = slice_get-append xs r v (λ same. other (ap suc same))

length-append-one : (values : List Edn) (v : Edn) → length (values ++ v ∷ []) ≡ length values + 1
length-append-one [] v = refl
length-append-one (x ∷ xs) v =
    let more = length-append-one xs v in
    omega (arith, more)

-- The refs after an entry, where it is applied.
pub refs_of : (state after : PlainState) (refs : Result (List Edn) AuditFault) → with_refs state refs ≡ Ok after → refs ≡ Ok after.refs
refs_of state after (Ok refs) is = ap Ok cc
refs_of state after (Err fault) is = absurd cc

atoms_leave : (state after : PlainState) (atoms : Result (List Edn) AuditFault) → with_atoms state atoms ≡ Ok after → after.refs ≡ state.refs
atoms_leave state after (Ok atoms) is = cc
atoms_leave state after (Err fault) is = absurd cc

-- An entry leaves the value of a ref that it doesn't make or touch.
pub step-untouched : (means : Means) (point : ℕ) (e : Entry) (state after : PlainState) (r : ℕ) → step means point e state ≡ Ok after → is_changed_by (length state.refs) e r ≡ false → slice_get after.refs r ≡ slice_get state.refs r
step-untouched means point (Trans t) state after r is untouched = after_dones-untouched means t.dones point t.dones state.refs after.refs r (refs_of state after (after_dones means t.dones point t.dones (Ok state.refs)) is) untouched
step-untouched means point (Atom a op answer) state after r is untouched = ap (λ l. slice_get l r) (atoms_leave state after (after_one means false point (done_of a op answer) state.atoms) is)
step-untouched means point (MadeRef v) state after r is untouched =
    let refs : after.refs ≡ state.refs ++ v ∷ [] = cc in
    ap (λ l. slice_get l r) refs ∙ slice_get-append state.refs r v (eqb-false (length state.refs) r untouched)
step-untouched means point (MadeAtom v) state after r is untouched =
    let refs : after.refs ≡ state.refs = cc in
    ap (λ l. slice_get l r) refs

-- There are as many refs as were declared and made.
pub step-refs : (means : Means) (point : ℕ) (e : Entry) (state after : PlainState) → step means point e state ≡ Ok after → length after.refs ≡ refs_after_one (length state.refs) e
step-refs means point (Trans t) state after is = after_dones-length means t.dones point t.dones state.refs after.refs (refs_of state after (after_dones means t.dones point t.dones (Ok state.refs)) is)
step-refs means point (Atom a op answer) state after is = ap (λ l. length l) (atoms_leave state after (after_one means false point (done_of a op answer) state.atoms) is)
step-refs means point (MadeRef v) state after is =
    let refs : after.refs ≡ state.refs ++ v ∷ [] = cc in
    ap (λ l. length l) refs ∙ length-append-one state.refs v
step-refs means point (MadeAtom v) state after is =
    let refs : after.refs ≡ state.refs = cc in
    ap (λ l. length l) refs

-- Where all entries are applied, so is the first.
pub replay_from-Ok : (means : Means) (point : ℕ) (es : List Entry) (former : Result PlainState AuditFault) (after : PlainState) → replay_from means point es former ≡ Ok after → (state : PlainState) × (former ≡ Ok state)
replay_from-Ok means point es (Ok state) after is = (state, refl)
replay_from-Ok means point es (Err fault) after is =
    let fails : Err fault ≡ Ok after = sym (replay_from-Err means point es fault) ∙ is in
    absurd cc

pub replay_from-refs : (means : Means) (point : ℕ) (es : List Entry) (state after : PlainState) → replay_from means point es (Ok state) ≡ Ok after → length after.refs ≡ refs_after (length state.refs) es
replay_from-refs means point [] state after is =
    let refs : after.refs ≡ state.refs = cc in
    ap (λ l. length l) refs
replay_from-refs means point (e ∷ es) state after is =
    let first = replay_from-Ok means (point + 1) es (step means (point + 1) e state) after is in
    let rest : replay_from means (point + 1) es (Ok first.0) ≡ Ok after = ap (replay_from means (point + 1) es) (sym first.1) ∙ is in
    replay_from-refs means (point + 1) es first.0 after rest ∙ ap (λ n. refs_after n es) (step-refs means (point + 1) e state first.0 first.1)

pub replay-refs : (means : Means) (base : Base) (es : List Entry) (after : PlainState) → replay means base es ≡ Ok after → length after.refs ≡ refs_after (length base.refs) es
replay-refs means base es after is = replay_from-refs means base.point es (state_of base) after is

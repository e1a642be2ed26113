-- Laws of the tally and of the books, for a caller that adds to a log.
use Rattle.std.specs.Prelude.{◌≡◌, ℕ, ℤ, pos, negsuc, zero, suc, ◌+◌, ◌+ℤ◌, ◌-ℤ◌, ◌<◌, ◌≤◌, ◌==◌, ◌&&◌, ◌||◌, not, true, false, Bool, Ok, Err, Option, None, Some, List, [], ◌∷◌, ◌++◌, length, slice_get, slice_set, if◌then◌else◌, refl}
use Rattle.std.specs.List.{list_all}
use Rattle.std.proofs.Common.{◌∙◌, ap, subst, sym, arith}
use Rattle.std.proofs.lemmas.Bool.{and_from, and_parts, eqb-true, eqb-false, ne_eqb}
use Rattle.std.proofs.lemmas.Int.{ints}
use Rattle.ref_value.specs.Edn.{Edn, nil, boolean, int, string, keyword, symbol, vector, map, set}
use Rattle.ref_fun.specs.Integers.{int_value, is_i64, minus, plus}
use Rattle.ref_fun.specs.Meaning.{Means}
use Rattle.ref_fun.specs.declared.faults.Cause.TheVariants.{Overflow}
use Rattle.ref_log.specs.Laws.{after_done-length, after_dones-Ok, after_found-Ok, refs_of, replay_from-Ok, replay_from-refs, slice_get-slice_set, slice_get-slice_set-here, step-refs}
use Rattle.ref_log.specs.Replay.{after_done, after_dones, is_protected, place, refs_after, replay, replay_from, state_of, step}
use Rattle.ref_log.specs.Tally.{IsMoved, IsTally, commits_in, commits_of, count_found, counted, fit_tally, fits_entry, fits_tally, is_count, is_tally, moved, moved_by, moved_by_done, moved_by_dones, moved_in, moved_of, start_of, tally_value}
use Rattle.ref_log.specs.declared.counting.Side.{Side}
use Rattle.ref_log.specs.declared.counting.Side.TheVariants.{Added, Taken}
use Rattle.ref_log.specs.declared.entries.Entry.{Entry}
use Rattle.ref_log.specs.declared.entries.Entry.TheVariants.{Trans, Atom, MadeRef, MadeAtom}
use Rattle.ref_log.specs.declared.operations.Done.{Done}
use Rattle.ref_log.specs.declared.operations.Op.{Op}
use Rattle.ref_log.specs.declared.operations.Op.TheVariants.{Set, Alter, Commute, Ensure}
use Rattle.ref_log.specs.declared.states.Base.{Base}
use Rattle.ref_log.specs.declared.states.PlainState.{PlainState}

-- The function of code 1 adds one integer to an integer, and that of code 2 takes it away: what each meaning promises.
abbrev pub Adds : Means → Type 0
Adds means = (a b : ℤ) → means 1 (int b ∷ []) (int a) ≡ plus (int b ∷ []) (int a)

abbrev pub Takes : Means → Type 0
Takes means = (a b : ℤ) → means 2 (int b ∷ []) (int a) ≡ minus (int b ∷ []) (int a)

-- ---- an operation that the tally takes moves it as far as it says

plus_counts : (n : ℤ) (k : ℕ) (v : Edn) → plus (int (pos k) ∷ []) (int n) ≡ Ok v → v ≡ int (n +ℤ pos k)
plus_counts n k v is = fits (is_i64 (n +ℤ pos k)) is where
  fits : (b : Bool) → int_value (if b then Ok (n +ℤ pos k) else Err Overflow) ≡ Ok v → v ≡ int (n +ℤ pos k)
  fits true e = cc
  fits false e = absurd cc

minus_counts : (n : ℤ) (k : ℕ) (v : Edn) → minus (int (pos k) ∷ []) (int n) ≡ Ok v → v ≡ int (n -ℤ pos k)
minus_counts n k v is = fits (is_i64 (n -ℤ pos k)) is where
  fits : (b : Bool) → int_value (if b then Ok (n -ℤ pos k) else Err Overflow) ≡ Ok v → v ≡ int (n -ℤ pos k)
  fits true e = cc
  fits false e = absurd cc

-- A count is the number that it is.
a_count : (v : Edn) → is_count (v ∷ []) ≡ true → v ≡ int (pos (counted (v ∷ [])))
a_count nil is = absurd cc
a_count (boolean b) is = absurd cc
a_count (int (pos n)) is = refl
a_count (int (negsuc n)) is = absurd cc
a_count (string t) is = absurd cc
a_count (keyword k) is = absurd cc
a_count (symbol k) is = absurd cc
a_count (vector vs) is = absurd cc
a_count (map es) is = absurd cc
a_count (set vs) is = absurd cc

not_two : (x y : Edn) (ys : List Edn) → is_count (x ∷ y ∷ ys) ≡ false
not_two nil y ys = refl
not_two (boolean b) y ys = refl
not_two (int (pos n)) y ys = refl
not_two (int (negsuc n)) y ys = refl
not_two (string t) y ys = refl
not_two (keyword k) y ys = refl
not_two (symbol k) y ys = refl
not_two (vector vs) y ys = refl
not_two (map es) y ys = refl
not_two (set vs) y ys = refl

counted_args : (args : List Edn) → is_count args ≡ true → args ≡ int (pos (counted args)) ∷ []
counted_args [] fits = absurd cc
counted_args (v ∷ []) fits = ap (λ w. w ∷ []) (a_count v fits)
counted_args (x ∷ y ∷ ys) fits =
    let two = not_two x y ys in
    absurd cc

moved_nowhere : (n : ℤ) → n ≡ moved n 0 0
moved_nowhere n = omega (arith, ints)

moved_up : (n : ℤ) (k : ℕ) → n +ℤ pos k ≡ moved n k 0
moved_up n k = omega (arith, ints)

moved_down : (n : ℤ) (k : ℕ) → n -ℤ pos k ≡ moved n 0 k
moved_down n k = omega (arith, ints)

moved_twice : (n : ℤ) (a b c d : ℕ) → moved (moved n a b) c d ≡ moved n (a + c) (b + d)
moved_twice n a b c d = omega (arith, ints)

below_found : (values : List Edn) (i : ℕ) (v : Edn) → slice_get values i ≡ Some v → i < length values
below_found [] i v there = absurd cc
below_found (x ∷ xs) zero v there = omega arith
below_found (x ∷ xs) (suc i) v there =
    let below = below_found xs i v there in
    omega (arith, below)

module _ (means : Means) (adds : Adds means) (takes : Takes means) where
  -- what the function of a code gives for a count
  called : (code side : ℕ) (args : List Edn) (n : ℤ) (v : Edn) → (code == side) ≡ true → is_count args ≡ true → means code args (int n) ≡ Ok v → means side (int (pos (counted args)) ∷ []) (int n) ≡ Ok v
  called code side args n v same fits gives =
      ap (λ c. means c (int (pos (counted args)) ∷ []) (int n)) (sym (eqb-true code side same))
      ∙ (ap (λ a. means code a (int n)) (sym (counted_args args fits)) ∙ gives)

  place_moves : (op : Op) (n : ℤ) (v : Edn) → fits_tally op ≡ true → place means op (int n) ≡ Ok v → v ≡ int (moved n (moved_by Added op) (moved_by Taken op))
  place_moves (Set w) n v fits gives = absurd cc
  place_moves (Alter code args) n v fits gives = absurd cc
  place_moves Ensure n v fits gives =
      let same : v ≡ int n = cc in
      same ∙ ap int (moved_nowhere n)
  place_moves (Commute code args) n v fits gives = by (code == 1) refl (code == 2) refl fits where
    k : ℕ
    k = counted args

    is_one : (b : Bool) → (b || false) ≡ true → b ≡ true
    is_one true e = refl
    is_one false e = absurd cc

    by : (one : Bool) → (code == 1) ≡ one → (two : Bool) → (code == 2) ≡ two → ((one && is_count args) || (two && is_count args)) ≡ true → v ≡ int (moved n (if one then k else 0) (if two then k else 0))
    by true e true f is =
        let one = eqb-true code 1 e in
        let two = eqb-true code 2 f in
        absurd (omega (arith, one, two))
    by true e false f is = plus_counts n k v (sym (adds n (pos k)) ∙ called code 1 args n v e (is_one (is_count args) is) gives) ∙ ap int (moved_up n k)
    by false e true f is = minus_counts n k v (sym (takes n (pos k)) ∙ called code 2 args n v f is gives) ∙ ap int (moved_down n k)
    by false e false f is = absurd cc

  done_moves : (all : List Done) (point : ℕ) (d : Done) (t : ℕ) (n : ℤ) (values after : List Edn)
      → after_done means all point d values ≡ Ok after → (not (is_tally (Some t) d.r) || fits_tally d.op) ≡ true
      → slice_get values t ≡ Some (int n) → slice_get after t ≡ Some (int (moved n (moved_by_done Added (Some t) d) (moved_by_done Taken (Some t) d)))
  done_moves all point d t n values after is fits there =
      let found = after_found-Ok means (not (is_protected all d.r)) point d values after (slice_get values d.r) is in
      by (t == d.r) refl found.0 found.1 found.2 found.3 found.4 where
        by : (here : Bool) → (t == d.r) ≡ here → (old v : Edn) → slice_get values d.r ≡ Some old → place means d.op old ≡ Ok v → after ≡ slice_set values d.r v → slice_get after t ≡ Some (int (moved n (moved_by_done Added (Some t) d) (moved_by_done Taken (Some t) d)))
        by true e old v found gives placed =
            let same = eqb-true t d.r e in
            let was : old ≡ int n = cc in
            let takes_it : fits_tally d.op ≡ true = rw e at fits in
            let now : v ≡ int (moved n (moved_by Added d.op) (moved_by Taken d.op)) = place_moves d.op n v takes_it (ap (place means d.op) (sym was) ∙ gives) in
            rw (e, placed, same) (slice_get-slice_set-here values d.r v (below_found values d.r old found) ∙ ap Some now)
        by false e old v found gives placed =
            let other : slice_get after t ≡ Some (int n) = ap (λ l. slice_get l t) placed ∙ (slice_get-slice_set values d.r t v (λ same. eqb-false t d.r e (sym same)) ∙ there) in
            rw e (other ∙ ap (λ k. Some (int k)) (moved_nowhere n))

  -- A transaction moves the tally as far as its operations say, and no further.
  pub after_dones-tally : (all : List Done) (point : ℕ) (ds : List Done) (t : ℕ) (n : ℤ) (values after : List Edn)
      → after_dones means all point ds (Ok values) ≡ Ok after → fit_tally (Some t) ds ≡ true
      → slice_get values t ≡ Some (int n) → slice_get after t ≡ Some (int (moved n (moved_by_dones Added (Some t) ds) (moved_by_dones Taken (Some t) ds)))
  after_dones-tally all point [] t n values after is fits there =
      let same : after ≡ values = cc in
      ap (λ l. slice_get l t) same ∙ (there ∙ ap (λ k. Some (int k)) (moved_nowhere n))
  after_dones-tally all point (d ∷ ds) t n values after is fits there =
      let parts = and_parts (not (is_tally (Some t) d.r) || fits_tally d.op) (fit_tally (Some t) ds) fits in
      let first = after_dones-Ok means all point ds (after_done means all point d values) after is in
      let rest : after_dones means all point ds (Ok first.0) ≡ Ok after = ap (after_dones means all point ds) (sym first.1) ∙ is in
      let one = done_moves all point d t n values first.0 first.1 parts.0 there in
      let up = moved_by_done Added (Some t) d in
      let down = moved_by_done Taken (Some t) d in
      after_dones-tally all point ds t (moved n up down) first.0 after rest parts.1 one
      ∙ ap (λ k. Some (int k)) (moved_twice n up down (moved_by_dones Added (Some t) ds) (moved_by_dones Taken (Some t) ds))

-- ---- a ref that isn't there yet was never touched

pub moved-none : (side : Side) (ds : List Done) → moved_by_dones side None ds ≡ 0
moved-none side [] = refl
moved-none side (d ∷ ds) =
    let rest = moved-none side ds in
    omega (arith, rest)

pub moved_of-none : (side : Side) (es : List Entry) → moved_of side None es ≡ 0
moved_of-none side [] = refl
moved_of-none side (Trans t ∷ es) =
    let here = moved-none side t.dones in
    let rest = moved_of-none side es in
    omega (arith, here, rest)
moved_of-none side (Atom a op answer ∷ es) =
    let rest = moved_of-none side es in
    omega (arith, rest)
moved_of-none side (MadeRef v ∷ es) =
    let rest = moved_of-none side es in
    omega (arith, rest)
moved_of-none side (MadeAtom v ∷ es) =
    let rest = moved_of-none side es in
    omega (arith, rest)

dones_fresh : (side : Side) (means : Means) (all : List Done) (point : ℕ) (ds : List Done) (t : ℕ) (values after : List Edn)
    → after_dones means all point ds (Ok values) ≡ Ok after → length values ≤ t → (moved_by_dones side (Some t) ds ≡ 0) × (fit_tally (Some t) ds ≡ true)
dones_fresh side means all point [] t values after is above = (refl, refl)
dones_fresh side means all point (d ∷ ds) t values after is above =
    let first = after_dones-Ok means all point ds (after_done means all point d values) after is in
    let rest : after_dones means all point ds (Ok first.0) ≡ Ok after = ap (after_dones means all point ds) (sym first.1) ∙ is in
    let found = after_found-Ok means (not (is_protected all d.r)) point d values first.0 (slice_get values d.r) first.1 in
    let below = below_found values d.r found.0 found.2 in
    let other : (t == d.r) ≡ false = ne_eqb t d.r (λ same. absurd (omega (arith, above, below, same))) in
    let as_long = after_done-length means all point d values first.0 first.1 in
    let later = dones_fresh side means all point ds t first.0 after rest (omega (arith, above, as_long)) in
    (rw (other, later.0) refl, rw (other, later.1) refl)

refs_grow : (n : ℕ) (es : List Entry) → n ≤ refs_after n es
refs_grow n [] = omega arith
refs_grow n (Trans t ∷ es) = refs_grow n es
refs_grow n (Atom a op answer ∷ es) = refs_grow n es
refs_grow n (MadeRef v ∷ es) =
    let more = refs_grow (n + 1) es in
    omega (arith, more)
refs_grow n (MadeAtom v ∷ es) = refs_grow n es

step_fresh : (side : Side) (means : Means) (point : ℕ) (e : Entry) (t : ℕ) (state after : PlainState)
    → step means point e state ≡ Ok after → length state.refs ≤ t → (moved_in side (Some t) e ≡ 0) × (fits_entry (Some t) e ≡ true)
step_fresh side means point (Trans tr) t state after is above = dones_fresh side means tr.dones point tr.dones t state.refs after.refs (refs_of state after (after_dones means tr.dones point tr.dones (Ok state.refs)) is) above
step_fresh side means point (Atom a op answer) t state after is above = (refl, refl)
step_fresh side means point (MadeRef v) t state after is above = (refl, refl)
step_fresh side means point (MadeAtom v) t state after is above = (refl, refl)

replay_from-fresh : (side : Side) (means : Means) (point : ℕ) (es : List Entry) (t : ℕ) (state after : PlainState)
    → replay_from means point es (Ok state) ≡ Ok after → length after.refs ≤ t → (moved_of side (Some t) es ≡ 0) × (list_all (fits_entry (Some t)) es ≡ true)
replay_from-fresh side means point [] t state after is above = (refl, refl)
replay_from-fresh side means point (e ∷ es) t state after is above =
    let first = replay_from-Ok means (point + 1) es (step means (point + 1) e state) after is in
    let rest : replay_from means (point + 1) es (Ok first.0) ≡ Ok after = ap (replay_from means (point + 1) es) (sym first.1) ∙ is in
    let many = replay_from-refs means (point + 1) es first.0 after rest in
    let grown = refs_grow (length first.0.refs) es in
    let made = step-refs means (point + 1) e state first.0 first.1 in
    let more = refs_grow (length state.refs) (e ∷ []) in
    let later = replay_from-fresh side means (point + 1) es t first.0 after rest above in
    let here = step_fresh side means (point + 1) e t state first.0 first.1 (omega (arith, above, many, grown, made, more)) in
    (rw (here.0, later.0) refl, and_from (fits_entry (Some t) e) (list_all (fits_entry (Some t)) es) here.1 later.1)

-- A ref that is made next isn't in any entry: no operation was made on it.
pub replay-fresh : (side : Side) (means : Means) (base : Base) (es : List Entry) (t : ℕ) (after : PlainState)
    → replay means base es ≡ Ok after → length after.refs ≤ t → (moved_of side (Some t) es ≡ 0) × (list_all (fits_entry (Some t)) es ≡ true)
replay-fresh side means base es t after is above = replay_from-fresh side means base.point es t (state_of base) after is above

-- ---- the tally's value

pub tally-value : (tally : Option ℕ) (values : List Edn) (n : ℤ) → IsTally tally values n → tally_value tally values ≡ n
tally-value None values n is = sym is
tally-value (Some t) values n is = rw is refl

pub tally-itself : (tally : Option ℕ) (values : List Edn) (n : ℤ) → IsTally tally values n → IsTally tally values (tally_value tally values)
tally-itself tally values n is = rw (tally-value tally values n is) is

-- A transaction moves it as far as its operations say.
pub tally-moved : (means : Means) → Adds means → Takes means → (all : List Done) (point : ℕ) (ds : List Done) (tally : Option ℕ) (n : ℤ) (values after : List Edn)
    → after_dones means all point ds (Ok values) ≡ Ok after → fit_tally tally ds ≡ true → IsTally tally values n → IsTally tally after (moved n (moved_by_dones Added tally ds) (moved_by_dones Taken tally ds))
tally-moved means adds takes all point ds None n values after made fits is =
    let up = moved-none Added ds in
    let down = moved-none Taken ds in
    ap (λ k. moved n k (moved_by_dones Taken None ds)) up ∙ (ap (moved n 0) down ∙ (sym (moved_nowhere n) ∙ is))
tally-moved means adds takes all point ds (Some t) n values after made fits is = after_dones-tally means adds takes all point ds t n values after made fits is

-- and so the books
pub books-moved : (means : Means) → Adds means → Takes means → (all : List Done) (point : ℕ) (ds : List Done) (tally : Option ℕ) (values after : List Edn) (start added taken : ℕ)
    → after_dones means all point ds (Ok values) ≡ Ok after → fit_tally tally ds ≡ true → IsMoved tally values start added taken
    → IsMoved tally after start (added + moved_by_dones Added tally ds) (taken + moved_by_dones Taken tally ds)
books-moved means adds takes all point ds None values after start added taken made fits is =
    let up = moved-none Added ds in
    let down = moved-none Taken ds in
    (is.0, omega (arith, up, is.1), omega (arith, down, is.2))
books-moved means adds takes all point ds (Some t) values after start added taken made fits is =
    after_dones-tally means adds takes all point ds t (moved (pos start) added taken) values after made fits is
    ∙ ap (λ k. Some (int k)) (moved_twice (pos start) added taken (moved_by_dones Added (Some t) ds) (moved_by_dones Taken (Some t) ds))

-- The tally's value is what the books say.
pub tally-booked : (tally : Option ℕ) (values : List Edn) (start added taken : ℕ) → IsMoved tally values start added taken → IsTally tally values (moved (pos start) added taken)
tally-booked None values start added taken is = rw (is.0, is.1, is.2) refl
tally-booked (Some t) values start added taken is = is

-- A ref that is made leaves it, or is it.
last_of : (values : List Edn) (v : Edn) → slice_get (values ++ v ∷ []) (length values) ≡ Some v
last_of [] v = refl
last_of (x ∷ xs) v = last_of xs v

still : (values : List Edn) (v w : Edn) (i : ℕ) → slice_get values i ≡ Some w → slice_get (values ++ v ∷ []) i ≡ Some w
still [] v w i there = absurd cc
still (x ∷ xs) v w zero there = there
still (x ∷ xs) v w (suc i) there = still xs v w i there

pub tally-append : (tally : Option ℕ) (values : List Edn) (v : Edn) (n : ℤ) → IsTally tally values n → IsTally tally (values ++ v ∷ []) n
tally-append None values v n is = is
tally-append (Some t) values v n is = still values v (int n) t is

pub tally-made : (values : List Edn) (v : Edn) → is_count (v ∷ []) ≡ true → IsTally (Some (length values)) (values ++ v ∷ []) (pos (counted (v ∷ [])))
tally-made values v is = last_of values v ∙ ap Some (a_count v is)

pub books-append : (tally : Option ℕ) (values : List Edn) (v : Edn) (start added taken : ℕ) → IsMoved tally values start added taken → IsMoved tally (values ++ v ∷ []) start added taken
books-append None values v start added taken is = is
books-append (Some t) values v start added taken is = still values v (int (moved (pos start) added taken)) t is

pub books-made : (values : List Edn) (v : Edn) → is_count (v ∷ []) ≡ true → IsMoved (Some (length values)) (values ++ v ∷ []) (counted (v ∷ [])) 0 0
books-made values v is = tally-made values v is ∙ ap (λ k. Some (int k)) (moved_nowhere (pos (counted (v ∷ []))))

-- What the tally begins with is found in its value, as long as it wasn't moved.
start-found : (tally : Option ℕ) (values : List Edn) (n : ℕ) → IsMoved tally values n 0 0 → start_of tally values ≡ n
start-found None values n is = sym is.0
start-found (Some t) values n is = ap count_found (is ∙ ap (λ k. Some (int k)) (sym (moved_nowhere (pos n))))

start-itself : (tally : Option ℕ) (values : List Edn) (n : ℕ) → IsMoved tally values n 0 0 → IsMoved tally values (start_of tally values) 0 0
start-itself tally values n is = subst (λ k. IsMoved tally values k 0 0) (sym (start-found tally values n is)) is

pub start-append : (tally : Option ℕ) (values : List Edn) (v : Edn) → IsMoved tally values (start_of tally values) 0 0 → IsMoved tally (values ++ v ∷ []) (start_of tally (values ++ v ∷ [])) 0 0
start-append tally values v is = start-itself tally (values ++ v ∷ []) (start_of tally values) (books-append tally values v (start_of tally values) 0 0 is)

pub start-made : (values : List Edn) (v : Edn) → is_count (v ∷ []) ≡ true → IsMoved (Some (length values)) (values ++ v ∷ []) (start_of (Some (length values)) (values ++ v ∷ [])) 0 0
start-made values v is = start-itself (Some (length values)) (values ++ v ∷ []) (counted (v ∷ [])) (books-made values v is)

-- ---- one entry more

pub moved_of-append : (side : Side) (tally : Option ℕ) (es : List Entry) (e : Entry) → moved_of side tally (es ++ e ∷ []) ≡ moved_of side tally es + moved_in side tally e
moved_of-append side tally [] e = omega arith
moved_of-append side tally (x ∷ es) e =
    let more = moved_of-append side tally es e in
    omega (arith, more)

pub commits_of-append : (es : List Entry) (e : Entry) → commits_of (es ++ e ∷ []) ≡ commits_of es + commits_in e
commits_of-append [] e = omega arith
commits_of-append (x ∷ es) e =
    let more = commits_of-append es e in
    omega (arith, more)

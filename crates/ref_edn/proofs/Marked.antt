-- The reader's loops over the members of sets and maps in the order of reading, each with its mark.
use Rattle.std.proofs.Common.{◌≡◌, ℕ, zero, suc, ◌<◌, ◌≤◌, Bool, true, false, cond, List, [], ◌∷◌, ◌++◌, map, length, Some, None, Result, Ok, Err, refl, sym, ap, ◌∙◌, arith}
use Rattle.std.specs.Prelude.{◌||◌, IsTrue, IsPermutation}
use Rattle.std.specs.List.{AllByRecursion}
use Rattle.std.proofs.lemmas.List.Sorted.{IsPermutation-map}
use Rattle.std.specs.BTreeMap.{insert_entry}
use Rattle.std.specs.BTreeSet.{insert_key}
use Rattle.std.specs.Ordering.{is_eq, match_ordering}
use Rattle.std.specs.declared.cmp.Ordering.{Ordering}
use Rattle.std.specs.declared.cmp.Ordering.TheVariants.{Less, Equal, Greater}
use Rattle.ref_edn.specs.declared.faults.Fault.{Fault}
use Rattle.ref_edn.specs.declared.faults.Flaw.TheVariants.{Duplicate}
use Rattle.ref_edn.specs.declared.faults.ReadError.{ReadError}
use Rattle.ref_value.specs.Edn.{Edn, items_of, entries_of}
use Rattle.ref_value.specs.Order.{edn_cmp, elements_ascend, keys_ascend}
use Rattle.ref_edn.specs.Faults.{Fails}
use Rattle.ref_edn.specs.Marks.{Mark, left_at, elements_of, keys_of, pairs_of, Falls, first_twice}
use Rattle.ref_edn.specs.ReadParts.{set_at, map_at, next_at, value_at}
use Rattle.ref_edn.specs.Sorting.{is_among, is_key_among, inserts, inserts_entries}
use Rattle.ref_value.specs.SortedLists.{weaker}
use Rattle.ref_edn.proofs.Sorting.{sorted_is, sorted_entries_is}
use Rattle.ref_edn.proofs.Loops.{ReadsSet, ReadsMap, set_start, set_fails, set_closed, set_twice, set_more, map_start, map_fails, map_closed, map_twice, map_value_fails, map_more}

-- ---- one more mark

first_stays : (seen : List Edn) (ms ns : List Mark) → 0 < first_twice seen ms → first_twice seen (ms ++ ns) ≡ first_twice seen ms
first_stays seen [] ns h = absurd (omega arith)
first_stays seen (m ∷ ms) ns h = by (is_among m.0 seen) h (λ k. first_stays (insert_key edn_cmp seen m.0) ms ns k)
  where
    by : (b : Bool) → 0 < cond b (left_at m) (first_twice (insert_key edn_cmp seen m.0) ms) → (0 < first_twice (insert_key edn_cmp seen m.0) ms → first_twice (insert_key edn_cmp seen m.0) (ms ++ ns) ≡ first_twice (insert_key edn_cmp seen m.0) ms)
        → cond b (left_at m) (first_twice (insert_key edn_cmp seen m.0) (ms ++ ns)) ≡ cond b (left_at m) (first_twice (insert_key edn_cmp seen m.0) ms)
    by true k more = refl
    by false k more = more k

first_next : (seen : List Edn) (ms : List Mark) (m : Mark) → Falls ms → first_twice seen ms ≡ 0 → first_twice seen (ms ++ m ∷ []) ≡ cond (is_among m.0 (inserts seen (elements_of ms))) (left_at m) 0
first_next seen [] m falls h = refl
first_next seen (n ∷ ns) m falls h = by (is_among n.0 seen) h (λ k. first_next (insert_key edn_cmp seen n.0) ns m falls.2 k)
  where
    by : (b : Bool) → cond b (left_at n) (first_twice (insert_key edn_cmp seen n.0) ns) ≡ 0
        → (first_twice (insert_key edn_cmp seen n.0) ns ≡ 0 → first_twice (insert_key edn_cmp seen n.0) (ns ++ m ∷ []) ≡ cond (is_among m.0 (inserts (insert_key edn_cmp seen n.0) (elements_of ns))) (left_at m) 0)
        → cond b (left_at n) (first_twice (insert_key edn_cmp seen n.0) (ns ++ m ∷ [])) ≡ cond (is_among m.0 (inserts (insert_key edn_cmp seen n.0) (elements_of ns))) (left_at m) 0
    by true k more = let some = falls.0 in absurd (omega (arith, some, k))
    by false k more = more k

all_push : {X : Type 0} (P : X → Type 0) (xs : List X) (x : X) → AllByRecursion P xs → P x → AllByRecursion P (xs ++ x ∷ [])
all_push P [] x h p = (p, tt)
all_push P (y ∷ ys) x h p = (h.0, all_push P ys x h.1 p)

falls_push : (ms : List Mark) (m : Mark) → Falls ms → AllByRecursion (λ n. left_at m < left_at n) ms → 0 < left_at m → Falls (ms ++ m ∷ [])
falls_push [] m falls above some = (some, tt, tt)
falls_push (n ∷ ns) m falls above some = (falls.0, all_push (λ k. left_at k < left_at n) ns m falls.1 above.0, falls_push ns m falls.2 above.1 some)

elements_push : (seen : List Edn) (ms : List Mark) (m : Mark) → inserts seen (elements_of (ms ++ m ∷ [])) ≡ insert_key edn_cmp (inserts seen (elements_of ms)) m.0
elements_push seen [] m = refl
elements_push seen (n ∷ ns) m = elements_push (insert_key edn_cmp seen n.0) ns m

-- Fewer bytes are left behind the marks than at each of them.
pub record Marks (found : List Mark) (rest : List ℕ) : Type 0 where
  pub falls : Falls found
  pub above : AllByRecursion (λ m. length rest < left_at m) found

no_marks : (rest : List ℕ) → Marks [] rest
no_marks rest = record { falls = tt; above = tt }

marks_push : (found : List Mark) (rest behind : List ℕ) (m : Mark) → left_at m ≤ length rest → length behind < left_at m → Marks found rest → Marks (found ++ m ∷ []) behind
marks_push found rest behind m most shorter marks = record {
  falls = falls_push found m marks.falls (weaker (λ n h. omega arith) found marks.above) (omega arith);
  above = all_push (λ n. length behind < left_at n) found m (weaker (λ n h. omega arith) found marks.above) shorter;
}

-- what is told of a first one that is there twice, and else
abbrev pub Twice : {A : Type 0} → List Mark → Result A Fault → Type 0
Twice found total = 0 < first_twice [] found → total ≡ Err (record { kind = Duplicate; left = first_twice [] found })

abbrev mark_of : Edn → List ℕ → Mark
mark_of x start = (x, record { 0 = length start })

twice_push : {A : Type 0} (found : List Mark) (m : Mark) (total : Result A Fault) → Falls found → Twice found total → (first_twice [] found ≡ 0 → is_among m.0 (inserts [] (elements_of found)) ≡ true → total ≡ Err (record { kind = Duplicate; left = left_at m }))
    → Twice (found ++ m ∷ []) total
twice_push found m total falls old new h = by (first_twice [] found) refl
  where
    by : (n : ℕ) → first_twice [] found ≡ n → total ≡ Err (record { kind = Duplicate; left = first_twice [] (found ++ m ∷ []) })
    by zero e = at (is_among m.0 (inserts [] (elements_of found))) refl
      where
        at : (b : Bool) → is_among m.0 (inserts [] (elements_of found)) ≡ b → total ≡ Err (record { kind = Duplicate; left = first_twice [] (found ++ m ∷ []) })
        at true f = let same : first_twice [] (found ++ m ∷ []) ≡ left_at m = first_next [] found m falls e ∙ rw f refl in rw same (new e f)
        at false f = let none : first_twice [] (found ++ m ∷ []) ≡ 0 = first_next [] found m falls e ∙ rw f refl in absurd (omega (arith, h, none))
    by (suc n) e =
        let some : 0 < first_twice [] found = omega (arith, e) in
        rw (first_stays [] found (m ∷ []) some) (old some)

-- Where none is there twice with one more, none was before, and the one is new.
once_before : (found : List Mark) (m : Mark) → Falls found → 0 < left_at m → first_twice [] (found ++ m ∷ []) ≡ 0 → (first_twice [] found ≡ 0) × (is_among m.0 (inserts [] (elements_of found)) ≡ false)
once_before found m falls some h = by (first_twice [] found) refl
  where
    by : (n : ℕ) → first_twice [] found ≡ n → (first_twice [] found ≡ 0) × (is_among m.0 (inserts [] (elements_of found)) ≡ false)
    by zero e = (e, at (is_among m.0 (inserts [] (elements_of found))) (sym (first_next [] found m falls e) ∙ h))
      where
        at : (b : Bool) → cond b (left_at m) 0 ≡ 0 → b ≡ false
        at true f = absurd (omega (arith, some, f))
        at false f = refl
    by (suc n) e =
        let before : 0 < first_twice [] found = omega (arith, e) in
        absurd (omega (arith, first_stays [] found (m ∷ []) before, h, before))

-- ---- keys and entries

key_among : (k : Edn) (es : List (Edn × Edn)) → is_key_among k es ≡ is_among k (map (λ e. e.0) es)
key_among k [] = refl
key_among k (e ∷ es) = ap (λ b. is_eq (edn_cmp k e.0) || b) (key_among k es)

insert_first : (es : List (Edn × Edn)) (k x : Edn) → map (λ e. e.0) (insert_entry edn_cmp es k x) ≡ insert_key edn_cmp (map (λ e. e.0) es) k
insert_first [] k x = refl
insert_first (e ∷ es) k x = by (edn_cmp k e.0) (insert_first es k x)
  where
    by : (r : Ordering) → map (λ e. e.0) (insert_entry edn_cmp es k x) ≡ insert_key edn_cmp (map (λ e. e.0) es) k
        → map (λ e. e.0) (match_ordering r ((k, x) ∷ e ∷ es) ((e.0, x) ∷ es) (e ∷ insert_entry edn_cmp es k x)) ≡ match_ordering r (k ∷ e.0 ∷ map (λ e. e.0) es) (e.0 ∷ map (λ e. e.0) es) (e.0 ∷ insert_key edn_cmp (map (λ e. e.0) es) k)
    by Less h = refl
    by Equal h = refl
    by Greater h = ap (λ l. e.0 ∷ l) h

firsts_of : (seen : List (Edn × Edn)) (es : List (Mark × Edn)) → map (λ e. e.0) (inserts_entries seen (pairs_of es)) ≡ inserts (map (λ e. e.0) seen) (elements_of (keys_of es))
firsts_of seen [] = refl
firsts_of seen (e ∷ es) = firsts_of (insert_entry edn_cmp seen e.0.0 e.1) es ∙ ap (λ l. inserts l (elements_of (keys_of es))) (insert_first seen e.0.0 e.1)

among_keys : (k : Edn) (es : List (Mark × Edn)) → is_key_among k (inserts_entries [] (pairs_of es)) ≡ is_among k (inserts [] (elements_of (keys_of es)))
among_keys k es = key_among k (inserts_entries [] (pairs_of es)) ∙ ap (λ l. is_among k l) (firsts_of [] es)

pairs_push : (seen : List (Edn × Edn)) (es : List (Mark × Edn)) (e : Mark × Edn) → inserts_entries seen (pairs_of (es ++ e ∷ [])) ≡ insert_entry edn_cmp (inserts_entries seen (pairs_of es)) e.0.0 e.1
pairs_push seen [] e = refl
pairs_push seen (f ∷ fs) e = pairs_push (insert_entry edn_cmp seen f.0.0 f.1) fs e

keys_push : (es : List (Mark × Edn)) (e : Mark × Edn) → keys_of (es ++ e ∷ []) ≡ keys_of es ++ e.0 ∷ []
keys_push [] e = refl
keys_push (f ∷ fs) e = ap (λ l. f.0 ∷ l) (keys_push fs e)

module _ (room : ℕ) where
  -- ---- the loop over a set

  pub record MarksSet (found : List Mark) (rest : List ℕ) (total : Result (List Edn × List ℕ) Fault) : Type 0 where
    pub marks : Marks found rest
    pub twice : Twice found total
    pub once : first_twice [] found ≡ 0 → ReadsSet room (inserts [] (elements_of found)) rest total

  pub marks_set_start : (text : List ℕ) → MarksSet [] text (set_at room text)
  marks_set_start text = record { marks = no_marks text; twice = λ h. absurd (omega arith); once = λ h. set_start room text }

  module _ (found : List Mark) (rest start behind : List ℕ) (x : Edn) (total : Result (List Edn × List ℕ) Fault) (at : next_at room 125 rest ≡ Ok (start, Some x, behind)) (most : length start ≤ length rest) (shorter : length behind < length start) where
    pub marks_set_more : MarksSet found rest total → MarksSet (found ++ mark_of x start ∷ []) behind total
    marks_set_more s = record {
      marks = marks_push found rest behind (mark_of x start) most shorter s.marks;
      twice = twice_push found (mark_of x start) total s.marks.falls s.twice (λ none is. set_twice room (inserts [] (elements_of found)) rest start x behind total at is (s.once none));
      once = λ none.
          let before = once_before found (mark_of x start) s.marks.falls (omega arith) none in
          rw (elements_push [] found (mark_of x start)) (set_more room (inserts [] (elements_of found)) rest start x behind total at (omega arith) before.1 (s.once before.0));
    }

  pub set_stopped : (found : List Mark) (rest : List ℕ) (total : Result (List Edn × List ℕ) Fault) (e : ReadError) → Fails e (next_at room 125 rest) → MarksSet found rest total → first_twice [] found ≡ 0 → Fails e total
  set_stopped found rest total e failed s none = set_fails room (inserts [] (elements_of found)) rest total e failed (s.once none)

  pub set_ended : (found : List Mark) (rest start behind : List ℕ) (total : Result (List Edn × List ℕ) Fault) → next_at room 125 rest ≡ Ok (start, None, behind) → MarksSet found rest total → first_twice [] found ≡ 0
      → total ≡ Ok (inserts [] (elements_of found), behind)
  set_ended found rest start behind total at s none = set_closed room (inserts [] (elements_of found)) rest start behind total at (s.once none)

  -- ---- the loop over a map

  pub record MarksMap (found : List (Mark × Edn)) (rest : List ℕ) (total : Result (List (Edn × Edn) × List ℕ) Fault) : Type 0 where
    pub marks : Marks (keys_of found) rest
    pub twice : Twice (keys_of found) total
    pub once : first_twice [] (keys_of found) ≡ 0 → ReadsMap room (inserts_entries [] (pairs_of found)) rest total

  pub marks_map_start : (text : List ℕ) → MarksMap [] text (map_at room text)
  marks_map_start text = record { marks = no_marks text; twice = λ h. absurd (omega arith); once = λ h. map_start room text }

  pub map_stopped : (found : List (Mark × Edn)) (rest : List ℕ) (total : Result (List (Edn × Edn) × List ℕ) Fault) (e : ReadError) → Fails e (next_at room 125 rest) → MarksMap found rest total → first_twice [] (keys_of found) ≡ 0 → Fails e total
  map_stopped found rest total e failed s none = map_fails room (inserts_entries [] (pairs_of found)) rest total e failed (s.once none)

  pub map_ended : (found : List (Mark × Edn)) (rest start behind : List ℕ) (total : Result (List (Edn × Edn) × List ℕ) Fault) → next_at room 125 rest ≡ Ok (start, None, behind) → MarksMap found rest total
      → first_twice [] (keys_of found) ≡ 0 → total ≡ Ok (inserts_entries [] (pairs_of found), behind)
  map_ended found rest start behind total at s none = map_closed room (inserts_entries [] (pairs_of found)) rest start behind total at (s.once none)

  module _ (found : List (Mark × Edn)) (rest start second : List ℕ) (k : Edn) (total : Result (List (Edn × Edn) × List ℕ) Fault) (at : next_at room 125 rest ≡ Ok (start, Some k, second)) (most : length start ≤ length rest) (shorter : length second < length start) where
    map_twice_push : (x : Edn) → MarksMap found rest total → Twice (keys_of (found ++ (mark_of k start, x) ∷ [])) total
    map_twice_push x s = rw (keys_push found (mark_of k start, x))
        (twice_push (keys_of found) (mark_of k start) total s.marks.falls s.twice (λ none is. map_twice room (inserts_entries [] (pairs_of found)) rest start k second total at (among_keys k found ∙ is) (s.once none)))

    map_once_before : (x : Edn) → MarksMap found rest total → first_twice [] (keys_of (found ++ (mark_of k start, x) ∷ [])) ≡ 0 → (first_twice [] (keys_of found) ≡ 0) × (is_key_among k (inserts_entries [] (pairs_of found)) ≡ false)
    map_once_before x s none =
        let before = once_before (keys_of found) (mark_of k start) s.marks.falls (omega arith) (rw (keys_push found (mark_of k start, x)) at none) in
        (before.0, among_keys k found ∙ before.1)

    pub marks_map_more : (x : Edn) (behind : List ℕ) → value_at room second ≡ Ok (x, behind) → length behind < length second → MarksMap found rest total → MarksMap (found ++ (mark_of k start, x) ∷ []) behind total
    marks_map_more x behind value less s = record {
      marks = rw (keys_push found (mark_of k start, x)) (marks_push (keys_of found) rest behind (mark_of k start) most (omega arith) s.marks);
      twice = map_twice_push x s;
      once = λ none.
          let before = map_once_before x s none in
          rw (pairs_push [] found (mark_of k start, x)) (map_more room (inserts_entries [] (pairs_of found)) rest start k second total at x behind before.1 value (omega arith) (s.once before.0));
    }

    -- A key whose value is at fault.
    pub marks_map_last : (x : Edn) (e : ReadError) → Fails e (value_at room second) → MarksMap found rest total
        → Falls (keys_of (found ++ (mark_of k start, x) ∷ [])) × Twice (keys_of (found ++ (mark_of k start, x) ∷ [])) total × (first_twice [] (keys_of (found ++ (mark_of k start, x) ∷ [])) ≡ 0 → Fails e total)
    marks_map_last x e failed s = (
      (let marks : Marks (keys_of (found ++ (mark_of k start, x) ∷ [])) second = rw (keys_push found (mark_of k start, x)) (marks_push (keys_of found) rest second (mark_of k start) most shorter s.marks) in marks.falls),
      map_twice_push x s,
      λ none.
          let before = map_once_before x s none in
          map_value_fails room (inserts_entries [] (pairs_of found)) rest start k second total at e before.1 failed (s.once before.0),
    )

-- ---- in value order

pub set_in_order : (found sorted : List Mark) (rest : List ℕ) (total : Result (List Edn × List ℕ) Fault) → total ≡ Ok (inserts [] (elements_of found), rest) → IsPermutation found sorted
    → IsTrue (elements_ascend (items_of (elements_of sorted))) → total ≡ Ok (elements_of sorted, rest)
set_in_order found sorted rest total e p up =
    let q = sorted_is (elements_of found) (elements_of sorted) (IsPermutation-map (λ (m : Mark). m.0) found sorted p) up in
    e ∙ ap (λ xs. Ok (xs, rest)) q.1

pub map_in_order : (found sorted : List (Mark × Edn)) (rest : List ℕ) (total : Result (List (Edn × Edn) × List ℕ) Fault) → total ≡ Ok (inserts_entries [] (pairs_of found), rest) → IsPermutation found sorted
    → IsTrue (keys_ascend (entries_of (pairs_of sorted))) → total ≡ Ok (pairs_of sorted, rest)
map_in_order found sorted rest total e p up =
    let q = sorted_entries_is (pairs_of found) (pairs_of sorted) (IsPermutation-map (λ (f : Mark × Edn). (f.0.0, f.1)) found sorted p) up in
    e ∙ ap (λ es. Ok (es, rest)) q.1

-- The reader's loops over what stands inside collections: what was found, and what is still to be read.
use Rattle.std.proofs.Common.{◌≡◌, ℕ, zero, suc, ◌<◌, ◌≤◌, true, false, List, [], ◌∷◌, ◌++◌, length, Some, None, Result, Ok, Err, refl, sym, ap, ◌∙◌, arith, append_assoc, append-nil}
use Rattle.std.specs.BTreeMap.{insert_entry}
use Rattle.std.specs.BTreeSet.{insert_key}
use Rattle.ref_edn.specs.declared.faults.Fault.{Fault}
use Rattle.ref_edn.specs.declared.faults.Flaw.TheVariants.{EndsEarly, Duplicate}
use Rattle.ref_edn.specs.declared.faults.ReadError.{ReadError}
use Rattle.ref_value.specs.Edn.{Edn}
use Rattle.ref_value.specs.Order.{edn_cmp}
use Rattle.ref_edn.specs.Faults.{◌>>=◌, Fails, fault}
use Rattle.ref_edn.specs.Sorting.{is_among, is_key_among}
use Rattle.ref_edn.specs.ReadParts.{items_at, set_at, map_at, next_at, value_at}
use Rattle.ref_edn.specs.Reading.{skip, read, items_with, set_with, map_with}
use Rattle.ref_edn.proofs.Turns.{fails_so}
use Rattle.ref_edn.proofs.CollectionTurns.{items_after, set_after, map_after, items_turn, items_last, set_turn, set_last, map_turn, map_last}

-- what was read before, and what is still read
abbrev pub with_front : {A : Type 0} → List A → Result (List A × List ℕ) Fault → Result (List A × List ℕ) Fault
with_front found r = r >>= λ x. Ok (found ++ x.0, x.1)

with_nothing : {A : Type 0} (r : Result (List A × List ℕ) Fault) → with_front [] r ≡ r
with_nothing (Ok x) = refl
with_nothing (Err f) = refl

with_one_more : {A : Type 0} (found : List A) (x : A) (r : Result (List A × List ℕ) Fault) → with_front found (r >>= λ xs. Ok (x ∷ xs.0, xs.1)) ≡ with_front (found ++ x ∷ []) r
with_one_more found x (Ok xs) = ap (λ ys. Ok (ys, xs.1)) (sym (append_assoc found (x ∷ []) xs.0))
with_one_more found x (Err f) = refl

module _ (room : ℕ) where
  -- ---- a vector's elements, and those of a set in the order of reading

  pub record ReadsItems (close : ℕ) (found : List Edn) (rest : List ℕ) (total : Result (List Edn × List ℕ) Fault) : Type 0 where
    pub turns : ℕ
    pub enough : length rest ≤ turns
    pub same : with_front found (items_with (skip room) (read room) close turns rest) ≡ total

  pub items_start : (close : ℕ) (text : List ℕ) → ReadsItems close [] text (items_at room close text)
  unfolding items_at
  items_start close text = record { turns = length text; enough = omega arith; same = with_nothing (items_with (skip room) (read room) close (length text) text) }

  items_some : (close turns : ℕ) (rest : List ℕ) → (more : List ℕ → Result (List Edn × List ℕ) Fault) × (items_with (skip room) (read room) close turns rest ≡ (next_at room close rest >>= λ m. items_after more m.1 m.2))
  items_some close zero rest = (λ at. fault EndsEarly [], items_last room close rest)
  items_some close (suc turns) rest = (items_with (skip room) (read room) close turns, items_turn room close turns rest)

  pub items_fails : (close : ℕ) (found : List Edn) (rest : List ℕ) (total : Result (List Edn × List ℕ) Fault) (e : ReadError) → Fails e (next_at room close rest)
      → ReadsItems close found rest total → Fails e total
  items_fails close found rest total e failed r =
      let p = items_some close r.turns rest in
      fails_so e (next_at room close rest) total
      (λ f at. let fault : items_with (skip room) (read room) close r.turns rest ≡ Err f = p.1 ∙ rw at refl in sym r.same ∙ ap (with_front found) fault)
      failed

  pub items_closed : (close : ℕ) (found : List Edn) (rest start behind : List ℕ) (total : Result (List Edn × List ℕ) Fault) → next_at room close rest ≡ Ok (start, None, behind)
      → ReadsItems close found rest total → total ≡ Ok (found, behind)
  items_closed close found rest start behind total at r =
      let p = items_some close r.turns rest in
      let e : items_with (skip room) (read room) close r.turns rest ≡ Ok ([], behind) = p.1 ∙ rw at refl in
      sym r.same ∙ ap (with_front found) e ∙ rw append-nil refl

  pub items_more : (close : ℕ) (found : List Edn) (rest start : List ℕ) (x : Edn) (behind : List ℕ) (total : Result (List Edn × List ℕ) Fault) → next_at room close rest ≡ Ok (start, Some x, behind) → length behind < length rest
      → ReadsItems close found rest total → ReadsItems close (found ++ x ∷ []) behind total
  items_more close found rest start x behind total at shorter r = by r.turns r.enough r.same
    where
      by : (turns : ℕ) → length rest ≤ turns → with_front found (items_with (skip room) (read room) close turns rest) ≡ total → ReadsItems close (found ++ x ∷ []) behind total
      by zero enough same = absurd (omega arith)
      by (suc turns) enough same =
          let e : items_with (skip room) (read room) close (suc turns) rest ≡ (items_with (skip room) (read room) close turns behind >>= λ xs. Ok (x ∷ xs.0, xs.1)) = items_turn room close turns rest ∙ rw at refl in
          record {
            turns = turns;
            enough = omega arith;
            same = sym (ap (with_front found) e ∙ with_one_more found x (items_with (skip room) (read room) close turns behind)) ∙ same;
          }

  -- ---- a set's elements in value order

  pub record ReadsSet (seen : List Edn) (rest : List ℕ) (total : Result (List Edn × List ℕ) Fault) : Type 0 where
    pub turns : ℕ
    pub enough : length rest ≤ turns
    pub same : set_with (skip room) (read room) turns seen rest ≡ total

  pub set_start : (text : List ℕ) → ReadsSet [] text (set_at room text)
  unfolding set_at
  set_start text = record { turns = length text; enough = omega arith; same = refl }

  set_some : (turns : ℕ) (seen : List Edn) (rest : List ℕ)
      → (more : List Edn → List ℕ → Result (List Edn × List ℕ) Fault) × (set_with (skip room) (read room) turns seen rest ≡ (next_at room 125 rest >>= λ m. set_after more seen m.0 m.1 m.2))
  set_some zero seen rest = (λ s at. fault EndsEarly [], set_last room seen rest)
  set_some (suc turns) seen rest = (set_with (skip room) (read room) turns, set_turn room turns seen rest)

  pub set_fails : (seen : List Edn) (rest : List ℕ) (total : Result (List Edn × List ℕ) Fault) (e : ReadError) → Fails e (next_at room 125 rest) → ReadsSet seen rest total → Fails e total
  set_fails seen rest total e failed r =
      let p = set_some r.turns seen rest in
      fails_so e (next_at room 125 rest) total (λ f at. sym r.same ∙ p.1 ∙ rw at refl) failed

  pub set_closed : (seen : List Edn) (rest start behind : List ℕ) (total : Result (List Edn × List ℕ) Fault) → next_at room 125 rest ≡ Ok (start, None, behind) → ReadsSet seen rest total → total ≡ Ok (seen, behind)
  set_closed seen rest start behind total at r =
      let p = set_some r.turns seen rest in
      sym r.same ∙ p.1 ∙ rw at refl

  pub set_twice : (seen : List Edn) (rest start : List ℕ) (x : Edn) (behind : List ℕ) (total : Result (List Edn × List ℕ) Fault) → next_at room 125 rest ≡ Ok (start, Some x, behind) → is_among x seen ≡ true
      → ReadsSet seen rest total → total ≡ fault Duplicate start
  set_twice seen rest start x behind total at is r =
      let p = set_some r.turns seen rest in
      sym r.same ∙ p.1 ∙ rw (at, is) refl

  pub set_more : (seen : List Edn) (rest start : List ℕ) (x : Edn) (behind : List ℕ) (total : Result (List Edn × List ℕ) Fault) → next_at room 125 rest ≡ Ok (start, Some x, behind) → length behind < length rest
      → is_among x seen ≡ false → ReadsSet seen rest total → ReadsSet (insert_key edn_cmp seen x) behind total
  set_more seen rest start x behind total at shorter new r = by r.turns r.enough r.same
    where
      by : (turns : ℕ) → length rest ≤ turns → set_with (skip room) (read room) turns seen rest ≡ total → ReadsSet (insert_key edn_cmp seen x) behind total
      by zero enough same = absurd (omega arith)
      by (suc turns) enough same = record { turns = turns; enough = omega arith; same = sym (set_turn room turns seen rest ∙ rw (at, new) refl) ∙ same }

  -- ---- a map's entries in value order

  pub record ReadsMap (seen : List (Edn × Edn)) (rest : List ℕ) (total : Result (List (Edn × Edn) × List ℕ) Fault) : Type 0 where
    pub turns : ℕ
    pub enough : length rest ≤ turns
    pub same : map_with (skip room) (read room) turns seen rest ≡ total

  pub map_start : (text : List ℕ) → ReadsMap [] text (map_at room text)
  unfolding map_at
  map_start text = record { turns = length text; enough = omega arith; same = refl }

  map_some : (turns : ℕ) (seen : List (Edn × Edn)) (rest : List ℕ)
      → (more : List (Edn × Edn) → List ℕ → Result (List (Edn × Edn) × List ℕ) Fault) × (map_with (skip room) (read room) turns seen rest ≡ (next_at room 125 rest >>= λ m. map_after room more seen m.0 m.1 m.2))
  map_some zero seen rest = (λ s at. fault EndsEarly [], map_last room seen rest)
  map_some (suc turns) seen rest = (map_with (skip room) (read room) turns, map_turn room turns seen rest)

  pub map_fails : (seen : List (Edn × Edn)) (rest : List ℕ) (total : Result (List (Edn × Edn) × List ℕ) Fault) (e : ReadError) → Fails e (next_at room 125 rest)
      → ReadsMap seen rest total → Fails e total
  map_fails seen rest total e failed r =
      let p = map_some r.turns seen rest in
      fails_so e (next_at room 125 rest) total (λ f at. sym r.same ∙ p.1 ∙ rw at refl) failed

  pub map_closed : (seen : List (Edn × Edn)) (rest start behind : List ℕ) (total : Result (List (Edn × Edn) × List ℕ) Fault) → next_at room 125 rest ≡ Ok (start, None, behind) → ReadsMap seen rest total → total ≡ Ok (seen, behind)
  map_closed seen rest start behind total at r =
      let p = map_some r.turns seen rest in
      sym r.same ∙ p.1 ∙ rw at refl

  module _ (seen : List (Edn × Edn)) (rest start : List ℕ) (k : Edn) (second : List ℕ) (total : Result (List (Edn × Edn) × List ℕ) Fault) (at : next_at room 125 rest ≡ Ok (start, Some k, second)) where
    pub map_twice : is_key_among k seen ≡ true → ReadsMap seen rest total → total ≡ fault Duplicate start
    map_twice is r =
        let p = map_some r.turns seen rest in
        sym r.same ∙ p.1 ∙ rw (at, is) refl

    pub map_value_fails : (e : ReadError) → is_key_among k seen ≡ false → Fails e (value_at room second) → ReadsMap seen rest total → Fails e total
    map_value_fails e new failed r =
        let p = map_some r.turns seen rest in
        fails_so e (value_at room second) total (λ f value. sym r.same ∙ p.1 ∙ rw (at, new, value) refl) failed

    pub map_more : (x : Edn) (behind : List ℕ) → is_key_among k seen ≡ false → value_at room second ≡ Ok (x, behind) → length behind < length rest → ReadsMap seen rest total → ReadsMap (insert_entry edn_cmp seen k x) behind total
    map_more x behind new value shorter r = by r.turns r.enough r.same
      where
        by : (turns : ℕ) → length rest ≤ turns → map_with (skip room) (read room) turns seen rest ≡ total → ReadsMap (insert_entry edn_cmp seen k x) behind total
        by zero enough same = absurd (omega arith)
        by (suc turns) enough same = record { turns = turns; enough = omega arith; same = sym (map_turn room turns seen rest ∙ rw (at, new, value) refl) ∙ same }

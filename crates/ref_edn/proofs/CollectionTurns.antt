-- The turns of the reader's loops over what stands inside collections.
use Rattle.std.proofs.Common.{◌≡◌, ℕ, zero, suc, Bool, true, false, cond, List, [], ◌∷◌, Option, Some, None, Result, Ok, Err, refl, ap}
use Rattle.std.specs.Prelude.{◌==◌}
use Rattle.std.specs.BTreeMap.{insert_entry}
use Rattle.std.specs.BTreeSet.{insert_key}
use Rattle.ref_edn.specs.declared.faults.Fault.{Fault}
use Rattle.ref_edn.specs.declared.faults.Flaw.TheVariants.{EndsEarly, Duplicate}
use Rattle.ref_value.specs.Edn.{Edn}
use Rattle.ref_value.specs.Order.{edn_cmp}
use Rattle.ref_edn.specs.Faults.{◌>>=◌, fault}
use Rattle.ref_edn.specs.Sorting.{is_among, is_key_among}
use Rattle.ref_edn.specs.ReadParts.{next_step, next_at, value_at, pairs_step, pairs_with}
use Rattle.ref_edn.specs.Reading.{skip, read, items_step, items_with, set_step, set_with, map_step, map_with, value_step}

-- ---- one turn of each loop, by what stands next

abbrev pub items_after : (List ℕ → Result (List Edn × List ℕ) Fault) → Option Edn → List ℕ → Result (List Edn × List ℕ) Fault
items_after more None text = Ok ([], text)
items_after more (Some x) text = more text >>= λ xs. Ok (x ∷ xs.0, xs.1)

abbrev pub set_after : (List Edn → List ℕ → Result (List Edn × List ℕ) Fault) → List Edn → List ℕ → Option Edn → List ℕ → Result (List Edn × List ℕ) Fault
set_after more seen start None text = Ok (seen, text)
set_after more seen start (Some x) text = cond (is_among x seen) (fault Duplicate start) (more (insert_key edn_cmp seen x) text)

abbrev pub map_after : ℕ → (List (Edn × Edn) → List ℕ → Result (List (Edn × Edn) × List ℕ) Fault) → List (Edn × Edn) → List ℕ → Option Edn → List ℕ → Result (List (Edn × Edn) × List ℕ) Fault
map_after room more seen start None text = Ok (seen, text)
map_after room more seen start (Some k) text = cond (is_key_among k seen) (fault Duplicate start) (value_at room text >>= λ x. more (insert_entry edn_cmp seen k x.0) x.1)

-- where what stands next begins, the element if there is one, and what is behind
abbrev pub Next : Type 0
Next = List ℕ × Option Edn × List ℕ

regroups : {A B C : Type 0} (r : Result A Fault) (f : A → Result B Fault) (g : B → Result C Fault) → (r >>= λ x. f x >>= g) ≡ ((r >>= f) >>= g)
regroups (Ok x) f g = refl
regroups (Err d) f g = refl

module _ (room : ℕ) where
  items_next : (more : List ℕ → Result (List Edn × List ℕ) Fault) (close : ℕ) (start : Result (List ℕ) Fault)
      → (start >>= λ at. items_step (skip room) (read room) more close at) ≡ ((start >>= λ at. next_step room close at) >>= λ m. items_after more m.1 m.2)
  unfolding items_step next_step
  items_next more close (Err f) = refl
  items_next more close (Ok []) = refl
  items_next more close (Ok (b ∷ text)) = by (b == close) (read room (b ∷ text))
    where
      by : (is : Bool) (r : Result (Edn × List ℕ) Fault)
          → cond is (Ok ([], text)) (r >>= λ x. more x.1 >>= λ xs. Ok (x.0 ∷ xs.0, xs.1)) ≡ ◌>>=◌ {A = Next} (cond is (Ok (b ∷ text, None, text)) (r >>= λ x. Ok (b ∷ text, Some x.0, x.1))) (λ m. items_after more m.1 m.2)
      by true r = refl
      by false (Ok x) = refl
      by false (Err f) = refl

  set_next : (more : List Edn → List ℕ → Result (List Edn × List ℕ) Fault) (seen : List Edn) (start : Result (List ℕ) Fault)
      → (start >>= λ at. set_step (skip room) (read room) more seen at) ≡ ((start >>= λ at. next_step room 125 at) >>= λ m. set_after more seen m.0 m.1 m.2)
  unfolding set_step next_step
  set_next more seen (Err f) = refl
  set_next more seen (Ok []) = refl
  set_next more seen (Ok (b ∷ text)) = by (b == 125) (read room (b ∷ text))
    where
      by : (is : Bool) (r : Result (Edn × List ℕ) Fault)
          → cond is (Ok (seen, text)) (r >>= λ x. cond (is_among x.0 seen) (fault Duplicate (b ∷ text)) (more (insert_key edn_cmp seen x.0) x.1))
          ≡ ◌>>=◌ {A = Next} (cond is (Ok (b ∷ text, None, text)) (r >>= λ x. Ok (b ∷ text, Some x.0, x.1))) (λ m. set_after more seen m.0 m.1 m.2)
      by true r = refl
      by false (Ok x) = refl
      by false (Err f) = refl

  map_next : (more : List (Edn × Edn) → List ℕ → Result (List (Edn × Edn) × List ℕ) Fault) (seen : List (Edn × Edn)) (start : Result (List ℕ) Fault)
      → (start >>= λ at. map_step (skip room) (read room) more seen at) ≡ ((start >>= λ at. next_step room 125 at) >>= λ m. map_after room more seen m.0 m.1 m.2)
  unfolding map_step next_step value_at
  map_next more seen (Err f) = refl
  map_next more seen (Ok []) = refl
  map_next more seen (Ok (b ∷ text)) = by (b == 125) (read room (b ∷ text))
    where
      by : (is : Bool) (r : Result (Edn × List ℕ) Fault)
          → cond is (Ok (seen, text)) (r >>= λ k. cond (is_key_among k.0 seen) (fault Duplicate (b ∷ text)) (skip room k.1 >>= λ second. value_step (skip room) (read room) second >>= λ x. more (insert_entry edn_cmp seen k.0 x.0) x.1))
          ≡ ◌>>=◌ {A = Next} (cond is (Ok (b ∷ text, None, text)) (r >>= λ x. Ok (b ∷ text, Some x.0, x.1))) (λ m. map_after room more seen m.0 m.1 m.2)
      by true r = refl
      by false (Ok k) =
          ap (cond (is_key_among k.0 seen) (fault Duplicate (b ∷ text))) (regroups (skip room k.1) (λ second. value_step (skip room) (read room) second) (λ x. more (insert_entry edn_cmp seen k.0 x.0) x.1))
      by false (Err f) = refl

  pub items_turn : (close turns : ℕ) (text : List ℕ) → items_with (skip room) (read room) close (suc turns) text ≡ (next_at room close text >>= λ m. items_after (items_with (skip room) (read room) close turns) m.1 m.2)
  unfolding items_with next_at
  items_turn close turns text = items_next (items_with (skip room) (read room) close turns) close (skip room text)

  pub items_last : (close : ℕ) (text : List ℕ) → items_with (skip room) (read room) close zero text ≡ (next_at room close text >>= λ m. items_after (λ at. fault EndsEarly []) m.1 m.2)
  unfolding items_with next_at
  items_last close text = items_next (λ at. fault EndsEarly []) close (skip room text)

  pub set_turn : (turns : ℕ) (seen : List Edn) (text : List ℕ) → set_with (skip room) (read room) (suc turns) seen text ≡ (next_at room 125 text >>= λ m. set_after (set_with (skip room) (read room) turns) seen m.0 m.1 m.2)
  unfolding set_with next_at
  set_turn turns seen text = set_next (set_with (skip room) (read room) turns) seen (skip room text)

  pub set_last : (seen : List Edn) (text : List ℕ) → set_with (skip room) (read room) zero seen text ≡ (next_at room 125 text >>= λ m. set_after (λ s at. fault EndsEarly []) seen m.0 m.1 m.2)
  unfolding set_with next_at
  set_last seen text = set_next (λ s at. fault EndsEarly []) seen (skip room text)

  pub map_turn : (turns : ℕ) (seen : List (Edn × Edn)) (text : List ℕ)
      → map_with (skip room) (read room) (suc turns) seen text ≡ (next_at room 125 text >>= λ m. map_after room (map_with (skip room) (read room) turns) seen m.0 m.1 m.2)
  unfolding map_with next_at
  map_turn turns seen text = map_next (map_with (skip room) (read room) turns) seen (skip room text)

  pub map_last : (seen : List (Edn × Edn)) (text : List ℕ) → map_with (skip room) (read room) zero seen text ≡ (next_at room 125 text >>= λ m. map_after room (λ s at. fault EndsEarly []) seen m.0 m.1 m.2)
  unfolding map_with next_at
  map_last seen text = map_next (λ s at. fault EndsEarly []) seen (skip room text)

  pub pairs_turn : (turns : ℕ) (text : List ℕ) → pairs_with room (suc turns) text ≡ (next_at room 125 text >>= λ m. pairs_step room (pairs_with room turns) m.1 m.2)
  unfolding pairs_with
  pairs_turn turns text = refl

  pub pairs_last : (text : List ℕ) → pairs_with room zero text ≡ (next_at room 125 text >>= λ m. pairs_step room (λ at. fault EndsEarly []) m.1 m.2)
  unfolding pairs_with
  pairs_last text = refl

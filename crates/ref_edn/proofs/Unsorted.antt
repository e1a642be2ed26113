-- Elements and pairs read in the order of the text, and those that are read in value order.
use Rattle.std.proofs.Common.{◌≡◌, ℕ, zero, suc, List, [], ◌∷◌, Some, None, Result, Ok, Err, refl, sym, ap, subst, ◌∙◌, inl, inr}
use Rattle.std.specs.BTreeMap.{insert_entry}
use Rattle.std.specs.BTreeSet.{insert_key}
use Rattle.ref_edn.specs.declared.faults.Fault.{Fault}
use Rattle.ref_edn.specs.declared.faults.Flaw.TheVariants.{EndsEarly, Duplicate}
use Rattle.ref_value.specs.Edn.{Edn}
use Rattle.ref_value.specs.Order.{edn_cmp}
use Rattle.ref_edn.specs.Faults.{◌>>=◌, fault}
use Rattle.ref_edn.specs.Sorting.{is_among, is_key_among, inserts, NoneTwice, inserts_entries, NoKeyTwice}
use Rattle.ref_edn.specs.ReadParts.{next_at, value_at, pairs_step, pairs_with}
use Rattle.ref_edn.specs.Reading.{skip, read, items_with, set_with, map_with}
use Rattle.ref_edn.proofs.Outcomes.{chosen, ok_is, fault_isnt_ok, bind_ok}
use Rattle.ref_edn.proofs.CollectionTurns.{Next, items_after, set_after, map_after, items_turn, items_last, set_turn, set_last, map_turn, map_last, pairs_turn, pairs_last}

abbrev ReadsList : Type 0 → Type 0
ReadsList A = List ℕ → Result (List A × List ℕ) Fault

abbrev ReadsOn : Type 0 → Type 0
ReadsOn A = List A → List ℕ → Result (List A × List ℕ) Fault

-- ---- sets

-- Where no element is there twice, the one gives the elements of the other in value order.
abbrev SortsAfter : ReadsList Edn → ReadsOn Edn → Type 0
SortsAfter plain ordered = (seen : List Edn) (text : List ℕ) (x : List Edn × List ℕ) → plain text ≡ Ok x → NoneTwice seen x.0 → ordered seen text ≡ Ok (inserts seen x.0, x.1)

set_step_of : (plain : ReadsList Edn) (ordered : ReadsOn Edn) → SortsAfter plain ordered → (next : Result Next Fault) (seen : List Edn) (x : List Edn × List ℕ) → (next >>= λ m. items_after plain m.1 m.2) ≡ Ok x → NoneTwice seen x.0
    → (next >>= λ m. set_after ordered seen m.0 m.1 m.2) ≡ Ok (inserts seen x.0, x.1)
set_step_of plain ordered how (Err f) seen x e new = absurd cc
set_step_of plain ordered how (Ok (start, None, behind)) seen x e new = ap (λ (y : List Edn × List ℕ). Ok (inserts seen y.0, y.1)) (ok_is {E = Fault} ([], behind) x e)
set_step_of plain ordered how (Ok (start, Some y, behind)) seen x e new =
    let p = bind_ok (plain behind) (λ ys. Ok (y ∷ ys.0, ys.1)) x e in
    let is = ok_is {E = Fault} (y ∷ p.0.0, p.0.1) x p.2 in
    let first : NoneTwice seen (y ∷ p.0.0) = subst (λ (z : List Edn × List ℕ). NoneTwice seen z.0) (sym is) new in
    let rest : ordered (insert_key edn_cmp seen y) behind ≡ Ok (inserts (insert_key edn_cmp seen y) p.0.0, p.0.1) = how (insert_key edn_cmp seen y) behind p.0 p.1 first.1 in
    rw first.0 (rest ∙ ap (λ (z : List Edn × List ℕ). Ok (inserts seen z.0, z.1)) is)

pub set_of_items : (room turns : ℕ) → SortsAfter (items_with (skip room) (read room) 125 turns) (set_with (skip room) (read room) turns)
set_of_items room zero seen text x e new =
    set_last room seen text ∙ set_step_of (λ at. fault EndsEarly []) (λ s at. fault EndsEarly []) (λ s at y h n. fault_isnt_ok EndsEarly [] y h) (next_at room 125 text) seen x (sym (items_last room 125 text) ∙ e) new
set_of_items room (suc turns) seen text x e new =
    set_turn room turns seen text
    ∙ set_step_of (items_with (skip room) (read room) 125 turns) (set_with (skip room) (read room) turns) (set_of_items room turns) (next_at room 125 text) seen x (sym (items_turn room 125 turns text) ∙ e) new

-- Elements that are read in value order are read in the order of the text too, and none is there twice.
abbrev pub ReadBefore : ReadsList Edn → List Edn → List ℕ → List Edn × List ℕ → Type 0
ReadBefore plain seen text y = (xs : List Edn) × (plain text ≡ Ok (xs, y.1)) × NoneTwice seen xs × (inserts seen xs ≡ y.0)

abbrev UnsortsAfter : ReadsList Edn → ReadsOn Edn → Type 0
UnsortsAfter plain ordered = (seen : List Edn) (text : List ℕ) (y : List Edn × List ℕ) → ordered seen text ≡ Ok y → ReadBefore plain seen text y

items_step_of : (plain : ReadsList Edn) (ordered : ReadsOn Edn) → UnsortsAfter plain ordered → (next : Result Next Fault) (seen : List Edn) (y : List Edn × List ℕ) → (next >>= λ m. set_after ordered seen m.0 m.1 m.2) ≡ Ok y
    → (xs : List Edn) × ((next >>= λ m. items_after plain m.1 m.2) ≡ Ok (xs, y.1)) × NoneTwice seen xs × (inserts seen xs ≡ y.0)
items_step_of plain ordered how (Err f) seen y e = absurd cc
items_step_of plain ordered how (Ok (start, None, behind)) seen y e =
    let is = ok_is {E = Fault} (seen, behind) y e in
    ([], ap (λ (z : List Edn × List ℕ). Ok ([], z.1)) is, tt, ap (λ (z : List Edn × List ℕ). z.0) is)
items_step_of plain ordered how (Ok (start, Some x, behind)) seen y e =
    elim (chosen (is_among x seen) (fault Duplicate start) (ordered (insert_key edn_cmp seen x) behind) (Ok y) e) [
      | inl p ↦ fault_isnt_ok Duplicate start y p.1
      | inr p ↦
          let q = how (insert_key edn_cmp seen x) behind y p.1 in
          (x ∷ q.0, rw q.1 refl, (p.0, q.2), q.3)
    ]

pub items_of_set : (room turns : ℕ) → UnsortsAfter (items_with (skip room) (read room) 125 turns) (set_with (skip room) (read room) turns)
items_of_set room zero seen text y e =
    let p = items_step_of (λ at. fault EndsEarly []) (λ s at. fault EndsEarly []) (λ s at z h. fault_isnt_ok EndsEarly [] z h) (next_at room 125 text) seen y (sym (set_last room seen text) ∙ e) in
    (p.0, items_last room 125 text ∙ p.1, p.2, p.3)
items_of_set room (suc turns) seen text y e =
    let p = items_step_of (items_with (skip room) (read room) 125 turns) (set_with (skip room) (read room) turns) (items_of_set room turns) (next_at room 125 text) seen y (sym (set_turn room turns seen text) ∙ e) in
    (p.0, items_turn room 125 turns text ∙ p.1, p.2, p.3)

-- ---- maps

abbrev SortsPairsAfter : ℕ → ReadsList (Edn × Edn) → ReadsOn (Edn × Edn) → Type 0
SortsPairsAfter room plain ordered =
    (seen : List (Edn × Edn)) (text : List ℕ) (x : List (Edn × Edn) × List ℕ) → plain text ≡ Ok x → NoKeyTwice seen x.0 → ordered seen text ≡ Ok (inserts_entries seen x.0, x.1)

map_step_of : (room : ℕ) (plain : ReadsList (Edn × Edn)) (ordered : ReadsOn (Edn × Edn)) → SortsPairsAfter room plain ordered → (next : Result Next Fault) (seen : List (Edn × Edn)) (x : List (Edn × Edn) × List ℕ)
    → (next >>= λ m. pairs_step room plain m.1 m.2) ≡ Ok x → NoKeyTwice seen x.0 → (next >>= λ m. map_after room ordered seen m.0 m.1 m.2) ≡ Ok (inserts_entries seen x.0, x.1)
unfolding pairs_step
map_step_of room plain ordered how (Err f) seen x e new = absurd cc
map_step_of room plain ordered how (Ok (start, None, behind)) seen x e new = ap (λ (y : List (Edn × Edn) × List ℕ). Ok (inserts_entries seen y.0, y.1)) (ok_is {E = Fault} ([], behind) x e)
map_step_of room plain ordered how (Ok (start, Some k, behind)) seen x e new =
    let v = bind_ok (value_at room behind) (λ v. plain v.1 >>= λ es. Ok ((k, v.0) ∷ es.0, es.1)) x e in
    let p = bind_ok (plain v.0.1) (λ es. Ok ((k, v.0.0) ∷ es.0, es.1)) x v.2 in
    let is = ok_is {E = Fault} ((k, v.0.0) ∷ p.0.0, p.0.1) x p.2 in
    let first : NoKeyTwice seen ((k, v.0.0) ∷ p.0.0) = subst (λ (z : List (Edn × Edn) × List ℕ). NoKeyTwice seen z.0) (sym is) new in
    let rest : ordered (insert_entry edn_cmp seen k v.0.0) v.0.1 ≡ Ok (inserts_entries (insert_entry edn_cmp seen k v.0.0) p.0.0, p.0.1) = how (insert_entry edn_cmp seen k v.0.0) v.0.1 p.0 p.1 first.1 in
    rw (first.0, v.1) (rest ∙ ap (λ (z : List (Edn × Edn) × List ℕ). Ok (inserts_entries seen z.0, z.1)) is)

pub map_of_pairs : (room turns : ℕ) → SortsPairsAfter room (pairs_with room turns) (map_with (skip room) (read room) turns)
map_of_pairs room zero seen text x e new =
    map_last room seen text
    ∙ map_step_of room (λ at. fault EndsEarly []) (λ s at. fault EndsEarly []) (λ s at y h n. fault_isnt_ok EndsEarly [] y h) (next_at room 125 text) seen x (sym (pairs_last room text) ∙ e) new
map_of_pairs room (suc turns) seen text x e new =
    map_turn room turns seen text ∙ map_step_of room (pairs_with room turns) (map_with (skip room) (read room) turns) (map_of_pairs room turns) (next_at room 125 text) seen x (sym (pairs_turn room turns text) ∙ e) new

abbrev pub ReadPairsBefore : ReadsList (Edn × Edn) → List (Edn × Edn) → List ℕ → List (Edn × Edn) × List ℕ → Type 0
ReadPairsBefore plain seen text y = (es : List (Edn × Edn)) × (plain text ≡ Ok (es, y.1)) × NoKeyTwice seen es × (inserts_entries seen es ≡ y.0)

abbrev UnsortsPairsAfter : ReadsList (Edn × Edn) → ReadsOn (Edn × Edn) → Type 0
UnsortsPairsAfter plain ordered = (seen : List (Edn × Edn)) (text : List ℕ) (y : List (Edn × Edn) × List ℕ) → ordered seen text ≡ Ok y → ReadPairsBefore plain seen text y

pair_first : (room : ℕ) (plain : ReadsList (Edn × Edn)) (k : Edn) (behind : List ℕ) (v : Edn × List ℕ) (es : List (Edn × Edn)) (rest : List ℕ) → value_at room behind ≡ Ok v → plain v.1 ≡ Ok (es, rest)
    → pairs_step room plain (Some k) behind ≡ Ok ((k, v.0) ∷ es, rest)
unfolding pairs_step
pair_first room plain k behind v es rest d e = rw (d, e) refl

pairs_step_of : (room : ℕ) (plain : ReadsList (Edn × Edn)) (ordered : ReadsOn (Edn × Edn)) → UnsortsPairsAfter plain ordered → (next : Result Next Fault) (seen : List (Edn × Edn)) (y : List (Edn × Edn) × List ℕ)
    → (next >>= λ m. map_after room ordered seen m.0 m.1 m.2) ≡ Ok y → (es : List (Edn × Edn)) × ((next >>= λ m. pairs_step room plain m.1 m.2) ≡ Ok (es, y.1)) × NoKeyTwice seen es × (inserts_entries seen es ≡ y.0)
unfolding pairs_step
pairs_step_of room plain ordered how (Err f) seen y e = absurd cc
pairs_step_of room plain ordered how (Ok (start, None, behind)) seen y e =
    let is = ok_is {E = Fault} (seen, behind) y e in
    ([], ap (λ (z : List (Edn × Edn) × List ℕ). Ok ([], z.1)) is, tt, ap (λ (z : List (Edn × Edn) × List ℕ). z.0) is)
pairs_step_of room plain ordered how (Ok (start, Some k, behind)) seen y e =
    elim (chosen (is_key_among k seen) (fault Duplicate start) (value_at room behind >>= λ x. ordered (insert_entry edn_cmp seen k x.0) x.1) (Ok y) e) [
      | inl p ↦ fault_isnt_ok Duplicate start y p.1
      | inr p ↦
          let v = bind_ok (value_at room behind) (λ x. ordered (insert_entry edn_cmp seen k x.0) x.1) y p.1 in
          let q = how (insert_entry edn_cmp seen k v.0.0) v.0.1 y v.2 in
          ((k, v.0.0) ∷ q.0, pair_first room plain k behind v.0 q.0 y.1 v.1 q.1, (p.0, q.2), q.3)
    ]

pub pairs_of_map : (room turns : ℕ) → UnsortsPairsAfter (pairs_with room turns) (map_with (skip room) (read room) turns)
pairs_of_map room zero seen text y e =
    let p = pairs_step_of room (λ at. fault EndsEarly []) (λ s at. fault EndsEarly []) (λ s at z h. fault_isnt_ok EndsEarly [] z h) (next_at room 125 text) seen y (sym (map_last room seen text) ∙ e) in
    (p.0, pairs_last room text ∙ p.1, p.2, p.3)
pairs_of_map room (suc turns) seen text y e =
    let p = pairs_step_of room (pairs_with room turns) (map_with (skip room) (read room) turns) (pairs_of_map room turns) (next_at room 125 text) seen y (sym (map_turn room turns seen text) ∙ e) in
    (p.0, pairs_turn room turns text ∙ p.1, p.2, p.3)

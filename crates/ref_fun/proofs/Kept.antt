-- What the functions of collections give where the collection is known as a list.
use Rattle.std.proofs.Common.{◌≡◌, ◌≤◌, ◌-◌, List, [], ◌∷◌, ◌++◌, fold, length, get_or, take, drop, Ok, arith}
use Rattle.std.proofs.lemmas.List.{take_rest}
use Rattle.ref_value.specs.Edn.{Edn, vector, map, set, items_of, entries_of, list_of-items_of, pairs_of-entries_of}
use Rattle.ref_value.specs.Collections.{elements_without, entries_with, entries_without}
use Rattle.ref_fun.specs.Collections.{shallow, conj, with_elements, with_pairs_in, with_pairs, dissoc, disj}

pub conj_vector : (args xs : List Edn) → conj args (vector (items_of xs)) ≡ shallow (vector (items_of (xs ++ args)))
conj_vector args xs = rw (list_of-items_of xs)

pub conj_set : (args xs : List Edn) → conj args (set (items_of xs)) ≡ shallow (set (items_of (with_elements xs args)))
conj_set args xs = rw (list_of-items_of xs)

pub assoc_map : (args : List Edn) (es : List (Edn × Edn)) → with_pairs_in args (map (entries_of es)) ≡ shallow (map (entries_of (with_pairs es args)))
assoc_map args es = rw (pairs_of-entries_of es)

pub dissoc_map : (args : List Edn) (es : List (Edn × Edn)) → dissoc args (map (entries_of es)) ≡ Ok (map (entries_of (fold entries_without es args)))
dissoc_map args es = rw (pairs_of-entries_of es)

pub disj_set : (args xs : List Edn) → disj args (set (items_of xs)) ≡ Ok (set (items_of (fold elements_without xs args)))
disj_set args xs = rw (list_of-items_of xs)

-- the pair at the front of what is left
pub with_pairs_front : (es : List (Edn × Edn)) (rest : List Edn) (k x : Edn) → 2 ≤ length rest → k ≡ get_or rest 0 k → x ≡ get_or rest 1 x → with_pairs (entries_with es k x) (take (length rest - 2) (drop 2 rest)) ≡ with_pairs es rest
with_pairs_front es [] k x two key value = absurd (omega arith)
with_pairs_front es (a ∷ []) k x two key value = absurd (omega arith)
with_pairs_front es (a ∷ b ∷ more) k x two key value =
    let front : k ≡ a = key in
    let second : x ≡ b = value in
    rw (take_rest (a ∷ b ∷ more) 2, front, second)

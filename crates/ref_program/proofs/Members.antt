-- What is in a collection, by its list of members.
use Rattle.std.specs.Prelude.{◌≡◌, List, length}
use Rattle.std.proofs.Common.{ap}
use Rattle.ref_program.specs.Values.{counted, got}
use Rattle.ref_value.specs.Collections.{value_at}
use Rattle.ref_value.specs.Edn.{Edn, vector, map, set, items_of, entries_of, list_of-items_of, pairs_of-entries_of}

pub got_map : (es : List (Edn × Edn)) (key : Edn) → got (map (entries_of es)) key ≡ value_at es key
got_map es key = ap (λ fs. value_at fs key) (pairs_of-entries_of es)

pub counted_vector : (xs : List Edn) → counted (vector (items_of xs)) ≡ length xs
counted_vector xs = ap (λ ys. length ys) (list_of-items_of xs)

pub counted_map : (es : List (Edn × Edn)) → counted (map (entries_of es)) ≡ length es
counted_map es = ap (λ fs. length fs) (pairs_of-entries_of es)

pub counted_set : (xs : List Edn) → counted (set (items_of xs)) ≡ length xs
counted_set xs = ap (λ ys. length ys) (list_of-items_of xs)

-- The collections that are read are lawful.
use Rattle.std.proofs.Common.{◌≡◌, ℕ, ◌<◌, ◌≤◌, List, [], length, Ok, subst, arith}
use Rattle.ref_value.specs.Edn.{Edn, vector, map, set, items_of, entries_of, items_depth, entries_depth}
use Rattle.ref_value.specs.Lawful.{AreLawful, AreLawfulEntries, IsLawful}
use Rattle.ref_edn.specs.Grammar.{SortsElements, SortsEntries}
use Rattle.ref_edn.specs.ReadParts.{items_at, set_at, map_at}
use Rattle.ref_edn.proofs.Sorting.{sorts_of, entries_sorts_of}
use Rattle.ref_edn.proofs.Unsorted.{items_of_set, pairs_of_map}
use Rattle.ref_edn.proofs.Extents.{elements_fit, pairs_fit, sorted_flatter, sorted_entries_flatter}
use Rattle.ref_edn.proofs.Sound.{skip_takes, read_takes, items_take, pairs_take}

pub vector_lawful : (room close : ℕ) (text : List ℕ) (xs : List Edn) (rest : List ℕ) → room < 64 → items_at room close text ≡ Ok (xs, rest) → AreLawful (items_of xs) → IsLawful (vector (items_of xs))
unfolding items_at
vector_lawful room close text xs rest below e parts =
    let fit : items_depth (items_of xs) ≤ room = elements_fit (items_take room (skip_takes room) (read_takes room) (length text) close text (xs, rest) e) in
    record { parts = parts; shallow = omega arith }

pub set_lawful : (room : ℕ) (text : List ℕ) (ys : List Edn) (rest : List ℕ) → room < 64 → set_at room text ≡ Ok (ys, rest) → AreLawful (items_of ys) → IsLawful (set (items_of ys))
unfolding set_at
set_lawful room text ys rest below e parts =
    let xs = items_of_set room (length text) [] text (ys, rest) e in
    let sorts : SortsElements (items_of xs.0) (items_of ys) = subst (λ (zs : List Edn). SortsElements (items_of xs.0) (items_of zs)) xs.3 (sorts_of xs.0 xs.2) in
    let plain : items_depth (items_of xs.0) ≤ room = elements_fit (items_take room (skip_takes room) (read_takes room) (length text) 125 text (xs.0, rest) xs.1) in
    let fit : items_depth (items_of ys) ≤ room = sorted_flatter room (items_of xs.0) (items_of ys) sorts plain in
    record { parts = (parts, sorts.ascend); shallow = omega arith }

pub map_lawful : (room : ℕ) (text : List ℕ) (fs : List (Edn × Edn)) (rest : List ℕ) → room < 64 → map_at room text ≡ Ok (fs, rest) → AreLawfulEntries (entries_of fs) → IsLawful (map (entries_of fs))
unfolding map_at
map_lawful room text fs rest below e parts =
    let es = pairs_of_map room (length text) [] text (fs, rest) e in
    let sorts : SortsEntries (entries_of es.0) (entries_of fs) = subst (λ (gs : List (Edn × Edn)). SortsEntries (entries_of es.0) (entries_of gs)) es.3 (entries_sorts_of es.0 es.2) in
    let plain : entries_depth (entries_of es.0) ≤ room = pairs_fit (pairs_take room (skip_takes room) (read_takes room) (length text) text (es.0, rest) es.1) in
    let fit : entries_depth (entries_of fs) ≤ room = sorted_entries_flatter room (entries_of es.0) (entries_of fs) sorts plain in
    record { parts = (parts, sorts.ascend); shallow = omega arith }

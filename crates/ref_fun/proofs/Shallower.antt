-- A collection without a member is nested no deeper.
use Rattle.std.proofs.Common.{◌≤◌, List, [], ◌∷◌, true, false, cond, fold, arith}
use Rattle.std.specs.BTreeMap.{is_at}
use Rattle.ref_value.specs.Edn.{Edn, items_of, items_depth, entries_of, entries_depth}
use Rattle.ref_value.specs.Order.{edn_cmp}
use Rattle.ref_value.specs.Collections.{elements_without, entries_without}

pub items_depth_without : (xs : List Edn) (x : Edn) → items_depth (items_of (elements_without xs x)) ≤ items_depth (items_of xs)
items_depth_without [] x = omega arith
items_depth_without (y ∷ ys) x =
    let shorter = items_depth_without ys x in
    elim (is_at (edn_cmp x) y) as (λ b. items_depth (items_of (cond b ys (y ∷ elements_without ys x))) ≤ items_depth (items_of (y ∷ ys))) [
      | true ↦ omega arith
      | false ↦ omega arith
    ]

pub entries_depth_without : (es : List (Edn × Edn)) (k : Edn) → entries_depth (entries_of (entries_without es k)) ≤ entries_depth (entries_of es)
entries_depth_without [] k = omega arith
entries_depth_without (e ∷ es) k =
    let shorter = entries_depth_without es k in
    elim (is_at (edn_cmp k) e.0) as (λ b. entries_depth (entries_of (cond b es (e ∷ entries_without es k))) ≤ entries_depth (entries_of (e ∷ es))) [
      | true ↦ omega arith
      | false ↦ omega arith
    ]

pub items_depth_fold : (xs args : List Edn) → items_depth (items_of (fold elements_without xs args)) ≤ items_depth (items_of xs)
items_depth_fold xs [] = omega arith
items_depth_fold xs (x ∷ args) = omega (arith, items_depth_fold (elements_without xs x) args, items_depth_without xs x)

pub entries_depth_fold : (es : List (Edn × Edn)) (args : List Edn) → entries_depth (entries_of (fold entries_without es args)) ≤ entries_depth (entries_of es)
entries_depth_fold es [] = omega arith
entries_depth_fold es (k ∷ args) = omega (arith, entries_depth_fold (entries_without es k) args, entries_depth_without es k)

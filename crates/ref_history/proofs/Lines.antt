-- Lines from a place on.
use Rattle.std.proofs.Common.{◌≡◌, ◌∙◌, ℕ, ◌+◌, ◌<◌, List, ◌++◌, suc, ap, sym, drop, get_or, length, drop-cons, add-one}
use Rattle.ref_value.specs.Edn.{Edn}
use Rattle.ref_history.specs.Values.{value_line, value_lines}

pub value_line_at : (kind : List ℕ) (names : List (List ℕ)) (vs : List Edn) (i : ℕ) (v : Edn) → i < length vs → v ≡ get_or vs i v
    → value_lines kind names i (drop i vs) ≡ value_line kind names i v ++ value_lines kind names (i + 1) (drop (i + 1) vs)
value_line_at kind names vs i v h is =
    ap (value_lines kind names i) (drop-cons vs i v h)
    ∙ ap (λ (x : Edn). value_line kind names i x ++ value_lines kind names (i + 1) (drop (suc i) vs)) (sym is)
    ∙ ap (λ (k : ℕ). value_line kind names i v ++ value_lines kind names (i + 1) (drop k vs)) (sym (add-one i))

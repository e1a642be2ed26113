-- Printed values from a place on.
use Rattle.std.proofs.Common.{◌≡◌, ◌∙◌, ℕ, ◌+◌, ◌<◌, List, ◌++◌, sym, ap, drop, get_or, length, suc, drop-cons, add-one}
use Rattle.ref_value.specs.Edn.{Edn}
use Rattle.ref_edn.specs.Printed.{printed}
use Rattle.refrun.specs.Printing.{newline, printed_lines}

pub printed_line_at : (vs : List Edn) (i : ℕ) (v : Edn) → i < length vs → v ≡ get_or vs i v
    → printed_lines (drop i vs) ≡ (printed v ++ newline) ++ printed_lines (drop (i + 1) vs)
printed_line_at vs i v h is =
    ap printed_lines (drop-cons vs i v h)
    ∙ ap (λ (x : Edn). printed x ++ newline ++ printed_lines (drop (suc i) vs)) (sym is)
    ∙ ap (λ (k : ℕ). printed v ++ newline ++ printed_lines (drop k vs)) (sym (add-one i))

-- How the logic stores what is seen of a tree.
use Rattle.std.specs.Prelude.{ℕ, Bool, List, refl}
use Rattle.std.specs.Coded.{Coded, code_by, coded×, coded_list, coded_ℕ, coded_bool}
use Rattle.ref_value.specs.Edn.{Edn}
use Rattle.ref_value.specs.Code.{edn_code}

abbrev pub tree_code : Coded (List (Edn × Edn) × ℕ × Bool)
tree_code =
    code_by (List (Edn × Edn) × (ℕ × Bool)) (coded× (coded_list (coded× edn_code edn_code)) (coded× coded_ℕ coded_bool)) (λ t. (t.0, (t.1, t.2))) (λ p. (p.0, p.1.0, p.1.1)) (λ _. refl)

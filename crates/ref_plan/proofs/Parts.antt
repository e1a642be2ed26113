-- Vectors of vectors.
use Rattle.std.proofs.Common.{◌≡◌, ◌&&◌, Bool, true, false, nat_le, List, [], ◌∷◌, Option, None, Some, length, refl, ◌∙◌, ap}
use Rattle.std.specs.Prelude.{is_some, option_and_then}
use Rattle.std.specs.List.{list_all}
use Rattle.ref_value.specs.Edn.{Edn}
use Rattle.ref_forms.specs.Plain.{elements_of, only_if}
use Rattle.ref_plan.specs.Limits.{most_steps}
use Rattle.ref_plan.specs.Workload.{is_short_vector, is_vector}

limited : (o : Option (List Edn)) → is_some (option_and_then (λ xs. only_if (nat_le (length xs) most_steps) xs) o) ≡ true → is_some o ≡ true
limited None e = e
limited (Some xs) e = refl

both : (a b : Bool) → (a && b) ≡ true → (a ≡ true) × (b ≡ true)
both true b e = (refl, e)
both false b e = cc

pub are_vectors : (xs : List Edn) → list_all is_short_vector xs ≡ true → list_all is_vector xs ≡ true
are_vectors [] e = refl
are_vectors (x ∷ xs) e =
    let t = both (is_short_vector x) (list_all is_short_vector xs) e in
    ap (λ b. b && list_all is_vector xs) (limited (elements_of x) t.0) ∙ are_vectors xs t.1

-- The least of the numbers that the members of a list have, taken from the front.
use Rattle.std.proofs.Common.{◌≡◌, ℕ, ◌+◌, List, [], ◌∷◌, Option, None, Some, refl, sym, ap, ◌∙◌, arith, drop}
use Rattle.ref_audit.specs.Dumped.{least, lesser}

pub lesser_none : (n : Option ℕ) → lesser n None ≡ n
lesser_none None = refl
lesser_none (Some n) = refl

pub lesser_assoc : (a b c : Option ℕ) → lesser (lesser a b) c ≡ lesser a (lesser b c)
lesser_assoc None b c = refl
lesser_assoc (Some a) None c = refl
lesser_assoc (Some a) (Some b) None = refl
lesser_assoc (Some a) (Some b) (Some c) = ap Some (omega arith)

-- One more is looked at, of those from a place on.
pub least_more : {X : Type 0} (number : X → Option ℕ) (xs : List X) (i : ℕ) (x : X) (found all : Option ℕ)
    → drop i xs ≡ x ∷ drop (i + 1) xs → lesser found (least number (drop i xs)) ≡ all
    → lesser (lesser found (number x)) (least number (drop (i + 1) xs)) ≡ all
least_more number xs i x found all left so_far =
    lesser_assoc found (number x) (least number (drop (i + 1) xs))
    ∙ (ap (λ l. lesser found (least number l)) (sym left) ∙ so_far)

pub least_all : {X : Type 0} (number : X → Option ℕ) (rest : List X) (found all : Option ℕ) → rest ≡ [] → lesser found (least number rest) ≡ all → found ≡ all
least_all number rest found all none so_far =
    sym (lesser_none found) ∙ (ap (λ l. lesser found (least number l)) (sym none) ∙ so_far)

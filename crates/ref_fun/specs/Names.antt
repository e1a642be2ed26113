-- The codes of the functions and predicates of Core, and their names as they stand in texts.
use Rattle.std.specs.Prelude.{ℕ, ◌==◌, nat_le, Bool, ◌&&◌, if◌then◌else◌, List, [], ◌∷◌, Option, None, Some, codes}
use Rattle.ref_value.specs.Names.{bytes_eq}

-- each code with its name
unfoldable pub core_names : List (ℕ × List ℕ)
core_names =
    (1, codes "+") ∷ (2, codes "-") ∷ (3, codes "inc") ∷ (4, codes "dec") ∷ (5, codes "max") ∷ (6, codes "min")
    ∷ (7, codes "conj") ∷ (8, codes "assoc") ∷ (9, codes "dissoc") ∷ (10, codes "disj")
    ∷ (101, codes ">=") ∷ (102, codes "<=") ∷ (103, codes "=") ∷ (104, codes "int?") ∷ (105, codes "string?")
    ∷ (106, codes "vector?") ∷ (107, codes "map?") ∷ (108, codes "set?") ∷ (109, codes "some?") ∷ []

-- the code of a name, and the name of a code
abbrev pub code_in : List (ℕ × List ℕ) → List ℕ → Option ℕ
code_in [] name = None
code_in (e ∷ es) name = if bytes_eq e.1 name then Some e.0 else code_in es name

abbrev pub name_in : List (ℕ × List ℕ) → ℕ → Option (List ℕ)
name_in [] code = None
name_in (e ∷ es) code = if e.0 == code then Some e.1 else name_in es code

-- which codes are functions, and which are predicates
abbrev pub is_function : ℕ → Bool
is_function code = nat_le 1 code && nat_le code 10

abbrev pub is_predicate : ℕ → Bool
is_predicate code = nat_le 101 code && nat_le code 109

-- The functions of vectors, maps and sets.
use Rattle.std.specs.Prelude.{◌==◌, nat_lt, Bool, true, false, ◌||◌, if◌then◌else◌, List, [], ◌∷◌, ◌++◌, length, fold, Result, Ok, Err}
use Rattle.ref_value.specs.Edn.{Edn, nil, vector, map, set, items_of, list_of, entries_of, pairs_of, nesting}
use Rattle.ref_value.specs.Collections.{elements_with, elements_without, entries_with, entries_without}
use Rattle.ref_fun.specs.declared.faults.Cause.{Cause}
use Rattle.ref_fun.specs.declared.faults.Cause.TheVariants.{WrongKind, WrongArity, Overflow, TooDeep}
use Rattle.ref_fun.specs.Limits.{most_nested_result}

-- a value, where at most 48 collections are open at its deepest place
abbrev pub shallow : Edn → Result Edn Cause
shallow v = if nat_lt most_nested_result (nesting v) then Err TooDeep else Ok v

-- Whether a call is refused for the number or the kinds of what it is called on, which is known before it takes memory.
abbrev pub is_early : Result Edn Cause → Bool
is_early (Ok v) = false
is_early (Err WrongKind) = true
is_early (Err WrongArity) = true
is_early (Err Overflow) = false
is_early (Err TooDeep) = false

-- ---- conj

abbrev pub with_elements : List Edn → List Edn → List Edn
with_elements xs args = fold elements_with xs args

-- `conj`: the arguments at the end of a vector, in order; or put into a set
abbrev pub conj : List Edn → Edn → Result Edn Cause
conj args (vector xs) = shallow (vector (items_of (list_of xs ++ args)))
conj args (set xs) = shallow (set (items_of (with_elements (list_of xs) args)))
conj args x = Err WrongKind

-- ---- assoc

-- The arguments are pairs of a key and its value: 2, 4, 6 or 8 arguments.
abbrev pub are_pairs : List Edn → Bool
are_pairs args = length args == 2 || length args == 4 || length args == 6 || length args == 8

-- the entries with these pairs put in from left to right, so that the last one of a key stands
abbrev pub with_pairs : List (Edn × Edn) → List Edn → List (Edn × Edn)
with_pairs es [] = es
with_pairs es (k ∷ []) = es
with_pairs es (k ∷ x ∷ args) = with_pairs (entries_with es k x) args

abbrev pub with_pairs_in : List Edn → Edn → Result Edn Cause
with_pairs_in args nil = shallow (map (entries_of (with_pairs [] args)))
with_pairs_in args (map es) = shallow (map (entries_of (with_pairs (pairs_of es) args)))
with_pairs_in args x = Err WrongKind

-- `assoc`: pairs put into a map, or into nil as the empty map
abbrev pub assoc : List Edn → Edn → Result Edn Cause
assoc args state = if are_pairs args then with_pairs_in args state else Err WrongArity

-- ---- dissoc and disj

-- `dissoc`: a map without these keys
abbrev pub dissoc : List Edn → Edn → Result Edn Cause
dissoc args (map es) = Ok (map (entries_of (fold entries_without (pairs_of es) args)))
dissoc args x = Err WrongKind

-- `disj`: a set without these elements
abbrev pub disj : List Edn → Edn → Result Edn Cause
disj args (set xs) = Ok (set (items_of (fold elements_without (list_of xs) args)))
disj args x = Err WrongKind

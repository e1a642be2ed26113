-- Laws of what forms say, for a proof: of a vector, of a map, of a rule in a vector, of words of different lengths, and of arguments by
-- how many they are.
use Rattle.std.specs.Prelude.{◌≡◌, ◌≢◌, ◌<◌, ◌≤◌, ◌&&◌, ◌==◌, ℕ, suc, Bool, true, false, nat_le, List, [], ◌∷◌, ◌++◌, length, Option, None, Some, option_map, refl}
use Rattle.std.specs.List.{list_all}
use Rattle.std.proofs.Common.{ap, arith, ◌∙◌, sym, append_assoc}
use Rattle.std.proofs.lemmas.Bool.Decides.{nat_tests}
use Rattle.ref_value.specs.Edn.{Edn, vector, map, items_of, entries_of, list_of-items_of, pairs_of-entries_of}
use Rattle.ref_value.specs.Names.{bytes_eq}
use Rattle.ref_forms.specs.Calls.{any, args_said, rule_of, rule_said}
use Rattle.ref_forms.specs.Plain.{all_said, and_said, elements_of, map_said, only_if}
use Rattle.ref_forms.specs.declared.wrong.Wrong.{Wrong}
use Rattle.ref_forms.specs.declared.wrong.Wrong.TheVariants.{Memory}
use Rattle.ref_fun.specs.Limits.{most_arguments}

pub elements_of_vector : (xs : List Edn) → elements_of (vector (items_of xs)) ≡ Some xs
elements_of_vector xs = ap Some (list_of-items_of xs)

pub map_said_of : (es : List (Edn × Edn)) → map_said (map (entries_of es)) ≡ Some es
map_said_of es = ap Some (pairs_of-entries_of es)

pub rule_of_vector : (is_value : Edn → Bool) (xs : List Edn) → rule_of is_value (vector (items_of xs)) ≡ option_map Some (rule_said is_value xs)
rule_of_vector is_value xs = ap (λ ys. option_map Some (rule_said is_value ys)) (list_of-items_of xs)

only_false : (b : Bool) (xs : List Edn) → b ≡ false → only_if b xs ≡ None
only_false true xs e = absurd cc
only_false false xs e = refl

only_true : (b : Bool) (xs : List Edn) → b ≡ true → only_if b xs ≡ Some xs
only_true false xs e = absurd cc
only_true true xs e = refl

and_false : (a b : Bool) → a ≡ false → (a && b) ≡ false
and_false false b e = refl
and_false true b e = absurd cc

false_behind : (a b : Bool) → b ≡ false → (a && b) ≡ false
false_behind false b e = refl
false_behind true b e = e

and_true : (a b : Bool) → a ≡ true → b ≡ true → (a && b) ≡ true
and_true a b p q = ap (λ x. x && b) p ∙ q

pub of_another_length : (xs ys : List ℕ) → length xs ≢ length ys → bytes_eq xs ys ≡ false
of_another_length [] [] n = absurd (n refl)
of_another_length [] (y ∷ ys) n = refl
of_another_length (x ∷ xs) [] n = refl
of_another_length (x ∷ xs) (y ∷ ys) n = false_behind (x == y) (bytes_eq xs ys) (of_another_length xs ys (λ e. n (ap (λ k. suc k) e)))

pub args_said_many : (is_value : Edn → Bool) (xs : List Edn) → 8 < length xs → args_said is_value xs ≡ None
args_said_many is_value xs many =
    let b : nat_le (length xs) 8 ≡ false = grind (arith, nat_tests) in
    only_false _ xs (and_false (nat_le (length xs) 8) (list_all is_value xs) b)

pub args_said_wrong : (is_value : Edn → Bool) (xs : List Edn) → list_all is_value xs ≡ false → args_said is_value xs ≡ None
args_said_wrong is_value xs wrong = only_false _ xs (false_behind (nat_le (length xs) 8) (list_all is_value xs) wrong)

pub args_said_right : (is_value : Edn → Bool) (xs : List Edn) → length xs ≤ most_arguments → list_all is_value xs ≡ true → args_said is_value xs ≡ Some xs
args_said_right is_value xs few right =
    let b : nat_le (length xs) 8 ≡ true = grind (arith, nat_tests) in
    only_true _ xs (and_true (nat_le (length xs) 8) (list_all is_value xs) b right)

all_any : (xs : List Edn) → list_all any xs ≡ true
all_any [] = refl
all_any (x ∷ xs) = all_any xs

pub args_said_few : (xs : List Edn) → length xs ≤ most_arguments → args_said any xs ≡ Some xs
args_said_few xs few = args_said_right any xs few (all_any xs)

-- ---- forms that are read one after another

-- these, and behind them what is left, if that says something
abbrev pub in_front : {A : Type 0} → List A → Option (List A) → Option (List A)
in_front ys rest = option_map (λ zs. ys ++ zs) rest

pub in_front_and_said : {A : Type 0} (ys : List A) (y : A) (rest : Option (List A)) → in_front ys (and_said (Some y) rest) ≡ in_front (ys ++ y ∷ []) rest
in_front_and_said ys y None = refl
in_front_and_said ys y (Some zs) = ap Some (sym (append_assoc ys (y ∷ []) zs))

-- ---- forms of which all are read, also behind one that is wrong

module _ {A : Type 0} (said : Edn → Option A) (all : List Edn) where
  -- What was read, with what is left, is what all forms say; or one of them was wrong, and they say nothing.
  abbrev pub Known : List Edn → List A → Option Wrong → Type 0
  Known rest ys None = in_front ys (all_said said rest) ≡ all_said said all
  Known rest ys (Some wrong) = wrong ≢ Memory → all_said said all ≡ None

  module _ (x : Edn) (rest : List Edn) (ys : List A) where
    pub known_more : (y : A) (worst : Option Wrong) → Known (x ∷ rest) ys worst → said x ≡ Some y → Known rest (ys ++ y ∷ []) worst
    known_more y None k says = sym (ap (λ o. in_front ys (and_said o (all_said said rest))) says ∙ in_front_and_said ys y (all_said said rest)) ∙ k
    known_more y (Some wrong) k says = k

    pub known_wrong : (wrong worse : Wrong) (worst : Option Wrong) → Known (x ∷ rest) ys worst → (wrong ≢ Memory → said x ≡ None)
        → (worse ≢ Memory → wrong ≢ Memory) → (worse ≢ Memory → worst ≢ Some Memory) → Known rest ys (Some worse)
    known_wrong wrong worse None k says one other no_memory = sym k ∙ ap (λ o. in_front ys (and_said o (all_said said rest))) (says (one no_memory))
    known_wrong wrong worse (Some before) k says one other no_memory = k (λ is. other no_memory (ap Some is))

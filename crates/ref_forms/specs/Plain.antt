-- What plain forms say: numbers, keywords, vectors. What a form doesn't say, or says in another way, is None.
use Rattle.std.specs.Prelude.{ℕ, pos, ◌^◌, nat_le, nat_lt, if◌then◌else◌, Bool, true, false, List, [], ◌∷◌, length, Option, None, Some, is_some, option_map, option_and_then}
use Rattle.std.specs.List.{list_all, list_any}
use Rattle.ref_value.specs.Edn.{Edn, int, keyword, keyword_of, vector, map, list_of, pairs_of}
use Rattle.ref_value.specs.Names.{bytes_eq}

-- what two things say together
abbrev pub both : {A B C : Type 0} → (A → B → C) → Option A → Option B → Option C
both join (Some a) (Some b) = Some (join a b)
both join (Some a) None = None
both join None b = None

abbrev pub only_if : {A : Type 0} → Bool → A → Option A
only_if true x = Some x
only_if false x = None

-- ---- one form

-- an integer of 0 or more
abbrev pub number_of : Edn → Option ℕ
number_of (int (pos n)) = Some n
number_of x = None

-- the number of a worker, an actor or a step
abbrev pub stamp_number : Edn → Option ℕ
stamp_number x = option_and_then (λ n. only_if (nat_lt n (2 ^ 32)) n) (number_of x)

abbrev pub elements_of : Edn → Option (List Edn)
elements_of (vector xs) = Some (list_of xs)
elements_of x = None

-- of at most so many elements
abbrev pub elements_within : ℕ → Edn → Option (List Edn)
elements_within most x = option_and_then (λ xs. only_if (nat_le (length xs) most) xs) (elements_of x)

abbrev pub is_word : List ℕ → Edn → Bool
is_word word (keyword name) = bytes_eq name word
is_word word x = false

-- ---- forms one after another

-- What each of these forms says, where all say something.
abbrev pub and_said : {A : Type 0} → Option A → Option (List A) → Option (List A)
and_said (Some y) (Some ys) = Some (y ∷ ys)
and_said (Some y) None = None
and_said None ys = None

abbrev pub all_said : {A : Type 0} → (Edn → Option A) → List Edn → Option (List A)
all_said said [] = Some []
all_said said (x ∷ xs) = and_said (said x) (all_said said xs)

-- The elements of a vector, each in this form.
abbrev pub list_said : {A : Type 0} → (Edn → Option A) → Edn → Option (List A)
list_said said x = option_and_then (all_said said) (elements_of x)

-- nothing
abbrev pub alone_said : {A : Type 0} → A → List Edn → Option A
alone_said a [] = Some a
alone_said a (x ∷ xs) = None

-- one form
abbrev pub one_said : {A : Type 0} → (Edn → Option A) → List Edn → Option A
one_said said (x ∷ []) = said x
one_said said xs = None

-- two forms
abbrev pub two_said : {A B : Type 0} → (Edn → Option A) → (Edn → Option B) → List Edn → Option (A × B)
two_said said other (x ∷ y ∷ []) = both (λ a b. (a, b)) (said x) (other y)
two_said said other xs = None

-- one form and those behind it
abbrev pub then_said : {A B : Type 0} → (Edn → Option A) → (List Edn → Option B) → List Edn → Option (A × B)
then_said said rest [] = None
then_said said rest (x ∷ xs) = both (λ a b. (a, b)) (said x) (rest xs)

-- whether a mark stands there that may be left out
abbrev pub mark_said : List ℕ → List Edn → Option Bool
mark_said word [] = Some false
mark_said word (x ∷ []) = only_if (is_word word x) true
mark_said word xs = None

-- ---- the keyword that a vector begins with, and what follows it

abbrev pub tag_said : List Edn → Option (List ℕ × List Edn)
tag_said [] = None
tag_said (x ∷ xs) = option_map (λ tag. (tag, xs)) (keyword_of x)

abbrev pub tagged_of : Edn → Option (List ℕ × List Edn)
tagged_of x = option_and_then tag_said (elements_of x)

-- ---- maps with keywords as keys

-- the elements that were found, none where there are none
abbrev pub elements : Option (List Edn) → List Edn
elements None = []
elements (Some xs) = xs

-- what stands under a keyword
abbrev pub under : List (Edn × Edn) → List ℕ → Option Edn
under [] word = None
under (e ∷ es) word = if is_word word e.0 then Some e.1 else under es word

-- Each key is one of these words.
unfoldable pub are_known : List (List ℕ) → List (Edn × Edn) → Bool
are_known words es = list_all (λ e. list_any (λ word. is_word word e.0) words) es

-- the entries of a map
abbrev pub map_said : Edn → Option (List (Edn × Edn))
map_said (map es) = Some (pairs_of es)
map_said x = None

-- Parts that are vectors may be left out: what stands under the keyword is a vector, or nothing does, and these are the elements.
abbrev pub is_vector_or_none : Option Edn → Bool
is_vector_or_none None = true
is_vector_or_none (Some x) = is_some (elements_of x)

abbrev pub elements_or_none : Option Edn → List Edn
elements_or_none None = []
elements_or_none (Some x) = elements (elements_of x)

abbrev pub forms_under : List (Edn × Edn) → List ℕ → List Edn
forms_under es word = elements_or_none (under es word)

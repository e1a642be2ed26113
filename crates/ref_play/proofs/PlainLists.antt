-- Tests of lists as facts of their elements.
use Rattle.std.proofs.Common.{◌≡◌, ℕ, zero, suc, cond, ◌+◌, ◌<◌, ◌≤◌, not, Bool, true, false, ◌⊎◌, inl, inr, List, [], ◌∷◌, Option, None, Some, refl, sym, ap, subst, ◌∙◌, arith}
use Rattle.std.specs.List.{AllByRecursion, find, list_all, list_any, range_with_len}
use Rattle.std.proofs.lemmas.Bool.{and_from, and_parts, false_from_ne_true, or_cases, or_left, or_right}
use Rattle.ref_play.specs.Plain.{AnyByRecursion, FirstWithout}

pub all_map : {X : Type 0} (P Q : X → Type 0) → ((x : X) → P x → Q x) → (xs : List X) → AllByRecursion P xs → AllByRecursion Q xs
all_map P Q on [] all = tt
all_map P Q on (x ∷ xs) all = (on x all.0, all_map P Q on xs all.1)

-- ---- each passes

found_parts : {X : Type 0} (b : Bool) (x : X) (later : Option X) → cond (not b) (Some x) later ≡ None → (b ≡ true) × (later ≡ None)
found_parts true x later none = (refl, none)
found_parts false x later none = absurd cc

pub found_none : {X : Type 0} (p : X → Bool) (xs : List X) → find (λ x. not (p x)) xs ≡ None → AllByRecursion (λ x. p x ≡ true) xs
found_none p [] none = tt
found_none p (x ∷ xs) none =
    let parts = found_parts (p x) x (find (λ y. not (p y)) xs) none in
    (parts.0, found_none p xs parts.1)

pub none_found : {X : Type 0} (p : X → Bool) (xs : List X) → AllByRecursion (λ x. p x ≡ true) xs → find (λ x. not (p x)) xs ≡ None
none_found p [] all = refl
none_found p (x ∷ xs) all = ap (λ b. cond (not b) (Some x) (find (λ y. not (p y)) xs)) all.0 ∙ none_found p xs all.1

pub each_passes : {X : Type 0} (p : X → Bool) (xs : List X) → list_all p xs ≡ true → AllByRecursion (λ x. p x ≡ true) xs
each_passes p [] all = tt
each_passes p (x ∷ xs) all =
    let parts = and_parts (p x) (list_all p xs) all in
    (parts.0, each_passes p xs parts.1)

pub all_pass : {X : Type 0} (p : X → Bool) (xs : List X) → AllByRecursion (λ x. p x ≡ true) xs → list_all p xs ≡ true
all_pass p [] all = refl
all_pass p (x ∷ xs) all = and_from (p x) (list_all p xs) all.0 (all_pass p xs all.1)

-- ---- some passes

pub some_passes : {X : Type 0} (p : X → Bool) (P : X → Type 0) → ((x : X) → p x ≡ true → P x) → (xs : List X) → list_any p xs ≡ true → AnyByRecursion P xs
some_passes p P on [] any = absurd cc
some_passes p P on (x ∷ xs) any = by (or_cases (p x) (list_any p xs) any) (some_passes p P on xs) where
  by : (p x ≡ true) ⊎ (list_any p xs ≡ true) → (list_any p xs ≡ true → AnyByRecursion P xs) → AnyByRecursion P (x ∷ xs)
  by (inl here) later = inl (on x here)
  by (inr there) later = inr (later there)

pub any_pass : {X : Type 0} (p : X → Bool) (P : X → Type 0) → ((x : X) → P x → p x ≡ true) → (xs : List X) → AnyByRecursion P xs → list_any p xs ≡ true
any_pass p P on [] any = absurd any
any_pass p P on (x ∷ xs) (inl here) = or_left (p x) (list_any p xs) (on x here)
any_pass p P on (x ∷ xs) (inr there) = or_right (p x) (list_any p xs) (any_pass p P on xs there)

-- ---- what is so of the number of each element of a kind, and of each number that some element of the kind has

pub each_any : {X : Type 0} (number : X → ℕ) (Q : X → Type 0) (P : ℕ → Type 0) (xs : List X) → AllByRecursion (λ x. Q x → P (number x)) xs → (n : ℕ) → AnyByRecursion (λ x. (number x ≡ n) × Q x) xs → P n
each_any number Q P [] all n any = absurd any
each_any number Q P (x ∷ xs) all n (inl here) = subst P here.0 (all.0 here.1)
each_any number Q P (x ∷ xs) all n (inr there) = each_any number Q P xs all.1 n there

pub any_each : {X : Type 0} (number : X → ℕ) (Q : X → Type 0) (P : ℕ → Type 0) (xs : List X) → ((n : ℕ) → AnyByRecursion (λ x. (number x ≡ n) × Q x) xs → P n) → AllByRecursion (λ x. Q x → P (number x)) xs
any_each number Q P [] all = tt
any_each number Q P (x ∷ xs) all = ((λ q. all (number x) (inl (refl, q))), any_each number Q P xs (λ n any. all n (inr any)))

-- ---- numbers in a row

pub none_range : (p : ℕ → Bool) (n from : ℕ) → ((r : ℕ) → from ≤ r → r < from + n → p r ≡ false) → find p (range_with_len from n) ≡ None
none_range p zero from all = refl
none_range p (suc n) from all =
    ap (λ b. cond b (Some from) (find p (range_with_len (from + 1) n))) (all from (omega arith) (omega arith))
    ∙ none_range p n (from + 1) (λ r after below. all r (omega (arith, after)) (omega (arith, below)))

-- ---- the first element that fails a test

module _ {X : Type 0} (p : X → Bool) (P Q : X → Type 0) (to : (x : X) → p x ≡ true → P x) (from : (x : X) → P x → p x ≡ true) where
  pub first_found : (xs : List X) (x : X) → find (λ y. not (p y)) xs ≡ Some x → Q x → FirstWithout P Q xs
  first_found [] x is q = absurd cc
  first_found (y ∷ ys) x is q = by (p y) refl is (first_found ys x) where
    by : (b : Bool) → p y ≡ b → cond (not b) (Some y) (find (λ z. not (p z)) ys) ≡ Some x → (find (λ z. not (p z)) ys ≡ Some x → Q x → FirstWithout P Q ys) → FirstWithout P Q (y ∷ ys)
    by true passes is later = inr (to y passes, later is q)
    by false fails is later =
        let same : x ≡ y = cc in
        let no : P y → ⊥ = λ so. let passes = from y so in absurd cc in
        inl (no, subst Q same q)

  pub found_first : (xs : List X) → FirstWithout P Q xs → (x : X) × (find (λ y. not (p y)) xs ≡ Some x) × Q x
  found_first [] first = absurd first
  found_first (y ∷ ys) (inl here) = (y, ap (λ b. cond (not b) (Some y) (find (λ z. not (p z)) ys)) (false_from_ne_true (p y) (λ is. here.0 (to y is))), here.1)
  found_first (y ∷ ys) (inr later) =
      let rest = found_first ys later.1 in
      (rest.0, ap (λ b. cond (not b) (Some y) (find (λ z. not (p z)) ys)) (from y later.0) ∙ rest.1, rest.2)

-- some element fails exactly where a first one does
pub any_found : {X : Type 0} (p : X → Bool) (P : X → Type 0) → ((x : X) → p x ≡ false → P x) → (xs : List X) (x : X) → find (λ y. not (p y)) xs ≡ Some x → AnyByRecursion P xs
any_found p P on [] x is = absurd cc
any_found p P on (y ∷ ys) x is = by (p y) refl is (any_found p P on ys x) where
  by : (b : Bool) → p y ≡ b → cond (not b) (Some y) (find (λ z. not (p z)) ys) ≡ Some x → (find (λ z. not (p z)) ys ≡ Some x → AnyByRecursion P ys) → AnyByRecursion P (y ∷ ys)
  by true passes is later = inr (later is)
  by false fails is later = inl (on y fails)

pub found_any : {X : Type 0} (p : X → Bool) (P : X → Type 0) → ((x : X) → P x → p x ≡ false) → (xs : List X) → AnyByRecursion P xs → (x : X) × (find (λ y. not (p y)) xs ≡ Some x)
found_any p P on [] any = absurd any
found_any {X} p P on (y ∷ ys) any = by (p y) refl any (found_any p P on ys) where
  fails : p y ≡ true → p y ≡ false → ⊥
  fails is isnt = let both : true ≡ false = sym is ∙ isnt in cc

  by : (b : Bool) → p y ≡ b → P y ⊎ AnyByRecursion P ys → (AnyByRecursion P ys → (x : X) × (find (λ z. not (p z)) ys ≡ Some x)) → (x : X) × (cond (not b) (Some y) (find (λ z. not (p z)) ys) ≡ Some x)
  by false is any later = (y, refl)
  by true is (inl here) later = absurd (fails is (on y here))
  by true is (inr there) later = later there

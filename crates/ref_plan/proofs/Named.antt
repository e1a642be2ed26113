-- A name names one reference at most.
use Rattle.std.proofs.Common.{◌≡◌, ◌&&◌, ℕ, Bool, true, false, List, [], ◌∷◌, ◌==◌, Option, None, Some, zero, suc, refl, sym, ◌∙◌, ap, if◌then◌else◌, slice_get, option_map, IfSome}
use Rattle.std.proofs.lemmas.Bool.Decides.{nat_tests}
use Rattle.std.proofs.Common.{arith}
use Rattle.ref_value.specs.Names.{bytes_eq}
use Rattle.ref_log.specs.declared.notices.Who.{Who}
use Rattle.ref_log.specs.declared.notices.Who.TheVariants.{Ref, Atom, Agent}
use Rattle.ref_forms.specs.Names.{NamesSeen}
use Rattle.ref_plan.specs.Named.{IsNamed, or_else, place_of, who_named}

both : (a b : Bool) → (a && b) ≡ true → (a ≡ true) × (b ≡ true)
both true b e = (refl, e)
both false b e = cc

same_bytes : (xs ys : List ℕ) → bytes_eq xs ys ≡ true → xs ≡ ys
same_bytes [] [] e = refl
same_bytes [] (y ∷ ys) e = cc
same_bytes (x ∷ xs) [] e = cc
same_bytes (x ∷ xs) (y ∷ ys) e =
    let t = both (x == y) (bytes_eq xs ys) e in
    let head : x ≡ y = grind (arith, nat_tests) in
    λ i. head i ∷ same_bytes xs ys t.1 i

and_true : (a b : Bool) → a ≡ true → b ≡ true → (a && b) ≡ true
and_true a b p q = ap (λ x. x && b) p ∙ q

own_bytes : (xs : List ℕ) → bytes_eq xs xs ≡ true
own_bytes [] = refl
own_bytes (x ∷ xs) =
    let head : (x == x) ≡ true = grind (arith, nat_tests) in
    and_true (x == x) (bytes_eq xs xs) head (own_bytes xs)

-- ---- places

module _ (name x : List ℕ) (xs : List (List ℕ)) where
  there_at : (n : ℕ) (b : Bool) → bytes_eq x name ≡ b → (rest : Option ℕ) → ((k : ℕ) → rest ≡ Some k → slice_get xs k ≡ Some name)
      → (if b then Some 0 else option_map suc rest) ≡ Some n → slice_get (x ∷ xs) n ≡ Some name
  there_at zero true same rest more e = ap Some (same_bytes x name same)
  there_at (suc k) true same rest more e = absurd cc
  there_at n false same None more e = absurd cc
  there_at zero false same (Some k) more e = absurd cc
  there_at (suc m) false same (Some k) more e = let is : Some k ≡ Some m = cc in more m is

  not_at : (n : ℕ) (b : Bool) → bytes_eq x name ≡ b → (rest : Option ℕ) → ((k : ℕ) → slice_get xs k ≡ Some name → rest ≡ None → ⊥)
      → slice_get (x ∷ xs) n ≡ Some name → (if b then Some 0 else option_map suc rest) ≡ None → ⊥
  not_at n true same rest more is e = cc
  not_at zero false same rest more is e =
      let here : x ≡ name = cc in
      let test : bytes_eq x name ≡ true = ap (bytes_eq x) (sym here) ∙ own_bytes x in
      cc
  not_at (suc k) false same None more is e = more k is refl
  not_at (suc k) false same (Some m) more is e = cc

place_there : (name : List ℕ) (xs : List (List ℕ)) (n : ℕ) → place_of name xs ≡ Some n → slice_get xs n ≡ Some name
place_there name [] n e = absurd cc
place_there name (x ∷ xs) n e = there_at name x xs n (bytes_eq x name) refl (place_of name xs) (place_there name xs) e

place_found : (name : List ℕ) (xs : List (List ℕ)) (n : ℕ) → slice_get xs n ≡ Some name → place_of name xs ≡ None → ⊥
place_found name [] n is e = cc
place_found name (x ∷ xs) n is e = not_at name x xs n (bytes_eq x name) refl (place_of name xs) (place_found name xs) is e

-- ---- names

module _ (names : NamesSeen) (name : List ℕ) where
  named_there : (r a g : Option ℕ) (who : Who)
      → ((n : ℕ) → r ≡ Some n → slice_get names.refs n ≡ Some name) → ((n : ℕ) → a ≡ Some n → slice_get names.atoms n ≡ Some name) → ((n : ℕ) → g ≡ Some n → slice_get names.agents n ≡ Some name)
      → or_else (option_map Ref r) (or_else (option_map Atom a) (option_map Agent g)) ≡ Some who → IsNamed names who name
  named_there (Some n) a g (Ref m) refs atoms agents e = let is : Some n ≡ Some m = cc in refs m is
  named_there (Some n) a g (Atom m) refs atoms agents e = absurd cc
  named_there (Some n) a g (Agent m) refs atoms agents e = absurd cc
  named_there None (Some n) g (Ref m) refs atoms agents e = absurd cc
  named_there None (Some n) g (Atom m) refs atoms agents e = let is : Some n ≡ Some m = cc in atoms m is
  named_there None (Some n) g (Agent m) refs atoms agents e = absurd cc
  named_there None None (Some n) (Ref m) refs atoms agents e = absurd cc
  named_there None None (Some n) (Atom m) refs atoms agents e = absurd cc
  named_there None None (Some n) (Agent m) refs atoms agents e = let is : Some n ≡ Some m = cc in agents m is
  named_there None None None who refs atoms agents e = absurd cc

  none_named : (r a g : Option ℕ) (who : Who)
      → ((n : ℕ) → slice_get names.refs n ≡ Some name → r ≡ None → ⊥) → ((n : ℕ) → slice_get names.atoms n ≡ Some name → a ≡ None → ⊥) → ((n : ℕ) → slice_get names.agents n ≡ Some name → g ≡ None → ⊥)
      → IsNamed names who name → or_else (option_map Ref r) (or_else (option_map Atom a) (option_map Agent g)) ≡ None → ⊥
  none_named (Some n) a g who refs atoms agents is e = cc
  none_named None (Some n) g who refs atoms agents is e = cc
  none_named None None (Some n) who refs atoms agents is e = cc
  none_named None None None (Ref n) refs atoms agents is e = refs n is refl
  none_named None None None (Atom n) refs atoms agents is e = atoms n is refl
  none_named None None None (Agent n) refs atoms agents is e = agents n is refl

  is_found : (found meant : Option Who) → IfSome found (λ who. IsNamed names who name) → ((who : Who) → IsNamed names who name → found ≡ Some who)
      → ((who : Who) → meant ≡ Some who → IsNamed names who name) → ((who : Who) → IsNamed names who name → meant ≡ None → ⊥) → meant ≡ found
  is_found found (Some who) named only there not = sym (only who (there who refl))
  is_found None None named only there not = refl
  is_found (Some who) None named only there not = absurd (not who named refl)

  pub found_is_named : (found : Option Who) → IfSome found (λ who. IsNamed names who name) → ((who : Who) → IsNamed names who name → found ≡ Some who) → who_named names name ≡ found
  found_is_named found named only =
      is_found found (who_named names name) named only
      (λ who. named_there (place_of name names.refs) (place_of name names.atoms) (place_of name names.agents) who (place_there name names.refs) (place_there name names.atoms) (place_there name names.agents))
      (λ who. none_named (place_of name names.refs) (place_of name names.atoms) (place_of name names.agents) who (place_found name names.refs) (place_found name names.atoms) (place_found name names.agents))

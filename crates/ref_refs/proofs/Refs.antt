-- The refs of operations are here, and what follows where there is no tally.
use Rattle.std.proofs.Common.{◌≡◌, ℕ, ◌<◌, ◌==◌, ◌&&◌, ◌||◌, not, nat_lt, cond, Bool, true, false, List, [], ◌∷◌, ◌++◌, length, Option, None, Some, refl, ap, ◌∙◌, get_or, zero, suc, ◌⊎◌, inl, inr, arith}
use Rattle.std.specs.List.{find, list_any}
use Rattle.std.specs.Option.{option_map}
use Rattle.std.proofs.lemmas.Bool.{eqb-true, or_cases, and_parts, ltb-true}
use Rattle.std.proofs.lemmas.List.Folds.{list_any-append}
use Rattle.ref_value.specs.Edn.{Edn}
use Rattle.ref_log.specs.Replay.{is_commute, is_protected}
use Rattle.ref_log.specs.declared.operations.Done.{Done}
use Rattle.ref_log.specs.Tally.{fit_tally}
use Rattle.ref_refs.specs.declared.faults.Alien.TheVariants as aliens
use Rattle.ref_refs.specs.declared.faults.CommitFault.{CommitFault}
use Rattle.ref_refs.specs.declared.faults.CommitFault.TheVariants.{Foreign}
use Rattle.ref_refs.specs.Commit.{alien_ref, has_ref}

pub no_tally : (ds : List Done) → fit_tally None ds ≡ true
no_tally [] = refl
no_tally (d ∷ ds) = no_tally ds

-- ---- a ref among others

abbrev pub among : List ℕ → ℕ → Bool
among rs r = list_any (λ x. x == r) rs

pub or_false : (b : Bool) → (b || false) ≡ b
or_false true = refl
or_false false = refl

pub among_more : (rs : List ℕ) (x q : ℕ) → among (rs ++ x ∷ []) q ≡ (among rs q || (x == q))
among_more rs x q = list_any-append (λ y. y == q) rs (x ∷ []) ∙ ap (λ b. among rs q || b) (or_false (x == q))

-- ---- where no ref is foreign, the ref of each operation is here

abbrev foreign : Done → CommitFault
foreign d = Foreign (aliens.Ref d.r)

here_parts : (b : Bool) (d : Done) (later : Option Done) → option_map foreign (cond (not b) (Some d) later) ≡ None → (b ≡ true) × (option_map foreign later ≡ None)
here_parts true d later e = (refl, e)
here_parts false d later e = absurd cc

here_by : (p : Done → Bool) (values : List Edn) (ds : List Done) → alien_ref values ds ≡ None → (r : ℕ) → list_any (λ d. d.r == r && p d) ds ≡ true → r < length values
here_by p values [] none r on = absurd cc
here_by p values (d ∷ ds) none r on = at (here_parts (nat_lt d.r (length values)) d (find (λ x. not (has_ref values x.r)) ds) none) (or_cases (d.r == r && p d) (list_any (λ x. x.r == r && p x) ds) on) (λ n o. here_by p values ds n r o) where
  at : (nat_lt d.r (length values) ≡ true) × (alien_ref values ds ≡ None) → ((d.r == r && p d) ≡ true) ⊎ (list_any (λ x. x.r == r && p x) ds ≡ true) → (alien_ref values ds ≡ None → list_any (λ x. x.r == r && p x) ds ≡ true → r < length values) → r < length values
  at parts (inl here) others = omega (arith, ltb-true d.r (length values) parts.0, eqb-true d.r r (and_parts (d.r == r) (p d) here).0)
  at parts (inr later) others = others parts.1 later

pub all_here : (values : List Edn) (ds : List Done) → alien_ref values ds ≡ None → (r : ℕ) → is_protected ds r ≡ true → r < length values
all_here = here_by (λ d. not (is_commute d.op))

pub no_map : {X Y : Type 0} (f : X → Y) (o : Option X) → option_map f o ≡ None → o ≡ None
no_map f None is = refl
no_map f (Some x) is = absurd cc

within_parts : (b : Bool) (d : Done) (later : Option Done) → cond (not b) (Some d) later ≡ None → (b ≡ true) × (later ≡ None)
within_parts true d later e = (refl, e)
within_parts false d later e = absurd cc

pub within_at : (n : ℕ) (ds : List Done) (i : ℕ) (d : Done) → find (λ x. not (nat_lt x.r n)) ds ≡ None → i < length ds → d ≡ get_or ds i d → d.r < n
within_at n [] i d none below is = absurd (omega (arith, below))
within_at n (x ∷ ds) zero d none below is = omega (arith, ltb-true x.r n (within_parts (nat_lt x.r n) x (find (λ y. not (nat_lt y.r n)) ds) none).0, ap (λ y. y.r) is)
within_at n (x ∷ ds) (suc i) d none below is = within_at n ds i d (within_parts (nat_lt x.r n) x (find (λ y. not (nat_lt y.r n)) ds) none).1 (omega (arith, below)) is

pub here_at : (values : List Edn) (ds : List Done) (i : ℕ) (d : Done) → alien_ref values ds ≡ None → i < length ds → d ≡ get_or ds i d → d.r < length values
here_at values ds i d none below is = within_at (length values) ds i d (no_map foreign (find (λ x. not (has_ref values x.r)) ds) none) below is

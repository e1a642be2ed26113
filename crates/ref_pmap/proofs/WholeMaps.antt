-- A map with its number of entries, and what a walk shows of it.
use Rattle.std.proofs.Common.{◌≡◌, ℕ, ◌-◌, ◌+◌, true, cond, List, [], ◌∷◌, ◌++◌, refl, sym, ap, ◌∙◌}
use Rattle.std.specs.Prelude.{IsTrue, nat_eq}
use Rattle.std.proofs.lemmas.Bool.{eqb-true, eq-eqb}
use Rattle.std.specs.Option.{is_some}
use Rattle.std.specs.Ordering.{nat_cmp}
use Rattle.std.specs.Cmp.{nat_cmp_total}
use Rattle.std.specs.FinMap.{FinMap, get, empty, insert, remove, len, empty_of_len, get-empty, get-insert, len-empty, len-insert, len-remove}
use Rattle.ref_pmap.specs.Whole.{shown}
use denote.Bor.{Bor}
pub use Rattle.ref_pmap.proofs.Removals.{gone_already}

pub ruleset maps = (get-empty, get-insert, len-empty, len-insert, nat_cmp_total)

module _ {V : Type 0} where
  -- a test of the length is one of the map
  pub empty_where : (n : ℕ) (m : FinMap nat_cmp V) → n ≡ len m → (IsTrue (nat_eq n 0) → m ≡ empty) × (m ≡ empty → IsTrue (nat_eq n 0))
  empty_where n m e = (λ zero. empty_of_len m (sym e ∙ eqb-true n 0 zero), λ none. eq-eqb n 0 (e ∙ ap len none ∙ len-empty nat_cmp V))

  pub as_many : (m : FinMap nat_cmp V) (k : ℕ) (v : V) → is_some (get m k) ≡ true → len (insert m k v) ≡ len m
  as_many m k v e = len-insert nat_cmp_total m k v ∙ ap (λ b. cond b (len m) (len m + 1)) e

  pub one_less : (m : FinMap nat_cmp V) (k : ℕ) → is_some (get m k) ≡ true → len (remove m k) ≡ len m - 1
  one_less m k e = len-remove nat_cmp_total m k ∙ ap (λ b. cond b (len m - 1) (len m)) e

  pub shown_append : (es fs : List (ℕ × Bor V)) → shown (es ++ fs) ≡ shown es ++ shown fs
  shown_append [] fs = refl
  shown_append (e ∷ es) fs = ap (λ xs. (e.0, e.1.now) ∷ xs) (shown_append es fs)

  pub shown_push : (es fs : List (ℕ × Bor V)) (e : ℕ × Bor V) (xs : List (ℕ × V)) → fs ≡ es ++ e ∷ [] → xs ≡ (e.0, e.1.now) ∷ [] → shown fs ≡ shown es ++ xs
  shown_push es fs e xs all one = ap shown all ∙ shown_append es (e ∷ []) ∙ ap (λ ys. shown es ++ ys) (sym one)

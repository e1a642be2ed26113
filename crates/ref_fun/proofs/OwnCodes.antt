-- Closures stand under their own codes. A closure is any value with a code.
use Rattle.std.proofs.Common.{◌≡◌, ℕ, List, [], ◌∷◌, map, Option, None, Some, IfSome, option_copied, Result, Ok, Err, OnOk, OnErr, Bor, cond, refl, sym, ap}
use Rattle.std.specs.declared.cmp.Ordering.{Ordering}
use Rattle.std.specs.declared.cmp.Ordering.TheVariants.{Less, Equal, Greater}
use Rattle.std.specs.Ordering.{is_eq, match_ordering, nat_cmp}
use Rattle.std.specs.Map.{keys_of, lookup}
use Rattle.std.specs.BTreeMap.{insert_entry, is_at}
use Rattle.std.proofs.lemmas.Map.Lookups.{exact_unsigned}

module _ {X : Type 0} (f : X → ℕ) where
  abbrev pub OwnCodes : List (ℕ × X) → Type 0
  OwnCodes es = map (λ e. f e.1) es ≡ keys_of es

  found_first : (e : ℕ × X) (code : ℕ) (x : X) (rest : Option X) (r : Ordering) → nat_cmp code e.0 ≡ r → f e.1 ≡ e.0 → (rest ≡ Some x → f x ≡ code) → cond (is_eq r) (Some e.1) rest ≡ Some x → f x ≡ code
  found_first e code x rest Less compared own later found = later found
  found_first e code x rest Equal compared own later found =
      let same : code ≡ e.0 = exact_unsigned code e.0 compared in cc
  found_first e code x rest Greater compared own later found = later found

  -- What is found under a code has that code.
  pub code_of_found : (es : List (ℕ × X)) (code : ℕ) (x : X) → OwnCodes es → lookup (is_at (nat_cmp code)) es ≡ Some x → f x ≡ code
  code_of_found [] code x own found = cc
  code_of_found (e ∷ es) code x own found =
      let first : f e.1 ≡ e.0 = cc in
      let others : OwnCodes es = cc in
      found_first e code x (lookup (is_at (nat_cmp code)) es) (nat_cmp code e.0) refl first (code_of_found es code x others) found

  put_first : (e : ℕ × X) (es after : List (ℕ × X)) (code : ℕ) (x : X) (r : Ordering) → nat_cmp code e.0 ≡ r → f x ≡ code → f e.1 ≡ e.0 → OwnCodes es → OwnCodes after → OwnCodes (match_ordering r ((code, x) ∷ e ∷ es) ((e.0, x) ∷ es) (e ∷ after))
  put_first e es after code x Less compared new first others later = cc
  put_first e es after code x Equal compared new first others later =
      let same : code ≡ e.0 = exact_unsigned code e.0 compared in cc
  put_first e es after code x Greater compared new first others later = cc

  -- One more closure under its own code.
  pub OwnCodes-insert_entry : (es : List (ℕ × X)) (code : ℕ) (x : X) → f x ≡ code → OwnCodes es → OwnCodes (insert_entry nat_cmp es code x)
  OwnCodes-insert_entry [] code x new own = ap (λ c. c ∷ []) new
  OwnCodes-insert_entry (e ∷ es) code x new own =
      let first : f e.1 ≡ e.0 = cc in
      let others : OwnCodes es = cc in
      put_first e es (insert_entry nat_cmp es code x) code x (nat_cmp code e.0) refl new first others (OwnCodes-insert_entry es code x new others)

  pub code_of_lent : (es : List (ℕ × X)) (code : ℕ) (lent : Option (Bor X)) → OwnCodes es → option_copied lent ≡ lookup (is_at (nat_cmp code)) es → IfSome lent (λ x. f x.now ≡ code)
  code_of_lent es code None own found = tt
  code_of_lent es code (Some x) own found = code_of_found es code x.now own (sym found)

  -- An insertion that was refused left all as it was.
  pub OwnCodes-inserted : {T E : Type 0} (result : Result T E) (old new : List (ℕ × X)) (code : ℕ) (x : X) → f x ≡ code → OwnCodes old → OnOk result (new ≡ insert_entry nat_cmp old code x) → OnErr result (new ≡ old) → OwnCodes new
  OwnCodes-inserted (Ok t) old new code x put own ok err = rw ok (OwnCodes-insert_entry old code x put own)
  OwnCodes-inserted (Err e) old new code x put own ok err = rw err own

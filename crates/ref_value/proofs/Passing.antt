-- Two lists that are compared, once the members that come first in both are passed.
use Rattle.std.proofs.Common.{◌≡◌, ◌≤◌, ℕ, zero, suc, List, [], ◌∷◌, length, take, drop, refl, sym, ap, ◌∙◌, arith, subst, ◌+◌}
use Rattle.std.specs.Ordering.{ordering_then}
use Rattle.std.specs.declared.cmp.Ordering.TheVariants.{Equal}
use Rattle.std.proofs.Math.Seq.{drop-nil}
use Rattle.std.proofs.lemmas.Cmp.{tied_itself}
use Rattle.ref_value.specs.Edn.{Edn, items_of, items_depth, entries_of, entries_depth}
use Rattle.ref_value.specs.Members.{singles}
use Rattle.ref_value.specs.Moves.{HavePassed}
use Rattle.ref_value.specs.Order.{edn_cmp, items_cmp, entries_cmp}
use Rattle.ref_value.specs.OrderLaws.{edn_cmp_total}

singles_take : (n : ℕ) (xs : List (Edn × Edn)) → singles (take n xs) ≡ take n (singles xs)
singles_take zero xs = refl
singles_take (suc n) [] = refl
singles_take (suc n) (x ∷ xs) = ap (λ zs. x.0 ∷ zs) (singles_take n xs)

singles_drop : (n : ℕ) (xs : List (Edn × Edn)) → singles (drop n xs) ≡ drop n (singles xs)
singles_drop zero xs = refl
singles_drop (suc n) [] = refl
singles_drop (suc n) (x ∷ xs) = singles_drop n xs

pub singles_passed : (xs ys zs ws : List (Edn × Edn)) → HavePassed xs ys zs ws → HavePassed (singles xs) (singles ys) (singles zs) (singles ws)
singles_passed xs ys zs ws (n, same, first, second) =
    (n, sym (singles_take n xs) ∙ ap singles same ∙ singles_take n ys, ap singles first ∙ singles_drop n xs, ap singles second ∙ singles_drop n ys)

-- ---- what is left of a run

module _ {T : Type 0} where
  further : (n : ℕ) (rs ys : List T) → rs ≡ take (length rs) ys → drop n rs ≡ take (length (drop n rs)) (drop n ys)
  further zero rs ys e = e
  further (suc n) [] ys e = refl
  further (suc n) (r ∷ rs) [] e = absurd cc
  further (suc n) (r ∷ rs) (y ∷ ys) e = let tail : rs ≡ take (length rs) ys = ap (drop 1) e in further n rs ys tail

  dropped_twice : (xs : List T) (i n m : ℕ) → m ≡ i + n → drop m xs ≡ drop n (drop i xs)
  dropped_twice [] i n m e = drop-nil m ∙ sym (ap (drop n) (drop-nil i) ∙ drop-nil n)
  dropped_twice (x ∷ xs) zero n m e = let same : m ≡ n = omega (arith, e) in ap (λ k. drop k (x ∷ xs)) same
  dropped_twice (x ∷ xs) (suc i) n zero e = absurd (omega (arith, e))
  dropped_twice (x ∷ xs) (suc i) n (suc m) e = dropped_twice xs i n m (omega (arith, e))

  pub run_behind : (rs ts xs : List T) (i n : ℕ) → rs ≡ take (length rs) (drop i xs) → ts ≡ drop n rs → ts ≡ take (length ts) (drop (i + n) xs)
  run_behind rs ts xs i n e left = rw left (further n rs (drop i xs) e ∙ ap (take (length (drop n rs))) (sym (dropped_twice xs i n (i + n) refl)))

-- ---- comparing what is left

items_rest : (n : ℕ) (xs ys : List Edn) → take n xs ≡ take n ys → items_cmp (items_of (drop n xs)) (items_of (drop n ys)) ≡ items_cmp (items_of xs) (items_of ys)
items_rest zero xs ys same = refl
items_rest (suc n) [] [] same = refl
items_rest (suc n) [] (y ∷ ys) same = absurd cc
items_rest (suc n) (x ∷ xs) [] same = absurd cc
items_rest (suc n) (x ∷ xs) (y ∷ ys) same =
    let head : x ≡ y = cc in
    let tail : take n xs ≡ take n ys = cc in
    let equal : edn_cmp x y ≡ Equal = subst (λ z. edn_cmp x z ≡ Equal) head (tied_itself edn_cmp_total x) in
    items_rest n xs ys tail ∙ sym (ap (λ r. ordering_then r (items_cmp (items_of xs) (items_of ys))) equal)

entries_rest : (n : ℕ) (xs ys : List (Edn × Edn)) → take n xs ≡ take n ys → entries_cmp (entries_of (drop n xs)) (entries_of (drop n ys)) ≡ entries_cmp (entries_of xs) (entries_of ys)
entries_rest zero xs ys same = refl
entries_rest (suc n) [] [] same = refl
entries_rest (suc n) [] (y ∷ ys) same = absurd cc
entries_rest (suc n) (x ∷ xs) [] same = absurd cc
entries_rest (suc n) (x ∷ xs) (y ∷ ys) same =
    let head : x ≡ y = cc in
    let tail : take n xs ≡ take n ys = cc in
    let key : edn_cmp x.0 y.0 ≡ Equal = subst (λ z. edn_cmp x.0 z.0 ≡ Equal) head (tied_itself edn_cmp_total x.0) in
    let value : edn_cmp x.1 y.1 ≡ Equal = subst (λ z. edn_cmp x.1 z.1 ≡ Equal) head (tied_itself edn_cmp_total x.1) in
    let left = entries_cmp (entries_of xs) (entries_of ys) in
    entries_rest n xs ys tail ∙ sym (ap (λ r. ordering_then r (ordering_then (edn_cmp x.1 y.1) left)) key ∙ ap (λ r. ordering_then r left) value)

items_shallow : (n : ℕ) (xs : List Edn) → items_depth (items_of (drop n xs)) ≤ items_depth (items_of xs)
items_shallow zero xs = omega arith
items_shallow (suc n) [] = omega arith
items_shallow (suc n) (x ∷ xs) = omega (arith, items_shallow n xs)

entries_shallow : (n : ℕ) (xs : List (Edn × Edn)) → entries_depth (entries_of (drop n xs)) ≤ entries_depth (entries_of xs)
entries_shallow zero xs = omega arith
entries_shallow (suc n) [] = omega arith
entries_shallow (suc n) (x ∷ xs) = omega (arith, entries_shallow n xs)

fewer : {T : Type 0} (n : ℕ) (xs : List T) → length (drop n xs) ≤ length xs
fewer zero xs = omega arith
fewer (suc n) [] = omega arith
fewer (suc n) (x ∷ xs) = omega (arith, fewer n xs)

pub items_passed : (xs ys zs ws : List Edn) → HavePassed xs ys zs ws
    → (items_cmp (items_of zs) (items_of ws) ≡ items_cmp (items_of xs) (items_of ys)) × (items_depth (items_of zs) ≤ items_depth (items_of xs)) × (length zs ≤ length xs)
items_passed xs ys zs ws (n, same, first, second) = rw (first, second) (items_rest n xs ys same, items_shallow n xs, fewer n xs)

pub entries_passed : (xs ys zs ws : List (Edn × Edn)) → HavePassed xs ys zs ws
    → (entries_cmp (entries_of zs) (entries_of ws) ≡ entries_cmp (entries_of xs) (entries_of ys)) × (entries_depth (entries_of zs) ≤ entries_depth (entries_of xs)) × (length zs ≤ length xs)
entries_passed xs ys zs ws (n, same, first, second) = rw (first, second) (entries_rest n xs ys same, entries_shallow n xs, fewer n xs)

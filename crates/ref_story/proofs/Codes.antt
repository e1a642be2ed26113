-- Codes of lists.
use Rattle.std.proofs.Common.{◌≡◌, ◌⊎◌, inl, inr, List, [], ◌∷◌, ◌++◌, map, refl, ap, sym, ◌∙◌}
use mathlib.Core.List.{IsPrefix}
use base.Stored.{Gv, Coded}
use mathlib.Core.List.{cons≢nil}

module _ {E : Type 0} (cv : Coded E) where
  abbrev head : Gv → List Gv → Gv
  head d [] = d
  head d (g ∷ gs) = g

  abbrev tail : List Gv → List Gv
  tail [] = []
  tail (g ∷ gs) = gs

  uncoded : (xs ys : List E) (t : List Gv) → map cv.code xs ++ t ≡ map cv.code ys → IsPrefix xs ys
  uncoded [] ys t e = (ys, refl)
  uncoded (x ∷ xs) [] t e = absurd (cons≢nil e)
  uncoded (x ∷ xs) (y ∷ ys) t e = let r = uncoded xs ys t (ap tail e) in (r.0, λ i. cv.inj x y (ap (head (cv.code x)) e) i ∷ r.1 i)

  pub prefix_out : (xs ys : List E) → IsPrefix (map cv.code xs) (map cv.code ys) → IsPrefix xs ys
  prefix_out xs ys p = uncoded xs ys p.0 p.1

  joined_codes : (xs t : List E) → map cv.code xs ++ map cv.code t ≡ map cv.code (xs ++ t)
  joined_codes [] t = refl
  joined_codes (x ∷ xs) t = ap (λ (gs : List Gv). cv.code x ∷ gs) (joined_codes xs t)

  pub prefix_in : (xs t : List E) → IsPrefix (map cv.code xs) (map cv.code (xs ++ t))
  prefix_in xs t = (map cv.code t, joined_codes xs t)

  pub in_line : (xs ys : List E) (all : List Gv) → IsPrefix (map cv.code xs) all → IsPrefix (map cv.code ys) all → IsPrefix xs ys ⊎ IsPrefix ys xs
  in_line [] ys all p q = inl (ys, refl)
  in_line (x ∷ xs) [] all p q = inr (x ∷ xs, refl)
  in_line (x ∷ xs) (y ∷ ys) all p q = by (cv.inj x y (ap (head (cv.code x)) (p.1 ∙ sym q.1))) (in_line xs ys (tail all) (p.0, ap tail p.1) (q.0, ap tail q.1))
    where
      by : x ≡ y → IsPrefix xs ys ⊎ IsPrefix ys xs → IsPrefix (x ∷ xs) (y ∷ ys) ⊎ IsPrefix (y ∷ ys) (x ∷ xs)
      by e (inl t) = inl (t.0, λ i. e i ∷ t.1 i)
      by e (inr t) = inr (t.0, λ i. sym e i ∷ t.1 i)

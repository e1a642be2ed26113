-- Edits and look-ups of a list that stands in two parts.
use Rattle.std.proofs.Common.{◌≡◌, ◌<◌, ◌≤◌, ℕ, ◌+◌, ◌-◌, List, [], ◌∷◌, ◌++◌, length, take, drop, get_or, zero, suc, Some, None, refl, sym, ap, ◌∙◌, arith, length-append, append_assoc}
use Rattle.std.specs.List.{insert, remove, slice_set, slice_get}
use Rattle.std.proofs.lemmas.List.Edits.{insert-append_left, insert-append_right, remove-append_left, remove-append_right}
use Rattle.std.proofs.lemmas.List.{take-append-drop, take_rest, drop-append-le, take-append-le, set-append_left, set-append_right, get_or_append_left, get_or-append_right}

plus_one : (i : ℕ) → i + 1 ≡ suc i
plus_one i = omega arith

module _ {T : Type 0} where
  pub length_both : (xs ys : List T) → length (xs ++ ys) ≡ length xs + length ys
  length_both xs ys = length-append xs ys

  pub append_assoc_named : (xs ys zs : List T) → xs ++ ys ++ zs ≡ xs ++ (ys ++ zs)
  append_assoc_named xs ys zs = append_assoc xs ys zs

  pub cut_at : (n : ℕ) (xs : List T) → take n xs ++ drop n xs ≡ xs
  cut_at n xs = take-append-drop n xs

  pub alone_is : (xs : List T) (x : T) → length xs ≡ 1 → x ≡ get_or xs 0 x → xs ≡ x ∷ []
  alone_is [] x h e = absurd (omega arith)
  alone_is (y ∷ []) x h e = ap (λ z. z ∷ []) (sym e)
  alone_is (y ∷ z ∷ xs) x h e = absurd (omega arith)

  pub insert_left : (xs ys : List T) (i : ℕ) (y : T) → i ≤ length xs → insert (xs ++ ys) i y ≡ insert xs i y ++ ys
  insert_left xs ys i y h = insert-append_left xs ys i y h

  pub insert_right : (xs ys : List T) (i : ℕ) (y : T) → length xs ≤ i → insert (xs ++ ys) i y ≡ xs ++ insert ys (i - length xs) y
  insert_right xs ys i y h = insert-append_right xs ys (length xs) i y refl h

  pub remove_left : (xs ys : List T) (i : ℕ) → i < length xs → remove (xs ++ ys) i ≡ remove xs i ++ ys
  remove_left xs ys i h = remove-append_left xs ys i h

  pub remove_right : (xs ys : List T) (i : ℕ) → length xs ≤ i → remove (xs ++ ys) i ≡ xs ++ remove ys (i - length xs)
  remove_right xs ys i h = remove-append_right xs ys (length xs) i refl h

  pub set_left : (xs ys : List T) (i : ℕ) (y : T) → i < length xs → slice_set (xs ++ ys) i y ≡ slice_set xs i y ++ ys
  set_left xs ys i y h = set-append_left xs ys i y h

  pub set_right : (xs ys : List T) (i : ℕ) (y : T) → length xs ≤ i → slice_set (xs ++ ys) i y ≡ xs ++ slice_set ys (i - length xs) y
  set_right xs ys i y h = set-append_right xs ys (length xs) i y refl h

  pub at_left : (xs ys : List T) (i : ℕ) (d : T) → i < length xs → get_or (xs ++ ys) i d ≡ get_or xs i d
  at_left xs ys i d h = get_or_append_left xs ys d i h

  pub at_right : (xs ys : List T) (i : ℕ) (d : T) → length xs ≤ i → get_or (xs ++ ys) i d ≡ get_or ys (i - length xs) d
  at_right xs ys i d h = get_or-append_right xs ys (length xs) i d refl h

  pub insert_end : (xs : List T) (y : T) → insert xs (length xs) y ≡ xs ++ y ∷ []
  insert_end [] y = refl
  insert_end (x ∷ xs) y = ap (λ zs. x ∷ zs) (insert_end xs y)

  pub insert_length : (xs : List T) (i : ℕ) (y : T) → length (insert xs i y) ≡ length xs + 1
  insert_length xs zero y = omega arith
  insert_length [] (suc i) y = omega arith
  insert_length (x ∷ xs) (suc i) y = omega (arith, insert_length xs i y)

  pub remove_length : (xs : List T) (i : ℕ) → i < length xs → length (remove xs i) + 1 ≡ length xs
  remove_length [] i h = absurd (omega arith)
  remove_length (x ∷ xs) zero h = omega arith
  remove_length (x ∷ xs) (suc i) h = omega (arith, remove_length xs i (omega arith))

  whole : (xs : List T) → xs ≡ take (length xs) xs
  whole [] = refl
  whole (x ∷ xs) = ap (λ zs. x ∷ zs) (whole xs)

  length_drop : (i : ℕ) (xs : List T) → length (drop i xs) ≡ length xs - i
  length_drop zero xs = omega arith
  length_drop (suc i) [] = omega arith
  length_drop (suc i) (x ∷ xs) = omega (arith, length_drop i xs)

  length_take : (n : ℕ) (xs : List T) → length (take n xs) ≤ length xs
  length_take zero xs = omega arith
  length_take (suc n) [] = omega arith
  length_take (suc n) (x ∷ xs) = omega (arith, length_take n xs)

  pub run_whole : (i : ℕ) (xs : List T) → drop i xs ≡ take (length (drop i xs)) (drop i xs)
  run_whole i xs = whole (drop i xs)

  pub run_left : (rs xs ys : List T) (i : ℕ) → i < length xs → rs ≡ take (length rs) (drop i xs) → rs ≡ take (length rs) (drop i (xs ++ ys))
  run_left rs xs ys i h e =
      let short : length rs ≤ length (drop i xs) = rw e (length_take (length rs) (drop i xs)) in
      e ∙ sym (ap (take (length rs)) (drop-append-le i xs ys (omega arith)) ∙ take-append-le (length rs) (drop i xs) ys short)

  past : (xs ys : List T) (i j : ℕ) → i ≡ length xs + j → drop i (xs ++ ys) ≡ drop j ys
  past [] ys i j h = let e : i ≡ j = omega arith in ap (λ n. drop n ys) e
  past (x ∷ xs) ys zero j h = absurd (omega arith)
  past (x ∷ xs) ys (suc i) j h = past xs ys i j (omega arith)

  pub run_right : (rs xs ys : List T) (i : ℕ) → length xs ≤ i → rs ≡ take (length rs) (drop (i - length xs) ys) → rs ≡ take (length rs) (drop i (xs ++ ys))
  run_right rs xs ys i h e = e ∙ sym (ap (take (length rs)) (past xs ys i (i - length xs) (omega arith)))

  left_half : (xs : List T) (m i : ℕ) (y : T) → i ≤ m → m ≤ length xs → insert (take m xs) i y ++ drop m xs ≡ insert xs i y
  left_half xs m zero y h k = ap (λ zs. y ∷ zs) (take-append-drop m xs)
  left_half [] zero (suc i) y h k = absurd (omega arith)
  left_half [] (suc m) (suc i) y h k = absurd (omega arith)
  left_half (x ∷ xs) zero (suc i) y h k = absurd (omega arith)
  left_half (x ∷ xs) (suc m) (suc i) y h k = ap (λ zs. x ∷ zs) (left_half xs m i y (omega arith) (omega arith))

  right_half : (xs : List T) (m i j : ℕ) (y : T) → i ≡ m + j → m ≤ length xs → take m xs ++ insert (drop m xs) j y ≡ insert xs i y
  right_half xs zero i j y h k = let e : j ≡ i = omega arith in ap (λ n. insert xs n y) e
  right_half [] (suc m) i j y h k = absurd (omega arith)
  right_half (x ∷ xs) (suc m) zero j y h k = absurd (omega arith)
  right_half (x ∷ xs) (suc m) (suc i) j y h k = ap (λ zs. x ∷ zs) (right_half xs m i j y (omega arith) (omega arith))

  pub get_some : (xs : List T) (i : ℕ) (x : T) → x ≡ get_or xs i x → i < length xs → slice_get xs i ≡ Some x
  get_some [] i x e h = absurd (omega arith)
  get_some (y ∷ xs) zero x e h = ap (λ z. Some z) (sym e)
  get_some (y ∷ xs) (suc i) x e h = get_some xs i x e (omega arith)

  pub get_none : (xs : List T) (i : ℕ) → length xs ≤ i → slice_get xs i ≡ None
  get_none [] i h = refl
  get_none (x ∷ xs) zero h = absurd (omega arith)
  get_none (x ∷ xs) (suc i) h = get_none xs i (omega arith)

  -- A run that begins the rest of a list, and that rest without its first.
  pub run_below : (rs xs : List T) (i : ℕ) → rs ≡ take (length rs) (drop i xs) → length rs ≤ length xs - i
  run_below rs xs i e =
      let short : length rs ≤ length (drop i xs) = rw e (length_take (length rs) (drop i xs)) in
      omega (arith, short, length_drop i xs)

  tail_of_run : (rs xs : List T) (i : ℕ) → rs ≡ take (length rs) (drop i xs) → drop 1 rs ≡ take (length (drop 1 rs)) (drop (suc i) xs)
  tail_of_run [] xs i e = refl
  tail_of_run (r ∷ rs) [] zero e = absurd cc
  tail_of_run (r ∷ rs) [] (suc i) e = absurd cc
  tail_of_run (r ∷ rs) (x ∷ xs) zero e = ap (drop 1) e
  tail_of_run (r ∷ rs) (x ∷ xs) (suc i) e = tail_of_run (r ∷ rs) xs i e

  pub rest_of_run : (rs xs : List T) (i : ℕ) → rs ≡ take (length rs) (drop i xs) → take (length rs - 1) (drop 1 rs) ≡ take (length (take (length rs - 1) (drop 1 rs))) (drop (i + 1) xs)
  rest_of_run rs xs i e = rw (plus_one i, take_rest rs 1) (tail_of_run rs xs i e)

  head_of_run : (rs xs : List T) (i : ℕ) (x : T) → rs ≡ take (length rs) (drop i xs) → 0 < length rs → x ≡ get_or rs 0 x → drop i xs ≡ x ∷ drop (suc i) xs
  head_of_run [] xs i x e h g = absurd (omega arith)
  head_of_run (r ∷ rs) [] zero x e h g = absurd cc
  head_of_run (r ∷ rs) [] (suc i) x e h g = absurd cc
  head_of_run (r ∷ rs) (y ∷ xs) zero x e h g = let same : r ≡ y = cc in ap (λ z. z ∷ xs) (sym same ∙ sym g)
  head_of_run (r ∷ rs) (y ∷ xs) (suc i) x e h g = head_of_run (r ∷ rs) xs i x e h g

  pub first_of_run : (rs xs : List T) (i : ℕ) (x : T) → rs ≡ take (length rs) (drop i xs) → 0 < length rs → x ≡ get_or rs 0 x → drop i xs ≡ x ∷ drop (i + 1) xs
  first_of_run rs xs i x e h g = rw (plus_one i) (head_of_run rs xs i x e h g)

  -- A list in two parts, one of which gets one more.
  pub parts_left : (xs : List T) (m i : ℕ) (y : T) → i ≤ m → m ≤ length xs → insert (take m xs) i y ++ drop m xs ≡ insert xs i y
  parts_left xs m i y h k = left_half xs m i y h k

  pub parts_right : (xs : List T) (m i : ℕ) (y : T) → m ≤ i → m ≤ length xs → take m xs ++ insert (drop m xs) (i - m) y ≡ insert xs i y
  parts_right xs m i y h k = right_half xs m i (i - m) y (omega arith) k

  pub length_taken : (n : ℕ) (xs : List T) → n ≤ length xs → length (take n xs) ≡ n
  length_taken zero xs h = omega arith
  length_taken (suc n) [] h = absurd (omega arith)
  length_taken (suc n) (x ∷ xs) h = omega (arith, length_taken n xs (omega arith))

  -- Lists of one length that are the same so far.
  pub all_taken : (xs ys : List T) (n : ℕ) → n ≡ length xs → n ≡ length ys → take n xs ≡ take n ys → xs ≡ ys
  all_taken [] [] n this that same = refl
  all_taken [] (y ∷ ys) n this that same = absurd (omega (arith, this, that))
  all_taken (x ∷ xs) [] n this that same = absurd (omega (arith, this, that))
  all_taken (x ∷ xs) (y ∷ ys) zero this that same = absurd (omega (arith, this))
  all_taken (x ∷ xs) (y ∷ ys) (suc n) this that same =
      let head : x ≡ y = cc in
      let rest : take n xs ≡ take n ys = cc in
      let tail : xs ≡ ys = all_taken xs ys n (omega (arith, this)) (omega (arith, that)) rest in
      ap (λ z. z ∷ xs) head ∙ ap (λ l. y ∷ l) tail

  pub same_left : (xs ys zs ws : List T) (n : ℕ) → n ≤ length xs → n ≤ length zs → take n xs ≡ take n zs → take n (xs ++ ys) ≡ take n (zs ++ ws)
  same_left xs ys zs ws n this that same = take-append-le n xs ys this ∙ same ∙ sym (take-append-le n zs ws that)

  taken_past : (xs ys : List T) (k n : ℕ) → n ≡ length xs → take (n + k) (xs ++ ys) ≡ xs ++ take k ys
  taken_past [] ys k zero is = let none : 0 + k ≡ k = omega arith in ap (λ m. take m ys) none
  taken_past [] ys k (suc n) is = absurd (omega (arith, is))
  taken_past (x ∷ xs) ys k zero is = absurd (omega (arith, is))
  taken_past (x ∷ xs) ys k (suc n) is =
      let more : suc n + k ≡ suc (n + k) = omega arith in
      ap (λ m. take m (x ∷ xs ++ ys)) more ∙ ap (λ l. x ∷ l) (taken_past xs ys k n (omega (arith, is)))

  -- Where the first parts are the same, so is what is the same of the second ones.
  pub same_right : (xs ys zs ws : List T) (n k : ℕ) → n ≡ length xs → n ≡ length zs → take n xs ≡ take n zs → take k ys ≡ take k ws → take (n + k) (xs ++ ys) ≡ take (n + k) (zs ++ ws)
  same_right xs ys zs ws n k this that first second =
      let whole : xs ≡ zs = all_taken xs zs n this that first in
      taken_past xs ys k n this ∙ (ap (λ l. l ++ take k ys) whole ∙ ap (λ l. zs ++ l) second) ∙ sym (taken_past zs ws k n that)

  pub length_dropped : (n : ℕ) (xs : List T) → length (drop n xs) ≡ length xs - n
  length_dropped n xs = length_drop n xs

  pub run_some : (i : ℕ) (xs : List T) → i < length xs → 0 < length (drop i xs)
  run_some i xs h = omega (arith, length_drop i xs)

  pub set_length : (xs : List T) (i : ℕ) (y : T) → length (slice_set xs i y) ≡ length xs
  set_length [] i y = refl
  set_length (x ∷ xs) zero y = refl
  set_length (x ∷ xs) (suc i) y = ap suc (set_length xs i y)

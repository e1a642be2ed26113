-- Lists in two parts, as a fork has them, and lists of what owners own, as a chunk has them.
use Rattle.std.proofs.Common.{◌≡◌, ◌<◌, ◌≤◌, ℕ, ◌+◌, ◌-◌, zero, suc, List, [], ◌∷◌, ◌++◌, length, take, drop, get_or, Some, None, refl, sym, ap, ◌∙◌, arith, length-append, length-drop, append_assoc}
use Rattle.std.specs.List.{slice_get}
use Rattle.std.specs.declared.sync.Arc.{Arc}
use Rattle.std.specs.declared.alloc.Global.{Global}
use Rattle.std.proofs.lemmas.List.{take_more, take_rest, drop-map, drop-append-le}
use Rattle.std.proofs.Math.Seq.{drop-append-add}
use Rattle.std.proofs.Math.ListN.{drop_of_length-le}
use Rattle.ref_pvec.specs.Chunks.{values, IsRun}

module _ {T : Type 0} where
  -- an index into both parts is one into the first, or one into the second
  pub get_front : (xs ys : List T) (i : ℕ) → i < length xs → slice_get (xs ++ ys) i ≡ slice_get xs i
  get_front [] ys i h = absurd (omega arith)
  get_front (x ∷ xs) ys zero h = refl
  get_front (x ∷ xs) ys (suc i) h = get_front xs ys i (omega arith)

  behind : (xs ys : List T) (i j : ℕ) → i ≡ length xs + j → slice_get (xs ++ ys) i ≡ slice_get ys j
  behind [] ys i j h = let e : i ≡ j = omega arith in ap (slice_get ys) e
  behind (x ∷ xs) ys zero j h = absurd (omega arith)
  behind (x ∷ xs) ys (suc i) j h = behind xs ys i j (omega arith)

  pub get_back : (xs ys : List T) (i : ℕ) → length xs ≤ i → slice_get (xs ++ ys) i ≡ slice_get ys (i - length xs)
  get_back xs ys i h = behind xs ys i (i - length xs) (omega arith)

  pub length_both : (xs ys : List T) → length (xs ++ ys) ≡ length xs + length ys
  length_both xs ys = length-append xs ys

  pub append_associates : (xs ys zs : List T) → xs ++ ys ++ zs ≡ xs ++ (ys ++ zs)
  append_associates xs ys zs = append_assoc xs ys zs

  pub append_none : (xs : List T) → xs ++ [] ≡ xs
  append_none [] = refl
  append_none (x ∷ xs) = ap (λ ys. x ∷ ys) (append_none xs)

  -- lengths, ends and places of what owners own
  pub length_values : (xs : List (Arc T Global)) → length (values xs) ≡ length xs
  length_values [] = refl
  length_values (x ∷ xs) = ap (λ n. suc n) (length_values xs)

  pub drop_values : (i : ℕ) (xs : List (Arc T Global)) → values (drop i xs) ≡ drop i (values xs)
  drop_values i xs = sym (drop-map (λ x. x.value) i xs)

  pub values_push : (xs : List (Arc T Global)) (y : Arc T Global) → values (xs ++ y ∷ []) ≡ values xs ++ y.value ∷ []
  values_push [] y = refl
  values_push (x ∷ xs) y = ap (λ zs. x.value ∷ zs) (values_push xs y)

  pub slice_get_values : (xs : List (Arc T Global)) (i : ℕ) (x : Arc T Global) → x ≡ get_or xs i x → i < length xs → slice_get (values xs) i ≡ Some x.value
  slice_get_values [] i x e h = absurd (omega arith)
  slice_get_values (y ∷ xs) zero x e h = ap (λ z. Some z.value) (sym e)
  slice_get_values (y ∷ xs) (suc i) x e h = slice_get_values xs i x e (omega arith)

  pub no_value : (xs : List (Arc T Global)) (i : ℕ) → length xs ≤ i → slice_get (values xs) i ≡ None
  no_value [] i h = refl
  no_value (x ∷ xs) zero h = absurd (omega arith)
  no_value (x ∷ xs) (suc i) h = no_value xs i (omega arith)

  -- the step of a loop over a chunk, and its end
  pub values_more : (xs : List (Arc T Global)) (i : ℕ) (x : Arc T Global) → x ≡ get_or xs i x → i < length xs → values (take (i + 1) xs) ≡ values (take i xs) ++ x.value ∷ []
  values_more xs i x e h = ap values (take_more xs i x h) ∙ values_push (take i xs) (get_or xs i x) ∙ ap (λ z. values (take i xs) ++ z.value ∷ []) (sym e)

  pub values_whole : (xs : List (Arc T Global)) → values (take (length xs) xs) ≡ values xs
  values_whole [] = refl
  values_whole (x ∷ xs) = ap (λ zs. x.value ∷ zs) (values_whole xs)

  -- what a slice from an index on holds
  pub values_rest : (i : ℕ) (xs : List (Arc T Global)) → values (take (length xs - i) (drop i xs)) ≡ drop i (values xs)
  values_rest i xs = ap values (take_rest xs i) ∙ drop_values i xs

  -- the rest of a chunk is a run
  pub run_of_chunk : (xs : List (Arc T Global)) (i : ℕ) → i < length xs → IsRun (values xs) i (take (length xs - i) (drop i xs))
  run_of_chunk xs i h =
      let rest : take (length xs - i) (drop i xs) ≡ drop i xs = take_rest xs i in
      let size : length (take (length xs - i) (drop i xs)) ≡ length xs - i = ap length rest ∙ length-drop i xs in
      let all : length (values xs) ≡ length xs = length_values xs in
      record {
        within = omega arith;
        parts = sym (ap (λ zs. values (take (length xs - i) (drop i xs)) ++ zs) (drop_of_length-le (values xs) (omega arith)) ∙ append_none _ ∙ values_rest i xs);
      }

  -- a run of the front is one of both parts
  pub run_in_front : (xs ys : List T) (i : ℕ) (run : List (Arc T Global)) → IsRun xs i run → IsRun (xs ++ ys) i run
  run_in_front xs ys i run r =
      let inside : i + length run ≤ length xs = r.within in
      let both : length (xs ++ ys) ≡ length xs + length ys = length-append xs ys in
      record {
        within = omega arith;
        parts = drop-append-le i xs ys (omega arith) ∙ ap (λ zs. zs ++ ys) r.parts ∙ append_assoc (values run) (drop (i + length run) xs) ys
            ∙ ap (λ zs. values run ++ zs) (sym (drop-append-le (i + length run) xs ys inside));
      }

  drop_behind : (xs ys : List T) (i j : ℕ) → i ≡ length xs + j → drop i (xs ++ ys) ≡ drop j ys
  drop_behind xs ys i j e = ap (λ n. drop n (xs ++ ys)) e ∙ drop-append-add xs ys j

  -- and so is one of the back
  pub run_in_back : (xs ys : List T) (i : ℕ) (run : List (Arc T Global)) → length xs ≤ i → IsRun ys (i - length xs) run → IsRun (xs ++ ys) i run
  run_in_back xs ys i run h r =
      let inside : i - length xs + length run ≤ length ys = r.within in
      let both : length (xs ++ ys) ≡ length xs + length ys = length-append xs ys in
      record {
        within = omega arith;
        parts = drop_behind xs ys i (i - length xs) (omega arith) ∙ r.parts
            ∙ ap (λ zs. values run ++ zs) (sym (drop_behind xs ys (i + length run) (i - length xs + length run) (omega arith)));
      }

  -- what is left of both parts behind an index into the first, or into the second
  pub rest_in_front : (xs ys : List T) (i : ℕ) → i ≤ length xs → drop i (xs ++ ys) ≡ drop i xs ++ ys
  rest_in_front xs ys i h = drop-append-le i xs ys h

  pub rest_in_back : (xs ys : List T) (i : ℕ) → length xs ≤ i → drop i (xs ++ ys) ≡ drop (i - length xs) ys
  rest_in_back xs ys i h = drop_behind xs ys i (i - length xs) (omega arith)

  pub rest_is_none : (xs : List T) (i : ℕ) → length xs ≤ i → drop i xs ≡ []
  rest_is_none xs i h = drop_of_length-le xs h

  pub length_rest : (xs : List T) (i : ℕ) → length (drop i xs) ≡ length xs - i
  length_rest xs i = length-drop i xs

  -- the first of both parts end in the first, or in the second
  pub first_in_front : (xs ys : List T) (n : ℕ) → n ≤ length xs → take n (xs ++ ys) ≡ take n xs
  first_in_front xs ys zero h = refl
  first_in_front [] ys (suc n) h = absurd (omega arith)
  first_in_front (x ∷ xs) ys (suc n) h = ap (λ zs. x ∷ zs) (first_in_front xs ys n (omega arith))

  first_behind : (xs ys : List T) (n m : ℕ) → n ≡ length xs + m → take n (xs ++ ys) ≡ xs ++ take m ys
  first_behind [] ys n m e = let same : n ≡ m = omega arith in ap (λ k. take k ys) same
  first_behind (x ∷ xs) ys zero m e = absurd (omega arith)
  first_behind (x ∷ xs) ys (suc n) m e = ap (λ zs. x ∷ zs) (first_behind xs ys n m (omega arith))

  pub first_in_back : (xs ys : List T) (n : ℕ) → length xs ≤ n → take n (xs ++ ys) ≡ xs ++ take (n - length xs) ys
  first_in_back xs ys n h = first_behind xs ys n (n - length xs) (omega arith)

  pub first_is_all : (xs : List T) (n : ℕ) → length xs ≤ n → take n xs ≡ xs
  first_is_all [] zero h = refl
  first_is_all [] (suc n) h = refl
  first_is_all (x ∷ xs) zero h = absurd (omega arith)
  first_is_all (x ∷ xs) (suc n) h = ap (λ zs. x ∷ zs) (first_is_all xs n (omega arith))

  pub length_first : (xs : List T) (n : ℕ) → n ≤ length xs → length (take n xs) ≡ n
  length_first xs zero h = refl
  length_first [] (suc n) h = absurd (omega arith)
  length_first (x ∷ xs) (suc n) h = ap suc (length_first xs n (omega arith))

  pub values_first : (n : ℕ) (xs : List (Arc T Global)) → values (take n xs) ≡ take n (values xs)
  values_first zero xs = refl
  values_first (suc n) [] = refl
  values_first (suc n) (x ∷ xs) = ap (λ zs. x.value ∷ zs) (values_first n xs)

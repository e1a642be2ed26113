-- Of two values the one with the smaller sort key stands first.
use Rattle.std.proofs.Common.{◌≡◌, ℕ, zero, suc, ◌+◌, ◌*◌, ◌-◌, ◌<◌, ◌≤◌, Bool, true, false, nat_lt, List, [], ◌∷◌, get_or, drop, Fits, w8, refl, sym, ap, ◌∙◌, arith}
use Rattle.std.proofs.Math.Seq.{drop-nil}
use Rattle.std.specs.Prelude.{ℤ, pos, negsuc}
use Rattle.std.specs.Ordering.{nat_cmp, int_cmp, ordering_then, ordering_reverse}
use Rattle.std.specs.declared.cmp.Ordering.TheVariants.{Less, Equal, Greater}
use Rattle.std.specs.Cmp.Lexicographic.{slice_cmp}
use Rattle.std.proofs.lemmas.Bool.Decides.{nat_tests}
use Rattle.ref_value.specs.Edn.{Edn, nil, boolean, int, string, keyword, symbol, vector, map, set, text_of}
use Rattle.ref_value.specs.Order.{rank, edn_cmp}
use Rattle.ref_value.specs.OrderLaws.{edn_cmp_total}
use Rattle.ref_edn.specs.SortKeys.{AreBytes, spelled, int_key, sort_key}

less : (a b : ℕ) → a < b → nat_cmp a b ≡ Less
less a b h = grind (arith, nat_tests)

same : (a : ℕ) → nat_cmp a a ≡ Equal
same a = grind (arith, nat_tests)

below : (a b : ℕ) → nat_lt a b ≡ true → a < b
below a b h = grind (arith, nat_tests)

not_below : (a b : ℕ) → nat_lt a b ≡ false → b ≤ a
not_below a b h = grind (arith, nat_tests)

none_before : (xs : List ℕ) → slice_cmp nat_cmp xs [] ≡ Less → ⊥
none_before [] e = cc
none_before (x ∷ xs) e = cc

-- A smaller number behind no smaller start comes from the same start and a text that stands before.
first : (k n m : ℕ) (a b : List ℕ) → AreBytes a → AreBytes b → m ≤ n → spelled k n a < spelled k m b → (n ≡ m) × (slice_cmp nat_cmp a b ≡ Less)
first zero n m a b p q l h = absurd (omega (arith, l, h))
first (suc k) n m [] [] p q l h = let e = (first k (n * 256) (m * 256) [] [] tt tt (omega (arith, l)) h).1 in absurd cc
first (suc k) n m [] (y ∷ ys) p q l h = by (nat_lt m n) refl (λ t. (first k (n * 256) (m * 256 + y) [] ys tt q.1 t h).0)
  where
    by : (r : Bool) → nat_lt m n ≡ r → (m * 256 + y ≤ n * 256 → n * 256 ≡ m * 256 + y) → (n ≡ m) × (Less ≡ Less)
    by true t next =
        let lower = below m n t in
        let e = next (omega (arith, lower, q.0)) in
        absurd (omega (arith, lower, q.0, e))
    by false t next = (omega (arith, l, not_below m n t), refl)
first (suc k) n m (x ∷ xs) [] p q l h = absurd (none_before xs (first k (n * 256 + x) (m * 256) xs [] p.1 tt (omega (arith, l)) h).1)
first (suc k) n m (x ∷ xs) (y ∷ ys) p q l h = by (nat_lt (n * 256 + x) (m * 256 + y)) refl (λ t. first k (n * 256 + x) (m * 256 + y) xs ys p.1 q.1 t h)
  where
    equal : (n * 256 + x ≡ m * 256 + y) × (slice_cmp nat_cmp xs ys ≡ Less) → (n ≡ m) × (ordering_then (nat_cmp x y) (slice_cmp nat_cmp xs ys) ≡ Less)
    equal e =
        let x_is : x ≡ y = omega (arith, l, e.0, p.0, q.0) in
        (omega (arith, l, e.0, p.0, q.0), rw (x_is, same y) e.1)

    by : (r : Bool) → nat_lt (n * 256 + x) (m * 256 + y) ≡ r
        → (m * 256 + y ≤ n * 256 + x → (n * 256 + x ≡ m * 256 + y) × (slice_cmp nat_cmp xs ys ≡ Less))
        → (n ≡ m) × (ordering_then (nat_cmp x y) (slice_cmp nat_cmp xs ys) ≡ Less)
    by true t next =
        let lower = below (n * 256 + x) (m * 256 + y) t in
        (omega (arith, l, lower, p.0, q.0), rw (less x y (omega (arith, l, lower, p.0, q.0))) refl)
    by false t next = equal (next (not_below (n * 256 + x) (m * 256 + y) t))

by_texts : (v w : Edn) → rank v ≡ rank w → slice_cmp nat_cmp (text_of v) (text_of w) ≡ Less → edn_cmp v w ≡ Less
by_texts nil nil e h = cc
by_texts (boolean a) (boolean b) e h = cc
by_texts (int a) (int b) e h = cc
by_texts (string a) (string b) e h = h
by_texts (keyword a) (keyword b) e h = h
by_texts (symbol a) (symbol b) e h = h
by_texts (vector a) (vector b) e h = cc
by_texts (map a) (map b) e h = cc
by_texts (set a) (set b) e h = cc
by_texts v w e h = cc

by_kinds : (v w : Edn) → rank v < rank w → edn_cmp v w ≡ Less
by_kinds nil nil h = absurd (omega (arith, h))
by_kinds (boolean a) (boolean b) h = absurd (omega (arith, h))
by_kinds (int a) (int b) h = absurd (omega (arith, h))
by_kinds (string a) (string b) h = absurd (omega (arith, h))
by_kinds (keyword a) (keyword b) h = absurd (omega (arith, h))
by_kinds (symbol a) (symbol b) h = absurd (omega (arith, h))
by_kinds (vector a) (vector b) h = absurd (omega (arith, h))
by_kinds (map a) (map b) h = absurd (omega (arith, h))
by_kinds (set a) (set b) h = absurd (omega (arith, h))
by_kinds v w h = less (rank v) (rank w) h

-- ---- integers

ints_in_order : (a b : ℤ) → int_key a < int_key b → int_cmp a b ≡ Less
ints_in_order (pos m) (pos n) h = let lower : m < n = omega (arith, h) in grind (arith, nat_tests)
ints_in_order (pos m) (negsuc n) h = absurd (omega (arith, h))
ints_in_order (negsuc m) (pos n) h = refl
ints_in_order (negsuc m) (negsuc n) h = let lower : n < m = omega (arith, h) in grind (arith, nat_tests)

least_of_ints : (a : ℤ) → 144115188075855872 ≤ int_key a
least_of_ints (pos n) = omega arith
least_of_ints (negsuc n) = omega arith

most_of_ints : (a : ℤ) → int_key a < 216172782113783808
most_of_ints (pos n) = omega arith
most_of_ints (negsuc n) = omega arith

-- a text only makes a number greater
spelled_least : (k m n : ℕ) (bs : List ℕ) → m ≤ n → spelled k m [] ≤ spelled k n bs
spelled_least zero m n bs h = h
spelled_least (suc k) m n [] h = spelled_least k (m * 256) (n * 256) [] (omega (arith, h))
spelled_least (suc k) m n (b ∷ bs) h = spelled_least k (m * 256) (n * 256 + b) bs (omega (arith, h))

no_text_before : (n : ℕ) (s : List ℕ) (b : ℤ) → 3 ≤ n → spelled 7 n s < int_key b → ⊥
no_text_before n s b l h =
    let least : 216172782113783808 ≤ spelled 7 n s = spelled_least 7 3 n s l in
    omega (arith, h, least, most_of_ints b)

after_int : (a : ℤ) (w : Edn) → int_key a < sort_key w → edn_cmp (int a) w ≡ Less
after_int a nil h = absurd (omega (arith, h))
after_int a (boolean b) h = absurd (omega (arith, h, least_of_ints a))
after_int a (int b) h = ints_in_order a b h
after_int a w h = refl

before_int : (v : Edn) (b : ℤ) → sort_key v < int_key b → edn_cmp v (int b) ≡ Less
before_int nil b h = refl
before_int (boolean a) b h = refl
before_int (int a) b h = ints_in_order a b h
before_int (string s) b h = absurd (no_text_before 3 s b (omega arith) h)
before_int (keyword s) b h = absurd (no_text_before 4 s b (omega arith) h)
before_int (symbol s) b h = absurd (no_text_before 5 s b (omega arith) h)
before_int (vector xs) b h = absurd (omega (arith, h, most_of_ints b))
before_int (map es) b h = absurd (omega (arith, h, most_of_ints b))
before_int (set xs) b h = absurd (omega (arith, h, most_of_ints b))

-- ---- all values

others : (v w : Edn) → AreBytes (text_of v) → AreBytes (text_of w) → spelled 7 (rank v) (text_of v) < spelled 7 (rank w) (text_of w) → edn_cmp v w ≡ Less
others v w p q h = by (nat_lt (rank v) (rank w)) refl
  where
    by : (r : Bool) → nat_lt (rank v) (rank w) ≡ r → edn_cmp v w ≡ Less
    by true t = by_kinds v w (below (rank v) (rank w) t)
    by false t = let e = first 7 (rank v) (rank w) (text_of v) (text_of w) p q (not_below (rank v) (rank w) t) h in by_texts v w e.0 e.1

by_sort_keys : (v w : Edn) → AreBytes (text_of v) → AreBytes (text_of w) → sort_key v < sort_key w → edn_cmp v w ≡ Less
by_sort_keys (int a) w p q h = after_int a w h
by_sort_keys v (int b) p q h = before_int v b h
by_sort_keys v w p q h = others v w p q h

-- the numbers that a byte and i more spell are less than this
abbrev pub room : ℕ → ℕ
room zero = 256
room (suc i) = room i * 256

pub room_is_small : (i n : ℕ) → i < 7 → n < room i → n < 72057594037927936
room_is_small zero n l h = omega (arith, h)
room_is_small (suc zero) n l h = omega (arith, h)
room_is_small (suc (suc zero)) n l h = omega (arith, h)
room_is_small (suc (suc (suc zero))) n l h = omega (arith, h)
room_is_small (suc (suc (suc (suc zero)))) n l h = omega (arith, h)
room_is_small (suc (suc (suc (suc (suc zero))))) n l h = omega (arith, h)
room_is_small (suc (suc (suc (suc (suc (suc zero)))))) n l h = omega (arith, h)
room_is_small (suc (suc (suc (suc (suc (suc (suc i))))))) n l h = absurd (omega (arith, l))

-- one byte more
spelled_at : (k n : ℕ) (bs : List ℕ) (i : ℕ) → spelled (suc k) n (drop i bs) ≡ spelled k (n * 256 + get_or bs i 0) (drop (suc i) bs)
spelled_at k n [] i = rw (drop-nil i) (ap (λ m. spelled k m []) (omega arith))
spelled_at k n (b ∷ bs) zero = refl
spelled_at k n (b ∷ bs) (suc i) = spelled_at k n bs i

pub bytes_from : (bs : List ℕ) → ((i : ℕ) → Fits w8 (get_or bs i 0)) → AreBytes bs
bytes_from [] h = tt
bytes_from (b ∷ bs) h = (omega (arith, h 0), bytes_from bs (λ i. h (suc i)))

pub step : (i n : ℕ) (bs : List ℕ) (t : ℕ) → i < 7 → spelled (7 - i) n (drop i bs) ≡ t → spelled (7 - (i + 1)) (n * 256 + get_or bs i 0) (drop (i + 1) bs) ≡ t
step i n bs t l h = by (7 - (i + 1)) (omega (arith, l)) refl
  where
    by : (k : ℕ) → 7 - i ≡ suc k → 7 - (i + 1) ≡ k → spelled (7 - (i + 1)) (n * 256 + get_or bs i 0) (drop (i + 1) bs) ≡ t
    by k e f =
        let next : i + 1 ≡ suc i = omega arith in
        rw f (ap (λ j. spelled k (n * 256 + get_or bs i 0) (drop j bs)) next ∙ sym (spelled_at k n bs i) ∙ ap (λ j. spelled j n (drop i bs)) (sym e) ∙ h)

pub more_room : (i n b : ℕ) → n < room i → b < 256 → n * 256 + b < room (i + 1)
more_room i n b h l =
    let next : i + 1 ≡ suc i = omega arith in
    rw next (omega (arith, h, l))

abbrev Known : Edn → ℕ → Type 0
Known v k = (k ≡ sort_key v) × AreBytes (text_of v)

pub smaller_first : (v w : Edn) (k l : ℕ) → Known v k → Known w l → k < l → Less ≡ edn_cmp v w
smaller_first v w k l p q h = sym (by_sort_keys v w p.1 q.1 (omega (arith, p.0, q.0, h)))

pub greater_last : (v w : Edn) (k l : ℕ) → Known v k → Known w l → l < k → Greater ≡ edn_cmp v w
greater_last v w k l p q h = ap ordering_reverse (smaller_first w v l k q p h) ∙ sym (edn_cmp_total.antisymm v w)

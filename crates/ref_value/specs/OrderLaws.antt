-- The value order is a total order, and only a value itself is equal to it there.
-- Each value has a key, a list of numbers; the order is that of the keys, one number after another.
use Rattle.std.specs.Prelude.{◌≡◌, ℕ, ℤ, pos, negsuc, Bool, true, false, List, [], ◌∷◌, refl}
use Rattle.std.specs.declared.cmp.Ordering.{Ordering}
use Rattle.std.specs.declared.cmp.Ordering.TheVariants.{Less, Equal, Greater}
use Rattle.std.specs.Ordering.{nat_cmp, int_cmp, ordering_then, ordering_reverse}
use Rattle.std.specs.Prelude.{IsTrue}
use Rattle.std.specs.Ordering.{eq_by_cmp, is_eq}
use Rattle.std.specs.Cmp.{Equal-is, tied_itself, IsTotalOrder, on_total, int_cmp_total}
use Rattle.std.specs.Cmp.Lexicographic.{slice_cmp, lists_total}
use Rattle.std.specs.FinMap.{slice_cmp-IsAntisymmetric, nat_cmp-IsAntisymmetric, int_cmp-IsAntisymmetric}
use Rattle.std.proofs.lemmas.Bool.Decides.{nat_tests}
use Rattle.std.proofs.Common.{sym, ◌∙◌, ap, arith}
use Rattle.ref_value.specs.Edn.{Edn, nil, boolean, int, string, keyword, symbol, vector, map, set, Items, no_items, item, Entries, no_entries, entry}
use Rattle.ref_value.specs.Order.{edn_cmp, items_cmp, entries_cmp}

abbrev bit : Bool → ℤ
bit false = pos 0
bit true = pos 1

abbrev bytes_key : List ℕ → List ℤ → List ℤ
bytes_key [] rest = negsuc 0 ∷ rest
bytes_key (b ∷ bs) rest = pos b ∷ bytes_key bs rest

-- the numbers of a value and then the rest; what closes a collection is less than any kind
abbrev mutual
  key : Edn → List ℤ → List ℤ
  key nil rest = pos 0 ∷ rest
  key (boolean b) rest = pos 1 ∷ bit b ∷ rest
  key (int n) rest = pos 2 ∷ n ∷ rest
  key (string s) rest = pos 3 ∷ bytes_key s rest
  key (keyword s) rest = pos 4 ∷ bytes_key s rest
  key (symbol s) rest = pos 5 ∷ bytes_key s rest
  key (vector xs) rest = pos 6 ∷ items_key xs rest
  key (map xs) rest = pos 7 ∷ entries_key xs rest
  key (set xs) rest = pos 8 ∷ items_key xs rest

  items_key : Items → List ℤ → List ℤ
  items_key no_items rest = negsuc 0 ∷ rest
  items_key (item x xs) rest = key x (items_key xs rest)

  entries_key : Entries → List ℤ → List ℤ
  entries_key no_entries rest = negsuc 0 ∷ rest
  entries_key (entry k x xs) rest = key k (key x (entries_key xs rest))

keys_cmp : List ℤ → List ℤ → Ordering
keys_cmp = slice_cmp int_cmp

then_assoc : (a b c : Ordering) → ordering_then (ordering_then a b) c ≡ ordering_then a (ordering_then b c)
then_assoc Less b c = refl
then_assoc Equal b c = refl
then_assoc Greater b c = refl

then_equal : (a : Ordering) → ordering_then a Equal ≡ a
then_equal Less = refl
then_equal Equal = refl
then_equal Greater = refl

pos_cmp : (a b : ℕ) → int_cmp (pos a) (pos b) ≡ nat_cmp a b
pos_cmp a b = grind (arith, nat_tests)

bytes_keyed : (a b : List ℕ) (r s : List ℤ) → keys_cmp (bytes_key a r) (bytes_key b s) ≡ ordering_then (slice_cmp nat_cmp a b) (keys_cmp r s)
unfolding keys_cmp
bytes_keyed [] [] r s = refl
bytes_keyed [] (b ∷ bs) r s = refl
bytes_keyed (a ∷ aa) [] r s = refl
bytes_keyed (a ∷ aa) (b ∷ bs) r s =
    (λ i. ordering_then (pos_cmp a b i) (bytes_keyed aa bs r s i)) ∙ sym (then_assoc (nat_cmp a b) (slice_cmp nat_cmp aa bs) (keys_cmp r s))

-- a closing number against the key of a value, which begins with its kind
closes_first : (y : Edn) (r s : List ℤ) → keys_cmp (negsuc 0 ∷ r) (key y s) ≡ Less
unfolding keys_cmp
closes_first nil r s = refl
closes_first y r s = refl

closes_last : (x : Edn) (r s : List ℤ) → keys_cmp (key x r) (negsuc 0 ∷ s) ≡ Greater
unfolding keys_cmp
closes_last nil r s = refl
closes_last x r s = refl

mutual
  unfolding keys_cmp

  keyed : (a b : Edn) (r s : List ℤ) → keys_cmp (key a r) (key b s) ≡ ordering_then (edn_cmp a b) (keys_cmp r s)
  keyed nil nil r s = refl
  keyed (boolean true) (boolean true) r s = refl
  keyed (boolean true) (boolean false) r s = refl
  keyed (boolean false) (boolean true) r s = refl
  keyed (boolean false) (boolean false) r s = refl
  keyed (int a) (int b) r s = refl
  keyed (string a) (string b) r s = bytes_keyed a b r s
  keyed (keyword a) (keyword b) r s = bytes_keyed a b r s
  keyed (symbol a) (symbol b) r s = bytes_keyed a b r s
  keyed (vector a) (vector b) r s = items_keyed a b r s
  keyed (set a) (set b) r s = items_keyed a b r s
  keyed (map a) (map b) r s = entries_keyed a b r s
  keyed a b r s = refl

  items_keyed : (a b : Items) (r s : List ℤ) → keys_cmp (items_key a r) (items_key b s) ≡ ordering_then (items_cmp a b) (keys_cmp r s)
  items_keyed no_items no_items r s = refl
  items_keyed no_items (item y ys) r s = closes_first y r (items_key ys s)
  items_keyed (item x xs) no_items r s = closes_last x (items_key xs r) s
  items_keyed (item x xs) (item y ys) r s =
      keyed x y (items_key xs r) (items_key ys s) ∙ ap (ordering_then (edn_cmp x y)) (items_keyed xs ys r s) ∙ sym (then_assoc (edn_cmp x y) (items_cmp xs ys) (keys_cmp r s))

  entries_keyed : (a b : Entries) (r s : List ℤ) → keys_cmp (entries_key a r) (entries_key b s) ≡ ordering_then (entries_cmp a b) (keys_cmp r s)
  entries_keyed no_entries no_entries r s = refl
  entries_keyed no_entries (entry l y ys) r s = closes_first l r (key y (entries_key ys s))
  entries_keyed (entry k x xs) no_entries r s = closes_last k (key x (entries_key xs r)) s
  entries_keyed (entry k x xs) (entry l y ys) r s =
      keyed k l (key x (entries_key xs r)) (key y (entries_key ys s)) ∙ ap (ordering_then (edn_cmp k l)) (keyed x y (entries_key xs r) (entries_key ys s)
      ∙ ap (ordering_then (edn_cmp x y)) (entries_keyed xs ys r s) ∙ sym (then_assoc (edn_cmp x y) (entries_cmp xs ys) (keys_cmp r s)))
      ∙ sym (then_assoc (edn_cmp k l) (ordering_then (edn_cmp x y) (entries_cmp xs ys)) (keys_cmp r s))

value_key : Edn → List ℤ
value_key x = key x []

by_keys : (a b : Edn) → edn_cmp a b ≡ keys_cmp (value_key a) (value_key b)
unfolding keys_cmp value_key
by_keys a b = sym (keyed a b [] [] ∙ then_equal (edn_cmp a b))

keys_total : IsTotalOrder (λ (a : Edn) (b : Edn). keys_cmp (value_key a) (value_key b))
unfolding keys_cmp
keys_total = on_total value_key (lists_total int_cmp_total)

pub edn_cmp_total : IsTotalOrder edn_cmp
edn_cmp_total = record {
  antisymm = λ x y. by_keys x y ∙ keys_total.antisymm x y ∙ ap ordering_reverse (sym (by_keys y x));
  trans = λ x y z p q. by_keys x z ∙ keys_total.trans x y z (sym (by_keys x y) ∙ p) (sym (by_keys y z) ∙ q);
  congr = λ x y z p. by_keys x z ∙ keys_total.congr x y z (sym (by_keys x y) ∙ p) ∙ sym (by_keys y z);
}

both_equal : (a b : Ordering) → ordering_then a b ≡ Equal → (a ≡ Equal) × (b ≡ Equal)
both_equal Less b e = cc
both_equal Equal b e = (refl, e)
both_equal Greater b e = cc

mutual
  pub edn_same : (a b : Edn) → edn_cmp a b ≡ Equal → a ≡ b
  edn_same nil nil e = refl
  edn_same (boolean true) (boolean true) e = refl
  edn_same (boolean false) (boolean false) e = refl
  edn_same (int a) (int b) e = ap int (int_cmp-IsAntisymmetric a b e)
  edn_same (string a) (string b) e = ap string (slice_cmp-IsAntisymmetric nat_cmp-IsAntisymmetric a b e)
  edn_same (keyword a) (keyword b) e = ap keyword (slice_cmp-IsAntisymmetric nat_cmp-IsAntisymmetric a b e)
  edn_same (symbol a) (symbol b) e = ap symbol (slice_cmp-IsAntisymmetric nat_cmp-IsAntisymmetric a b e)
  edn_same (vector a) (vector b) e = ap vector (items_same a b e)
  edn_same (set a) (set b) e = ap set (items_same a b e)
  edn_same (map a) (map b) e = ap map (entries_same a b e)
  edn_same a b e = cc

  items_same : (a b : Items) → items_cmp a b ≡ Equal → a ≡ b
  items_same no_items no_items e = refl
  items_same no_items (item y ys) e = cc
  items_same (item x xs) no_items e = cc
  items_same (item x xs) (item y ys) e = let p : (edn_cmp x y ≡ Equal) × (items_cmp xs ys ≡ Equal) = both_equal (edn_cmp x y) (items_cmp xs ys) e in
      λ i. item (edn_same x y p.0 i) (items_same xs ys p.1 i)

  entries_same : (a b : Entries) → entries_cmp a b ≡ Equal → a ≡ b
  entries_same no_entries no_entries e = refl
  entries_same no_entries (entry l y ys) e = cc
  entries_same (entry k x xs) no_entries e = cc
  entries_same (entry k x xs) (entry l y ys) e =
      let p : (edn_cmp k l ≡ Equal) × (ordering_then (edn_cmp x y) (entries_cmp xs ys) ≡ Equal) = both_equal (edn_cmp k l) (ordering_then (edn_cmp x y) (entries_cmp xs ys)) e in
      let q : (edn_cmp x y ≡ Equal) × (entries_cmp xs ys ≡ Equal) = both_equal (edn_cmp x y) (entries_cmp xs ys) p.1 in
      λ i. entry (edn_same k l p.0 i) (edn_same x y q.0 i) (entries_same xs ys q.1 i)

pub edn_eq : (a b : Edn) (t : Bool) → t ≡ eq_by_cmp edn_cmp a b → (IsTrue t → a ≡ b) × (a ≡ b → IsTrue t)
edn_eq a b t e =
    (λ h. edn_same a b ((Equal-is (edn_cmp a b)).0 (sym e ∙ h)), λ p. e ∙ ap is_eq (ap (edn_cmp a) (sym p) ∙ tied_itself edn_cmp_total a))

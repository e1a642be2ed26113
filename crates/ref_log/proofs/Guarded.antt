-- Watches that are added and taken away, and guards that are changed.
use Rattle.std.proofs.Common.{◌≡◌, ◌∙◌, ℕ, ◌||◌, Bool, true, false, cond, List, [], ◌∷◌, ◌++◌, length, take, refl, sym, ap}
use Rattle.std.specs.List.{filter, list_any}
use Rattle.std.specs.Ordering.{eq_by_cmp, is_eq}
use Rattle.std.proofs.lemmas.Bool.{or_parts}
use Rattle.std.proofs.lemmas.Cmp.{tied_itself}
use Rattle.std.proofs.lemmas.List.Folds.{list_any-append}
use Rattle.ref_value.specs.Edn.{Edn}
use Rattle.ref_value.specs.Order.{edn_cmp}
use Rattle.ref_value.specs.OrderLaws.{edn_cmp_total, edn_eq}
use Rattle.ref_log.specs.Watches.{AreDistinct, has_key, is_key}

-- ---- keys

not_both : {b : Bool} → b ≡ false → b ≡ true → ⊥
not_both isnt is = cc

both_none : (a b : Bool) → a ≡ false → b ≡ false → (a || b) ≡ false
both_none a b first second = rw (first, second) refl

-- whether a key is another's is asked either way round
other_way : (a b : Edn) → eq_by_cmp edn_cmp a b ≡ false → eq_by_cmp edn_cmp b a ≡ false
other_way a b isnt = by (eq_by_cmp edn_cmp b a) refl
  where
    by : (t : Bool) → eq_by_cmp edn_cmp b a ≡ t → t ≡ false
    by true is =
        let same : b ≡ a = (edn_eq b a true (sym is)).0 refl in
        let itself : eq_by_cmp edn_cmp a b ≡ true = ap (eq_by_cmp edn_cmp a) same ∙ ap is_eq (tied_itself edn_cmp_total a) in
        absurd (not_both isnt itself)
    by false is = refl

more_keys : (keys : List Edn) (key k : Edn) → has_key keys k ≡ false → is_key k key ≡ false → has_key (keys ++ key ∷ []) k ≡ false
more_keys keys key k none isnt = list_any-append (is_key k) keys (key ∷ []) ∙ both_none (has_key keys k) (is_key k key || false) none (both_none (is_key k key) false isnt refl)

pub distinct_more : (keys : List Edn) (key : Edn) → AreDistinct keys → has_key keys key ≡ false → AreDistinct (keys ++ key ∷ [])
distinct_more [] key distinct none = (refl, tt)
distinct_more (k ∷ ks) key distinct none =
    let parts = or_parts (is_key key k) (has_key ks key) none in
    (more_keys ks key k distinct.0 (other_way k key parts.0), distinct_more ks key distinct.1 parts.1)

none_left : (test p : Edn → Bool) (keys : List Edn) → list_any test keys ≡ false → list_any test (filter p keys) ≡ false
none_left test p [] none = refl
none_left test p (k ∷ ks) none =
    let parts = or_parts (test k) (list_any test ks) none in
    by (p k) parts.0 (none_left test p ks parts.1)
  where
    by : (b : Bool) → test k ≡ false → list_any test (filter p ks) ≡ false → list_any test (cond b (k ∷ filter p ks) (filter p ks)) ≡ false
    by true first rest = both_none (test k) (list_any test (filter p ks)) first rest
    by false first rest = rest

pub distinct_left : (p : Edn → Bool) (keys : List Edn) → AreDistinct keys → AreDistinct (filter p keys)
distinct_left p [] distinct = tt
distinct_left p (k ∷ ks) distinct = by (p k) (none_left (is_key k) p ks distinct.0) (distinct_left p ks distinct.1)
  where
    by : (b : Bool) → has_key (filter p ks) k ≡ false → AreDistinct (filter p ks) → AreDistinct (cond b (k ∷ filter p ks) (filter p ks))
    by true none rest = (none, rest)
    by false none rest = rest

-- ---- lists that begin as another

pub kept_more : {T : Type 0} (begins all more : List T) → take (length begins) all ≡ begins → take (length begins) (all ++ more) ≡ begins
kept_more [] all more kept = refl
kept_more (x ∷ xs) [] more kept = cc
kept_more (x ∷ xs) (y ∷ ys) more kept =
    let head : y ≡ x = cc in
    let rest : take (length xs) ys ≡ xs = cc in
    rw (head, kept_more xs ys more rest) refl

-- ---- rules that accept

-- The smallest of some refs of which something holds, found by one pass over them.
use Rattle.std.proofs.Common.{◌≡◌, ℕ, zero, suc, cond, ◌+◌, ◌<◌, ◌≤◌, ◌==◌, ◌&&◌, ◌||◌, not, nat_lt, Bool, true, false, if◌then◌else◌, ◌⊎◌, inl, inr, List, [], ◌∷◌, ◌++◌, length, take, get_or, subst, Option, None, Some, refl, sym, ap, ◌∙◌, arith}
use Rattle.std.specs.List.{find, range_with_len}
use Rattle.std.specs.Option.{MatchOption}
use Rattle.std.proofs.lemmas.Bool.{eqb-true, eq-eqb, or_cases, and_parts, and_from, or_left, or_right, both_ways, not-true, ltb-true, ltb-false, lt-ltb, le-ltb, cases_order, cond-true, cond-false, false_from_ne_true}
use Rattle.std.proofs.Math.Seq.{take-suc}
use Rattle.ref_value.specs.Edn.{Edn}
use Rattle.ref_log.specs.Replay.{is_commute, is_protected}
use Rattle.ref_log.specs.declared.operations.Done.{Done}
use Rattle.ref_refs.specs.Commit.{alien_ref, first_protected}
use Rattle.ref_refs.specs.Smaller.{is_new, is_this, known_after, smaller}
use Rattle.ref_refs.proofs.Refs.{all_here, among, among_more}

-- whether a number was found that isn't greater
abbrev pub covers : Option ℕ → ℕ → Bool
covers None q = false
covers (Some first) q = not (nat_lt q first)

-- what a pass over these refs has found
abbrev pub wanted : (ℕ → Bool) → List ℕ → ℕ → Bool
wanted holds rs r = among rs r && holds r

pub record IsFirst (holds : ℕ → Bool) (rs : List ℕ) (first : Option ℕ) : Type 0 where
  pub found : MatchOption first (Unit {0}) (λ m. wanted holds rs m ≡ true)
  pub least : (q : ℕ) → wanted holds rs q ≡ true → covers first q ≡ true

-- what was wanted of the refs before, is so of one more
still : (holds : ℕ → Bool) (rs : List ℕ) (x q : ℕ) → wanted holds rs q ≡ true → wanted holds (rs ++ x ∷ []) q ≡ true
still holds rs x q w =
    let p = and_parts (among rs q) (holds q) w in
    and_from (among (rs ++ x ∷ []) q) (holds q) (among_more rs x q ∙ or_left (among rs q) (x == q) p.0) p.1

-- and what is wanted of one more, was so before or is this ref
came : (holds : ℕ → Bool) (rs : List ℕ) (x q : ℕ) → wanted holds (rs ++ x ∷ []) q ≡ true → (wanted holds rs q ≡ true) ⊎ ((x ≡ q) × (holds x ≡ true))
came holds rs x q w =
    let p = and_parts (among (rs ++ x ∷ []) q) (holds q) w in
    came_by (or_cases (among rs q) (x == q) (sym (among_more rs x q) ∙ p.0)) p.1 where
      came_by : (among rs q ≡ true) ⊎ ((x == q) ≡ true) → holds q ≡ true → (wanted holds rs q ≡ true) ⊎ ((x ≡ q) × (holds x ≡ true))
      came_by (inl before) h = inl (and_from (among rs q) (holds q) before h)
      came_by (inr here) h = let same = eqb-true x q here in inr (same, ap holds same ∙ h)

smaller_here : (o : Option ℕ) (r : ℕ) → covers (Some (smaller o r)) r ≡ true
smaller_here None r = ap not (le-ltb r r (omega arith))
smaller_here (Some m) r = here (nat_lt m r) refl where
  here : (b : Bool) → nat_lt m r ≡ b → not (nat_lt r (if b then m else r)) ≡ true
  here true e = ap not (le-ltb r m (omega (arith, ltb-true m r e)))
  here false e = ap not (le-ltb r r (omega arith))

smaller_before : (o : Option ℕ) (r q : ℕ) → covers o q ≡ true → covers (Some (smaller o r)) q ≡ true
smaller_before None r q c = absurd (both_ways false refl c)
smaller_before (Some m) r q c = before (nat_lt m r) refl where
  before : (b : Bool) → nat_lt m r ≡ b → not (nat_lt q (if b then m else r)) ≡ true
  before true e = c
  before false e = ap not (le-ltb q r (omega (arith, ltb-false q m (not-true (nat_lt q m) c), ltb-false m r e)))

pub first_takes : (holds : ℕ → Bool) (rs : List ℕ) (x : ℕ) (first : Option ℕ) → IsFirst holds rs first → holds x ≡ true → IsFirst holds (rs ++ x ∷ []) (Some (smaller first x))
first_takes holds rs x first is it = record {
  found = taken first is.found;
  least = λ q w. by q (came holds rs x q w);
} where
  here : wanted holds (rs ++ x ∷ []) x ≡ true
  here = and_from (among (rs ++ x ∷ []) x) (holds x) (among_more rs x x ∙ or_right (among rs x) (x == x) (eq-eqb x x refl)) it

  taken : (o : Option ℕ) → MatchOption o (Unit {0}) (λ m. wanted holds rs m ≡ true) → wanted holds (rs ++ x ∷ []) (smaller o x) ≡ true
  taken None f = here
  taken (Some m) f = pick (nat_lt m x) where
    pick : (b : Bool) → wanted holds (rs ++ x ∷ []) (if b then m else x) ≡ true
    pick true = still holds rs x m f
    pick false = here

  by : (q : ℕ) → (wanted holds rs q ≡ true) ⊎ ((x ≡ q) × (holds x ≡ true)) → covers (Some (smaller first x)) q ≡ true
  by q (inl before) = smaller_before first x q (is.least q before)
  by q (inr on) = ap (λ y. covers (Some (smaller first x)) y) (sym on.0) ∙ smaller_here first x

-- ---- the first number of a range

pub find_first : (p : ℕ → Bool) (n a m : ℕ) → a ≤ m → m < a + n → p m ≡ true → ((q : ℕ) → q < m → p q ≡ false) → find p (range_with_len a n) ≡ Some m
find_first p zero a m low high it before = absurd (omega (arith, low, high))
find_first p (suc n) a m low high it before = at (cases_order a m) (λ l h. find_first p n (a + 1) m l h it before) where
  at : (a ≡ m) ⊎ ((a < m) ⊎ (m < a)) → (a + 1 ≤ m → m < a + 1 + n → find p (range_with_len (a + 1) n) ≡ Some m) → find p (range_with_len a (suc n)) ≡ Some m
  at (inl same) later = cond-true (p a) (Some a) (find p (range_with_len (a + 1) n)) (ap p same ∙ it) ∙ ap Some same
  at (inr (inl less)) later =
      cond-false (p a) (Some a) (find p (range_with_len (a + 1) n)) (before a less)
      ∙ later (omega (arith, less)) (omega (arith, high))
  at (inr (inr more)) later = absurd (omega (arith, low, more))

pub find_none : {X : Type 0} (p : X → Bool) (xs : List X) → ((x : X) → p x ≡ false) → find p xs ≡ None
find_none p [] never = refl
find_none p (x ∷ xs) never = cond-false (p x) (Some x) (find p xs) (never x) ∙ find_none p xs never

none_parts : {X : Type 0} (b : Bool) (x : X) (later : Option X) → cond b (Some x) later ≡ None → (b ≡ false) × (later ≡ None)
none_parts true x later e = absurd cc
none_parts false x later e = (refl, e)

pub none_in_range : (p : ℕ → Bool) (n a q : ℕ) → find p (range_with_len a n) ≡ None → a ≤ q → q < a + n → p q ≡ false
none_in_range p zero a q none low high = absurd (omega (arith, low, high))
none_in_range p (suc n) a q none low high =
    let parts = none_parts (p a) a (find p (range_with_len (a + 1) n)) none in
    at parts (cases_order a q) (λ l h. none_in_range p n (a + 1) q parts.1 l h) where
      at : (p a ≡ false) × (find p (range_with_len (a + 1) n) ≡ None) → (a ≡ q) ⊎ ((a < q) ⊎ (q < a)) → (a + 1 ≤ q → q < a + 1 + n → p q ≡ false) → p q ≡ false
      at parts (inl same) later = ap p (sym same) ∙ parts.0
      at parts (inr (inl less)) later = later (omega (arith, less)) (omega (arith, high))
      at parts (inr (inr more)) later = absurd (omega (arith, low, more))

-- ---- at the end of the pass

first_is : (holds : ℕ → Bool) (rs : List ℕ) (first : Option ℕ) (n : ℕ) → IsFirst holds rs first → ((q : ℕ) → among rs q ≡ true → q < n) → first ≡ find (wanted holds rs) (range_with_len 0 n)
first_is holds rs None n is here =
    sym (find_none (wanted holds rs) (range_with_len 0 n) (λ q. false_from_ne_true (wanted holds rs q) (λ w. both_ways false refl (is.least q w))))
first_is holds rs (Some m) n is here =
    sym (find_first (wanted holds rs) n 0 m (omega arith) (omega (arith, here m (and_parts (among rs m) (holds m) is.found).0)) is.found
    (λ q less. false_from_ne_true (wanted holds rs q) (λ w. both_ways (nat_lt q m) (not-true (nat_lt q m) (is.least q w)) (lt-ltb q m less))))

-- ---- the refs that operations protect, in the order of the operations

abbrev pub protecting : List Done → List ℕ
protecting [] = []
protecting (d ∷ ds) = if is_commute d.op then protecting ds else d.r ∷ protecting ds

are_protecting : (ds : List Done) (r : ℕ) → among (protecting ds) r ≡ is_protected ds r
are_protecting [] r = refl
are_protecting (d ∷ ds) r = by (is_commute d.op) ∙ ap (λ b. (d.r == r && not (is_commute d.op)) || b) (are_protecting ds r)
  where
    skip : (c x : Bool) → x ≡ ((c && false) || x)
    skip true x = refl
    skip false x = refl

    on : (c x : Bool) → (c || x) ≡ ((c && true) || x)
    on true x = refl
    on false x = refl

    by : (b : Bool) → among (if b then protecting ds else d.r ∷ protecting ds) r ≡ ((d.r == r && not b) || among (protecting ds) r)
    by true = skip (d.r == r) (among (protecting ds) r)
    by false = on (d.r == r) (among (protecting ds) r)

protecting_append : (ds : List Done) (d : Done) → protecting (ds ++ d ∷ []) ≡ (if is_commute d.op then protecting ds else protecting ds ++ d.r ∷ [])
protecting_append [] d = refl
protecting_append (x ∷ ds) d = ap (λ l. if is_commute x.op then l else x.r ∷ l) (protecting_append ds d) ∙ by (is_commute x.op) (is_commute d.op)
  where
    by : (b c : Bool) → (if b then (if c then protecting ds else protecting ds ++ d.r ∷ []) else x.r ∷ (if c then protecting ds else protecting ds ++ d.r ∷ []))
        ≡ (if c then (if b then protecting ds else x.r ∷ protecting ds) else (if b then protecting ds else x.r ∷ protecting ds) ++ d.r ∷ [])
    by true true = refl
    by true false = refl
    by false true = refl
    by false false = refl

protecting_next : (ds : List Done) (i : ℕ) (d : Done) → i < length ds → d ≡ get_or ds i d → protecting (take (i + 1) ds) ≡ (if is_commute d.op then protecting (take i ds) else protecting (take i ds) ++ d.r ∷ [])
protecting_next ds i d below at =
    let suc_of : i + 1 ≡ suc i = omega arith in
    ap protecting (ap (λ n. take n ds) suc_of ∙ take-suc ds i d below ∙ ap (λ x. take i ds ++ x ∷ []) (sym at)) ∙ protecting_append (take i ds) d

-- a ref of which nothing holds
first_stays : (holds : ℕ → Bool) (rs : List ℕ) (x : ℕ) (first : Option ℕ) → IsFirst holds rs first → holds x ≡ false → IsFirst holds (rs ++ x ∷ []) first
first_stays holds rs x first is not_it = record {
  found = stays first is.found;
  least = λ q w. by q (came holds rs x q w);
} where
  stays : (o : Option ℕ) → MatchOption o (Unit {0}) (λ m. wanted holds rs m ≡ true) → MatchOption o (Unit {0}) (λ m. wanted holds (rs ++ x ∷ []) m ≡ true)
  stays None f = tt
  stays (Some m) f = still holds rs x m f

  by : (q : ℕ) → (wanted holds rs q ≡ true) ⊎ ((x ≡ q) × (holds x ≡ true)) → covers first q ≡ true
  by q (inl before) = is.least q before
  by q (inr on) = absurd (both_ways (holds x) not_it on.1)

-- after one operation more
pub next_first : (holds : ℕ → Bool) (ds : List Done) (i : ℕ) (d : Done) (first : Option ℕ) (b : Bool) → i < length ds → d ≡ get_or ds i d → IsFirst holds (protecting (take i ds)) first
    → b ≡ (not (is_commute d.op) && holds d.r) → IsFirst holds (protecting (take (i + 1) ds)) (if b then Some (smaller first d.r) else first)
next_first holds ds i d first b below at is tested =
    subst (λ l. IsFirst holds l (if b then Some (smaller first d.r) else first)) (sym (protecting_next ds i d below at)) (by (is_commute d.op) (holds d.r) refl b tested)
  where
    by : (commutes it : Bool) → holds d.r ≡ it → (test : Bool) → test ≡ (not commutes && it) → IsFirst holds (if commutes then protecting (take i ds) else protecting (take i ds) ++ d.r ∷ []) (if test then Some (smaller first d.r) else first)
    by true it e true t = absurd cc
    by true it e false t = is
    by false true e true t = first_takes holds (protecting (take i ds)) d.r first is e
    by false true e false t = absurd cc
    by false false e true t = absurd cc
    by false false e false t = first_stays holds (protecting (take i ds)) d.r first is e

-- where these are the refs that a transaction protects
first_among : (values : List Edn) (ds : List Done) (rs : List ℕ) (holds : ℕ → Bool) (first : Option ℕ) → ((r : ℕ) → among rs r ≡ is_protected ds r) → alien_ref values ds ≡ None → IsFirst holds rs first → first ≡ first_protected values ds holds
first_among values ds rs holds first are here is =
    first_is holds rs first (length values) is (λ q it. all_here values ds here q (sym (are q) ∙ it))
    ∙ ap (λ (p : ℕ → Bool). find p (range_with_len 0 (length values))) (λ i q. are q i && holds q)

pub first_protected_is : (values : List Edn) (ds : List Done) (holds : ℕ → Bool) (first : Option ℕ) → alien_ref values ds ≡ None → IsFirst holds (protecting ds) first → first ≡ first_protected values ds holds
first_protected_is values ds holds first here is = first_among values ds (protecting ds) holds first (are_protecting ds) here is

-- none of which more holds
pub none_of : (holds more : ℕ → Bool) (rs : List ℕ) → ((r : ℕ) → more r ≡ true → holds r ≡ true) → IsFirst holds rs None → IsFirst more rs None
none_of holds more rs implies is = record {
  found = tt;
  least = λ q w. let p = and_parts (among rs q) (more q) w in is.least q (and_from (among rs q) (holds q) p.0 (implies q p.1));
}

pub none_yet : (holds : ℕ → Bool) → IsFirst holds [] None
none_yet holds = record { found = tt; least = λ q w. absurd cc }

-- ---- where a ref that is known isn't looked at again

abbrev pub IsKnown : List ℕ → Option ℕ → Type 0
IsKnown rs None = Unit {0}
IsKnown rs (Some r) = among rs r ≡ true

-- one that is among them already
first_again : (holds : ℕ → Bool) (rs : List ℕ) (x : ℕ) (first : Option ℕ) → IsFirst holds rs first → among rs x ≡ true → IsFirst holds (rs ++ x ∷ []) first
first_again holds rs x first is here = record {
  found = stays first is.found;
  least = λ q w. is.least q (by q (came holds rs x q w));
} where
  stays : (o : Option ℕ) → MatchOption o (Unit {0}) (λ m. wanted holds rs m ≡ true) → MatchOption o (Unit {0}) (λ m. wanted holds (rs ++ x ∷ []) m ≡ true)
  stays None f = tt
  stays (Some m) f = still holds rs x m f

  by : (q : ℕ) → (wanted holds rs q ≡ true) ⊎ ((x ≡ q) × (holds x ≡ true)) → wanted holds rs q ≡ true
  by q (inl before) = before
  by q (inr on) = and_from (among rs q) (holds q) (ap (among rs) (sym on.0) ∙ here) (ap holds (sym on.0) ∙ on.1)

this_is : (rs : List ℕ) (known : Option ℕ) (r : ℕ) → IsKnown rs known → is_this known r ≡ true → among rs r ≡ true
this_is rs None r is same = absurd (both_ways false refl same)
this_is rs (Some k) r is same = ap (among rs) (sym (eqb-true k r same)) ∙ is

-- after one operation more
pub next_new : (holds : ℕ → Bool) (ds : List Done) (i : ℕ) (d : Done) (first known : Option ℕ) (b : Bool) → i < length ds → d ≡ get_or ds i d → IsFirst holds (protecting (take i ds)) first
    → IsKnown (protecting (take i ds)) known → b ≡ (is_new known d && holds d.r) → IsFirst holds (protecting (take (i + 1) ds)) (if b then Some (smaller first d.r) else first)
next_new holds ds i d first known b below at is known_is tested =
    subst (λ l. IsFirst holds l (if b then Some (smaller first d.r) else first)) (sym (protecting_next ds i d below at)) (by (is_commute d.op) (is_this known d.r) (holds d.r) refl refl b tested)
  where
    by : (commutes same it : Bool) → is_this known d.r ≡ same → holds d.r ≡ it → (test : Bool) → test ≡ ((not commutes && not same) && it) → IsFirst holds (if commutes then protecting (take i ds) else protecting (take i ds) ++ d.r ∷ []) (if test then Some (smaller first d.r) else first)
    by true same it this e true t = absurd cc
    by true same it this e false t = is
    by false true it this e true t = absurd cc
    by false true it this e false t = first_again holds (protecting (take i ds)) d.r first is (this_is (protecting (take i ds)) known d.r known_is this)
    by false false true this e true t = first_takes holds (protecting (take i ds)) d.r first is e
    by false false true this e false t = absurd cc
    by false false false this e true t = absurd cc
    by false false false this e false t = first_stays holds (protecting (take i ds)) d.r first is e

pub next_known : (ds : List Done) (i : ℕ) (d : Done) (known : Option ℕ) → i < length ds → d ≡ get_or ds i d → IsKnown (protecting (take i ds)) known → IsKnown (protecting (take (i + 1) ds)) (known_after known d)
next_known ds i d known below at is = subst (λ l. IsKnown l (known_after known d)) (sym (protecting_next ds i d below at)) (by (is_commute d.op)) where
  by : (b : Bool) → IsKnown (if b then protecting (take i ds) else protecting (take i ds) ++ d.r ∷ []) (if b then known else Some d.r)
  by true = is
  by false = among_more (protecting (take i ds)) d.r d.r ∙ or_right (among (protecting (take i ds)) d.r) (d.r == d.r) (eq-eqb d.r d.r refl)

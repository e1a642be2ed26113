-- When a book is full, in plain words.
use Rattle.std.proofs.Common.{◌≡◌, ℕ, pos, cond, ◌+◌, ◌<◌, ◌≤◌, ◌==◌, ◌||◌, nat_lt, Bool, true, false, ◌⊎◌, inl, inr, List, [], ◌∷◌, Option, None, Some, refl, sym, ap, subst, ◌∙◌, arith}
use Rattle.std.specs.List.{AllByRecursion}
use Rattle.std.proofs.lemmas.Bool.{eq-eqb, eqb-false, eqb-true, le-ltb, lt-ltb, ltb-false, ltb-true}
use Rattle.ref_value.specs.Edn.{Edn, int}
use Rattle.ref_log.specs.Tally.{code_of, counted, is_tally, moved_by, moved_by_dones}
use Rattle.ref_log.specs.declared.counting.Side.{Side}
use Rattle.ref_log.specs.declared.counting.Side.TheVariants.{Added, Taken}
use Rattle.ref_log.specs.declared.operations.Done.{Done}
use Rattle.ref_log.specs.declared.operations.Op.{Op}
use Rattle.ref_log.specs.declared.operations.Op.TheVariants.{Set, Alter, Commute, Ensure}
use Rattle.ref_refs.specs.Commit.{full_book}
use Rattle.ref_refs.specs.declared.faults.CommitFault.{CommitFault}
use Rattle.ref_refs.specs.declared.faults.CommitFault.TheVariants.{BookFull}
use Rattle.ref_play.specs.Plain.{Counts, SumsTo}

-- ---- how far one operation moves the tally

abbrev moved_at : Side → Option ℕ → ℕ → Op → ℕ
moved_at side tally r op = cond (is_tally tally r) (moved_by side op) 0

abbrev Moves : Side → Option ℕ → ℕ → Op → ℕ → Type 0
Moves side tally r op n = (tally ≡ Some r) × (op ≡ Commute (code_of side) (int (pos n) ∷ []))

abbrev Leaves : Side → Option ℕ → ℕ → Op → Type 0
Leaves side tally r op = tally ≡ Some r → (args : List Edn) → op ≡ Commute (code_of side) args → ⊥

moves_by : (side : Side) (tally : Option ℕ) (r : ℕ) (op : Op) (n : ℕ) → Moves side tally r op n → moved_at side tally r op ≡ n
moves_by side tally r op n is =
    ap (λ t. moved_at side t r op) is.0
    ∙ (ap (moved_at side (Some r) r) is.1
    ∙ (ap (λ b. cond b (moved_by side (Commute (code_of side) (int (pos n) ∷ []))) 0) (eq-eqb r r refl)
    ∙ ap (λ b. cond b n 0) (eq-eqb (code_of side) (code_of side) refl)))

leaves_by : (side : Side) (tally : Option ℕ) (r : ℕ) (op : Op) → Leaves side tally r op → moved_at side tally r op ≡ 0
leaves_by side None r op never = refl
leaves_by side (Some t) r op never = here (t == r) refl where
  by : (o : Op) → op ≡ o → t ≡ r → moved_by side o ≡ 0
  by (Set w) e same = refl
  by (Alter code args) e same = refl
  by Ensure e same = refl
  by (Commute code args) e same = one (code == code_of side) refl where
    one : (b : Bool) → (code == code_of side) ≡ b → cond b (counted args) 0 ≡ 0
    one true f = absurd (never (ap Some same) args (e ∙ ap (λ c. Commute c args) (eqb-true code (code_of side) f)))
    one false f = refl

  here : (b : Bool) → (t == r) ≡ b → cond b (moved_by side op) 0 ≡ 0
  here true e = by op refl (eqb-true t r e)
  here false e = refl

either : (side : Side) (tally : Option ℕ) (r : ℕ) (op : Op) → (tally ≡ Some r → Counts op) → ((n : ℕ) × Moves side tally r op n) ⊎ Leaves side tally r op
either side None r op counts = inr (λ same. absurd cc)
either side (Some t) r op counts = here (t == r) refl where
  by : (o : Op) → op ≡ o → t ≡ r → Counts o → ((n : ℕ) × Moves side (Some t) r op n) ⊎ Leaves side (Some t) r op
  by (Set w) e same c = inr (λ is args f. let no = sym e ∙ f in absurd cc)
  by (Alter code args) e same c = inr (λ is others f. let no = sym e ∙ f in absurd cc)
  by Ensure e same c = inr (λ is args f. let no = sym e ∙ f in absurd cc)
  by (Commute code args) e same c = one (code == code_of side) refl where
    one : (b : Bool) → (code == code_of side) ≡ b → ((n : ℕ) × Moves side (Some t) r op n) ⊎ Leaves side (Some t) r op
    one true f = inl (c.1.0, (ap Some same, e ∙ (ap (λ k. Commute k args) (eqb-true code (code_of side) f) ∙ ap (Commute (code_of side)) c.1.1)))
    one false f = inr (λ is others g. let codes : code ≡ code_of side = (let both = sym e ∙ g in cc) in absurd (eqb-false code (code_of side) f codes))

  here : (b : Bool) → (t == r) ≡ b → ((n : ℕ) × Moves side (Some t) r op n) ⊎ Leaves side (Some t) r op
  here true e = let same = eqb-true t r e in by op refl same (counts (ap Some same))
  here false e = inr (λ is. let same : t ≡ r = cc in absurd (eqb-false t r e same))

-- ---- the sum of all

pub sum_is : (side : Side) (tally : Option ℕ) (ds : List Done) (sum : ℕ) → SumsTo tally (code_of side) ds sum → sum ≡ moved_by_dones side tally ds
sum_is side tally [] sum is = is
sum_is side tally (d ∷ ds) sum (inl (n, rest, here, op, more, all)) =
    let one = moves_by side tally d.r d.op n (here, op) in
    let later = sum_is side tally ds rest more in
    omega (arith, one, later, all)
sum_is side tally (d ∷ ds) sum (inr (never, more)) =
    let one = leaves_by side tally d.r d.op never in
    let later = sum_is side tally ds sum more in
    omega (arith, one, later)

one_more : (side : Side) (tally : Option ℕ) (d : Done) (ds : List Done) → ((n : ℕ) × Moves side tally d.r d.op n) ⊎ Leaves side tally d.r d.op
    → SumsTo tally (code_of side) ds (moved_by_dones side tally ds) → SumsTo tally (code_of side) (d ∷ ds) (moved_by_dones side tally (d ∷ ds))
one_more side tally d ds (inl (n, (here, op))) rest = inl (n, moved_by_dones side tally ds, here, op, rest, ap (λ k. k + moved_by_dones side tally ds) (moves_by side tally d.r d.op n (here, op)))
one_more side tally d ds (inr never) rest =
    let one = leaves_by side tally d.r d.op never in
    let same : moved_by_dones side tally ds ≡ moved_by_dones side tally (d ∷ ds) = omega (arith, one) in
    inr (never, subst (SumsTo tally (code_of side) ds) same rest)

pub sums_to : (side : Side) (tally : Option ℕ) (ds : List Done) → AllByRecursion (λ d. tally ≡ Some d.r → Counts d.op) ds → SumsTo tally (code_of side) ds (moved_by_dones side tally ds)
sums_to side tally [] all = refl
sums_to side tally (d ∷ ds) all = one_more side tally d ds (either side tally d.r d.op all.0) (sums_to side tally ds all.1)

-- ---- a full book

pub not_full : (most_added most_taken : ℕ) (tally : Option ℕ) (ds : List Done) → full_book most_added most_taken tally ds ≡ None → (moved_by_dones Added tally ds ≤ most_added) × (moved_by_dones Taken tally ds ≤ most_taken)
not_full most_added most_taken tally ds none = by (nat_lt most_added (moved_by_dones Added tally ds)) refl (nat_lt most_taken (moved_by_dones Taken tally ds)) refl none where
  by : (a : Bool) → nat_lt most_added (moved_by_dones Added tally ds) ≡ a → (t : Bool) → nat_lt most_taken (moved_by_dones Taken tally ds) ≡ t → cond (a || t) (Some BookFull) None ≡ None → (moved_by_dones Added tally ds ≤ most_added) × (moved_by_dones Taken tally ds ≤ most_taken)
  by true e t f none = absurd cc
  by false e true f none = absurd cc
  by false e false f none = (ltb-false most_added (moved_by_dones Added tally ds) e, ltb-false most_taken (moved_by_dones Taken tally ds) f)

pub has_room : (most_added most_taken : ℕ) (tally : Option ℕ) (ds : List Done) → moved_by_dones Added tally ds ≤ most_added → moved_by_dones Taken tally ds ≤ most_taken → full_book most_added most_taken tally ds ≡ None
has_room most_added most_taken tally ds up down =
    ap (λ b. cond (b || nat_lt most_taken (moved_by_dones Taken tally ds)) (Some BookFull) None) (le-ltb most_added (moved_by_dones Added tally ds) up)
    ∙ ap (λ b. cond b (Some BookFull) None) (le-ltb most_taken (moved_by_dones Taken tally ds) down)

pub full_by : (most_added most_taken : ℕ) (tally : Option ℕ) (ds : List Done) (fault : CommitFault) → full_book most_added most_taken tally ds ≡ Some fault
    → (BookFull ≡ fault) × ((most_added < moved_by_dones Added tally ds) ⊎ (most_taken < moved_by_dones Taken tally ds))
full_by most_added most_taken tally ds fault is = by (nat_lt most_added (moved_by_dones Added tally ds)) refl (nat_lt most_taken (moved_by_dones Taken tally ds)) refl is where
  by : (a : Bool) → nat_lt most_added (moved_by_dones Added tally ds) ≡ a → (t : Bool) → nat_lt most_taken (moved_by_dones Taken tally ds) ≡ t → cond (a || t) (Some BookFull) None ≡ Some fault
      → (BookFull ≡ fault) × ((most_added < moved_by_dones Added tally ds) ⊎ (most_taken < moved_by_dones Taken tally ds))
  by true e t f is = (cc, inl (ltb-true most_added (moved_by_dones Added tally ds) e))
  by false e true f is = (cc, inr (ltb-true most_taken (moved_by_dones Taken tally ds) f))
  by false e false f is = absurd cc

pub by_full : (most_added most_taken : ℕ) (tally : Option ℕ) (ds : List Done) → (most_added < moved_by_dones Added tally ds) ⊎ (most_taken < moved_by_dones Taken tally ds) → full_book most_added most_taken tally ds ≡ Some BookFull
by_full most_added most_taken tally ds (inl up) = ap (λ b. cond (b || nat_lt most_taken (moved_by_dones Taken tally ds)) (Some BookFull) None) (lt-ltb most_added (moved_by_dones Added tally ds) up)
by_full most_added most_taken tally ds (inr down) = by (nat_lt most_added (moved_by_dones Added tally ds)) (lt-ltb most_taken (moved_by_dones Taken tally ds) down) where
  by : (a : Bool) → nat_lt most_taken (moved_by_dones Taken tally ds) ≡ true → cond (a || nat_lt most_taken (moved_by_dones Taken tally ds)) (Some BookFull) None ≡ Some BookFull
  by true e = refl
  by false e = ap (λ b. cond b (Some BookFull) None) e

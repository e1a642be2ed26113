-- Tables of names: what one name more tells, and when a name is free.
use Rattle.std.proofs.Common.{◌≡◌, ℕ, Bool, true, false, ◌&&◌, ◌⊎◌, inl, inr, zero, suc, List, [], ◌∷◌, ◌++◌, Option, None, Some, IfSome, cond, length, nat_eq, refl, sym, ◌∙◌, ap, subst, slice_get}
use Rattle.std.proofs.lemmas.Cmp.{nat_list_eq_equiv}
use Rattle.std.specs.Cmp.Lexicographic.{pointwise, same_text}
use Rattle.ref_value.specs.Names.{bytes_eq}
use Rattle.ref_forms.specs.Names.{NamesSeen}
use Rattle.ref_log.specs.declared.notices.Who.{Who}
use Rattle.ref_log.specs.declared.notices.Who.TheVariants.{Ref, Atom, Agent}
use Rattle.ref_plan.specs.Named.{AreApart, IsNamed, name_of}
use Rattle.ref_plan.specs.Tables.{Adds, Knows, Table, found, refs_alone, refs_and_atoms}

-- ---- the bytes of names

-- what tests words tests names, too
pub same_bytes : (xs ys : List ℕ) → bytes_eq xs ys ≡ pointwise nat_eq xs ys
same_bytes [] [] = refl
same_bytes [] (y ∷ ys) = refl
same_bytes (x ∷ xs) [] = refl
same_bytes (x ∷ xs) (y ∷ ys) = ap (λ b. nat_eq x y && b) (same_bytes xs ys)

-- ---- lists by number

pub get_seam : {A : Type 0} (xs : List A) (x : A) (ys : List A) → slice_get (xs ++ x ∷ ys) (length xs) ≡ Some x
get_seam [] x ys = refl
get_seam (y ∷ xs) x ys = get_seam xs x ys

pub get_end : {A : Type 0} (xs : List A) → slice_get xs (length xs) ≡ None
get_end [] = refl
get_end (y ∷ xs) = get_end xs

-- what stands in a list stands in a longer one
pub get_longer : {A : Type 0} (xs ys : List A) (i : ℕ) (a : A) → slice_get xs i ≡ Some a → slice_get (xs ++ ys) i ≡ Some a
get_longer [] ys i a e = cc
get_longer (x ∷ xs) ys zero a e = e
get_longer (x ∷ xs) ys (suc i) a e = get_longer xs ys i a e

-- what stands in a list of one more stood there before, or is the last
get_shorter : {A : Type 0} (xs : List A) (x : A) (i : ℕ) (a : A) → slice_get (xs ++ x ∷ []) i ≡ Some a → (slice_get xs i ≡ Some a) ⊎ ((i ≡ length xs) × (x ≡ a))
get_shorter [] x zero a e = inr (refl, cc)
get_shorter [] x (suc i) a e = cc
get_shorter (y ∷ xs) x zero a e = inl e
get_shorter (y ∷ xs) x (suc i) a e = elim (get_shorter xs x i a e) [ inl h ↦ inl h | inr h ↦ inr (ap (λ n. suc n) h.0, h.1) ]

-- ---- a name more

-- One reference more has a name.
pub record Grows (names : NamesSeen) (name : List ℕ) (who : Who) (more : NamesSeen) : Type 0 where
  pub before : (w : Who) (m : List ℕ) → IsNamed names w m → IsNamed more w m
  pub here : IsNamed more who name
  pub no_other : (w : Who) (m : List ℕ) → IsNamed more w m → IsNamed names w m ⊎ ((w ≡ who) × (name ≡ m))

same_name : (x y : List ℕ) → pointwise nat_eq x y ≡ true → x ≡ y
same_name x y e = same_text x y (sym e)

module _ (old new : Table) (names more : NamesSeen) (name : List ℕ) (who : Who) (k : Knows old names) (adds : Adds old name who new) (grows : Grows names name who more) where
  found_by : (m : List ℕ) (b : Bool) → pointwise nat_eq name m ≡ b → found new m ≡ cond b (Some who) (found old m)
  found_by m b e = adds.added m ∙ ap (λ t. cond t (Some who) (found old m)) e

  has_old : (m : List ℕ) (w : Who) (b : Bool) → pointwise nat_eq name m ≡ b → IsNamed names w m → found new m ≡ Some w
  has_old m w true e h =
      let same = same_name name m e in
      let there : found old name ≡ Some w = ap (found old) same ∙ k.has m w h in
      let absent = adds.absent in
      absurd (let none : ⊥ = cc in none)
  has_old m w false e h = found_by m false e ∙ k.has m w h

  has_new : found new name ≡ Some who
  has_new = found_by name true (nat_list_eq_equiv.refl name)

  has : (m : List ℕ) (w : Who) → IsNamed more w m → found new m ≡ Some w
  has m w h = elim (grows.no_other w m h) [
    | inl n ↦ has_old m w (pointwise nat_eq name m) refl n
    | inr s ↦ subst (λ v. found new m ≡ Some v) (sym s.0) (subst (λ n. found new n ≡ Some who) s.1 has_new)
  ]

  tells_by : (m : List ℕ) (w : Who) (b : Bool) → pointwise nat_eq name m ≡ b → found new m ≡ Some w → IsNamed more w m
  tells_by m w true e h =
      let same = same_name name m e in
      let somes : Some who ≡ Some w = sym (found_by m true e) ∙ h in
      let whos : who ≡ w = cc in
      subst (λ v. IsNamed more v m) whos (subst (λ n. IsNamed more who n) same grows.here)
  tells_by m w false e h = grows.before w m (k.tells m w (sym (found_by m false e) ∙ h))

  pub knows_more : Knows new more
  knows_more = record { has = has; tells = λ m w h. tells_by m w (pointwise nat_eq name m) refl h }

-- ---- one more of a kind

module _ (refs : List (List ℕ)) (name : List ℕ) where
  ref_before : (w : Who) (m : List ℕ) → IsNamed (refs_alone refs) w m → IsNamed (refs_alone (refs ++ name ∷ [])) w m
  ref_before (Ref r) m h = get_longer refs (name ∷ []) r m h
  ref_before (Atom a) m h = h
  ref_before (Agent g) m h = h

  ref_no_other : (w : Who) (m : List ℕ) → IsNamed (refs_alone (refs ++ name ∷ [])) w m → IsNamed (refs_alone refs) w m ⊎ ((w ≡ Ref (length refs)) × (name ≡ m))
  ref_no_other (Ref r) m h = elim (get_shorter refs name r m h) [ inl p ↦ inl p | inr p ↦ inr (ap Ref p.0, p.1) ]
  ref_no_other (Atom a) m h = inl h
  ref_no_other (Agent g) m h = inl h

  pub grows_ref : Grows (refs_alone refs) name (Ref (length refs)) (refs_alone (refs ++ name ∷ []))
  grows_ref = record { before = ref_before; here = get_seam refs name []; no_other = ref_no_other }

module _ (refs atoms : List (List ℕ)) (name : List ℕ) where
  atom_before : (w : Who) (m : List ℕ) → IsNamed (refs_and_atoms refs atoms) w m → IsNamed (refs_and_atoms refs (atoms ++ name ∷ [])) w m
  atom_before (Ref r) m h = h
  atom_before (Atom a) m h = get_longer atoms (name ∷ []) a m h
  atom_before (Agent g) m h = h

  atom_no_other : (w : Who) (m : List ℕ) → IsNamed (refs_and_atoms refs (atoms ++ name ∷ [])) w m → IsNamed (refs_and_atoms refs atoms) w m ⊎ ((w ≡ Atom (length atoms)) × (name ≡ m))
  atom_no_other (Ref r) m h = inl h
  atom_no_other (Atom a) m h = elim (get_shorter atoms name a m h) [ inl p ↦ inl p | inr p ↦ inr (ap Atom p.0, p.1) ]
  atom_no_other (Agent g) m h = inl h

  pub grows_atom : Grows (refs_and_atoms refs atoms) name (Atom (length atoms)) (refs_and_atoms refs (atoms ++ name ∷ []))
  grows_atom = record { before = atom_before; here = get_seam atoms name []; no_other = atom_no_other }

-- names of references of all kinds
abbrev pub all_names : List (List ℕ) → List (List ℕ) → List (List ℕ) → NamesSeen
all_names refs atoms agents = record { refs = refs; atoms = atoms; agents = agents }

module _ (refs atoms agents : List (List ℕ)) (name : List ℕ) where
  agent_before : (w : Who) (m : List ℕ) → IsNamed (all_names refs atoms agents) w m → IsNamed (all_names refs atoms (agents ++ name ∷ [])) w m
  agent_before (Ref r) m h = h
  agent_before (Atom a) m h = h
  agent_before (Agent g) m h = get_longer agents (name ∷ []) g m h

  agent_no_other : (w : Who) (m : List ℕ) → IsNamed (all_names refs atoms (agents ++ name ∷ [])) w m → IsNamed (all_names refs atoms agents) w m ⊎ ((w ≡ Agent (length agents)) × (name ≡ m))
  agent_no_other (Ref r) m h = inl h
  agent_no_other (Atom a) m h = inl h
  agent_no_other (Agent g) m h = elim (get_shorter agents name g m h) [ inl p ↦ inl p | inr p ↦ inr (ap Agent p.0, p.1) ]

  pub grows_agent : Grows (all_names refs atoms agents) name (Agent (length agents)) (all_names refs atoms (agents ++ name ∷ []))
  grows_agent = record { before = agent_before; here = get_seam agents name []; no_other = agent_no_other }

-- ---- free names

-- A name that another reference has, where no two have one name, isn't in a table of some of the others.
module _ (table : Table) (names all : NamesSeen) (who : Who) (name : List ℕ) (k : Knows table names) (extends : (w : Who) (m : List ℕ) → IsNamed names w m → IsNamed all w m)
    (fresh : name_of names who ≡ None) (named : IsNamed all who name) (apart : AreApart all) where
  free_by : (w : Option Who) → found table name ≡ w → found table name ≡ None
  free_by None e = e
  free_by (Some w) e =
      let there = k.tells name w e in
      let same = apart w who name (extends w name there) named in
      let both : name_of names who ≡ Some name = subst (λ v. name_of names v ≡ Some name) same there in
      absurd (let none : ⊥ = cc in none)

  pub free : found table name ≡ None
  free = free_by (found table name) refl

-- ---- a whole table

module _ (table : Table) (names : NamesSeen) (k : Knows table names) where
  pub are_apart : AreApart names
  are_apart a b name p q =
      let somes : Some a ≡ Some b = sym (k.has name a p) ∙ k.has name b q in
      cc

  pub told : (name : List ℕ) (answer : Option Who) → answer ≡ found table name → IfSome answer (λ who. IsNamed names who name)
  told name None e = tt
  told name (Some w) e = k.tells name w (sym e)

-- equal names
pub with_refs : (table : Table) (refs refs' : List (List ℕ)) → refs ≡ refs' → Knows table (refs_alone refs) → Knows table (refs_alone refs')
with_refs table refs refs' e k = subst (λ l. Knows table (refs_alone l)) e k

pub with_both : (table : Table) (refs refs' atoms atoms' : List (List ℕ)) → refs ≡ refs' → atoms ≡ atoms' → Knows table (refs_and_atoms refs atoms) → Knows table (refs_and_atoms refs' atoms')
with_both table refs refs' atoms atoms' e f k = subst (λ l. Knows table (refs_and_atoms l atoms')) e (subst (λ l. Knows table (refs_and_atoms refs l)) f k)

-- A loop over forms that declare: what they declare, as far as it has come.
use Rattle.std.proofs.Common.{◌≡◌, ℕ, ◌+◌, ◌<◌, ◌≤◌, List, [], ◌∷◌, ◌++◌, drop, length, get_or, refl, sym, subst, ◌∙◌, ap, suc, add-one, append_assoc, append-nil, drop-cons, Option, Some}
use Rattle.std.proofs.lemmas.List.{drop_all}
use Rattle.ref_value.specs.Edn.{Edn}
use Rattle.ref_plan.specs.Declarations.{AreDeclared}
use Rattle.ref_plan.specs.Laws.{one_said}

-- the names and starts of all forms begin with those that were found
pub record Begins {S : Type 0} (said : Edn → Option (List ℕ × S)) (rest : List Edn) (names all_names : List (List ℕ)) (starts all_starts : List S) : Type 0 where
  pub more_names : List (List ℕ)
  pub more_starts : List S
  pub names_are : all_names ≡ names ++ more_names
  pub starts_are : all_starts ≡ starts ++ more_starts
  pub others : AreDeclared said rest more_names more_starts

-- What was found goes on to all that the forms declare, and whatever all the forms may declare begins with what was found.
pub record Collects {S : Type 0} (said : Edn → Option (List ℕ × S)) (all rest : List Edn) (names : List (List ℕ)) (starts : List S) : Type 0 where
  pub sound : (more_names : List (List ℕ)) (more_starts : List S) → AreDeclared said rest more_names more_starts → AreDeclared said all (names ++ more_names) (starts ++ more_starts)
  pub tied : (all_names : List (List ℕ)) (all_starts : List S) → AreDeclared said all all_names all_starts → Begins said rest names all_names starts all_starts

-- the next of what is declared, and the others behind it
pub record IsNext {S : Type 0} (said : Edn → Option (List ℕ × S)) (x : Edn) (rest : List Edn) (names : List (List ℕ)) (starts : List S) : Type 0 where
  pub name : List ℕ
  pub start : S
  pub more_names : List (List ℕ)
  pub more_starts : List S
  pub names_are : names ≡ name ∷ more_names
  pub starts_are : starts ≡ start ∷ more_starts
  pub says : said x ≡ Some (name, start)
  pub others : AreDeclared said rest more_names more_starts

module _ {S : Type 0} (said : Edn → Option (List ℕ × S)) (all : List Edn) where
  from_next : (i : ℕ) (x : Edn) → i < length all → x ≡ get_or all i x → drop i all ≡ x ∷ drop (i + 1) all
  from_next i x h is = rw (add-one) (drop-cons all i x h ∙ ap (λ y. y ∷ drop (suc i) all) (sym is))

  next_of : (x : Edn) (rest : List Edn) (names : List (List ℕ)) (starts : List S) → AreDeclared said (x ∷ rest) names starts → IsNext said x rest names starts
  next_of x rest [] starts h = absurd h
  next_of x rest (n ∷ ns) [] h = absurd h
  next_of x rest (n ∷ ns) (s ∷ ss) h = record { name = n; start = s; more_names = ns; more_starts = ss; names_are = refl; starts_are = refl; says = h.0; others = h.1 }

  module _ (i : ℕ) (x : Edn) (names : List (List ℕ)) (starts : List S) (c : Collects said all (drop i all) names starts) (within : i < length all) (is : x ≡ get_or all i x) where
    here : Collects said all (x ∷ drop (i + 1) all) names starts
    here = subst (λ l. Collects said all l names starts) (from_next i x within is) c

    -- what all the forms may declare has a next one
    pub next : (all_names : List (List ℕ)) (all_starts : List S) → AreDeclared said all all_names all_starts
        → (b : Begins said (x ∷ drop (i + 1) all) names all_names starts all_starts) × IsNext said x (drop (i + 1) all) b.more_names b.more_starts
    next all_names all_starts h =
        let b = here.tied all_names all_starts h in
        (b, next_of x (drop (i + 1) all) b.more_names b.more_starts b.others)

    module _ (name : List ℕ) (start : S) (says : said x ≡ Some (name, start)) where
      one_more : (all_names : List (List ℕ)) (all_starts : List S) → AreDeclared said all all_names all_starts
          → Begins said (drop (i + 1) all) (names ++ name ∷ []) all_names (starts ++ start ∷ []) all_starts
      one_more all_names all_starts h =
          let (b, n) = next all_names all_starts h in
          let same = one_said (said x) n.name name n.start start n.says says in
          record {
            more_names = n.more_names;
            more_starts = n.more_starts;
            names_are = b.names_are ∙ (ap (λ l. names ++ l) (n.names_are ∙ ap (λ m. m ∷ n.more_names) same.0) ∙ sym (append_assoc names (name ∷ []) n.more_names));
            starts_are = b.starts_are ∙ (ap (λ l. starts ++ l) (n.starts_are ∙ ap (λ s. s ∷ n.more_starts) same.1) ∙ sym (append_assoc starts (start ∷ []) n.more_starts));
            others = n.others;
          }

      pub collects_more : Collects said all (drop (i + 1) all) (names ++ name ∷ []) (starts ++ start ∷ [])
      collects_more = record {
        sound = λ ns ss h. rw (append_assoc names (name ∷ []) ns, append_assoc starts (start ∷ []) ss) (here.sound (name ∷ ns) (start ∷ ss) (says, h));
        tied = one_more;
      }

  pub collects_end : (i : ℕ) (names : List (List ℕ)) (starts : List S) → Collects said all (drop i all) names starts → length all ≤ i → AreDeclared said all names starts
  collects_end i names starts c h =
      let none = drop_all i all h in
      let nothing : AreDeclared said (drop i all) [] [] = rw none tt in
      subst (λ l. AreDeclared said all l starts) (append-nil names) (subst (AreDeclared said all (names ++ [])) (append-nil starts) (c.sound [] [] nothing))

-- Laws of Declarations, for a proof: forms declare one list of names.
use Rattle.std.proofs.Common.{◌≡◌, ℕ, Bool, List, [], ◌∷◌, Option, None, Some, refl, sym, ◌∙◌, ap}
use Rattle.ref_value.specs.Edn.{Edn}
use Rattle.ref_forms.specs.Names.{NamesSeen}
use Rattle.ref_agents.specs.declared.starts.AgentStart.{AgentStart}
use Rattle.ref_agents.specs.declared.starts.AtomStart.{AtomStart}
use Rattle.ref_agents.specs.declared.starts.RefStart.{RefStart}
use Rattle.ref_plan.specs.Declarations.{AreDeclared, AreReferences, agent_of, atom_of, ref_of}

-- a form declares one name and one start
module _ {S : Type 0} (name : List ℕ) (start : S) where
  name_in : Option (List ℕ × S) → List ℕ
  name_in None = name
  name_in (Some p) = p.0

  start_in : Option (List ℕ × S) → S
  start_in None = start
  start_in (Some p) = p.1

pub one_said : {S : Type 0} (o : Option (List ℕ × S)) (n m : List ℕ) (s t : S) → o ≡ Some (n, s) → o ≡ Some (m, t) → (n ≡ m) × (s ≡ t)
unfolding name_in start_in
one_said o n m s t p q =
    let both : Some (n, s) ≡ Some (m, t) = sym p ∙ q in
    (ap (name_in n s) both, ap (start_in n s) both)

-- forms declare one list of names and of starts
module _ {S : Type 0} (said : Edn → Option (List ℕ × S)) where
  pub same_names : (xs : List Edn) (ns ms : List (List ℕ)) (ss ts : List S) → AreDeclared said xs ns ss → AreDeclared said xs ms ts → ns ≡ ms
  same_names [] [] [] [] [] p q = refl
  same_names [] [] [] [] (t ∷ ts) p q = absurd q
  same_names [] [] (m ∷ ms) [] ts p q = absurd q
  same_names [] [] ms (s ∷ ss) ts p q = absurd p
  same_names [] (n ∷ ns) ms ss ts p q = absurd p
  same_names (x ∷ xs) [] ms ss ts p q = absurd p
  same_names (x ∷ xs) (n ∷ ns) ms [] ts p q = absurd p
  same_names (x ∷ xs) (n ∷ ns) [] (s ∷ ss) ts p q = absurd q
  same_names (x ∷ xs) (n ∷ ns) (m ∷ ms) (s ∷ ss) [] p q = absurd q
  same_names (x ∷ xs) (n ∷ ns) (m ∷ ms) (s ∷ ss) (t ∷ ts) p q = λ i. (one_said (said x) n m s t p.0 q.0).0 i ∷ same_names xs ns ms ss ts p.1 q.1 i

-- references have one list of names
pub one_names : (judged : Bool) (xs ys zs : List Edn) (ns ms : NamesSeen) (rs rs' : List RefStart) (cells cells' : List AtomStart) (gs gs' : List AgentStart)
    → AreReferences judged xs ys zs ns rs cells gs → AreReferences judged xs ys zs ms rs' cells' gs' → ns ≡ ms
one_names judged xs ys zs ns ms rs rs' cells cells' gs gs' p q =
    let refs = same_names (ref_of judged) xs ns.refs ms.refs rs rs' p.refs_are q.refs_are in
    let atoms = same_names (atom_of judged) ys ns.atoms ms.atoms cells cells' p.atoms_are q.atoms_are in
    let agents = same_names (agent_of judged) zs ns.agents ms.agents gs gs' p.agents_are q.agents_are in
    λ i. record { refs = refs i; atoms = atoms i; agents = agents i }

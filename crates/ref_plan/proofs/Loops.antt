-- The loops over forms of refs, atoms and agents, as far as they have come.
use Rattle.std.proofs.Common.{◌≡◌, ℕ, Bool, true, false, ◌+◌, ◌<◌, ◌≤◌, ◌&&◌, ◌||◌, List, [], ◌∷◌, ◌++◌, None, Some, cond, drop, length, get_or, refl, ◌∙◌, ap, subst, arith, length-append, zero-add, slice_get}
use Rattle.std.specs.List.{sum_by}
use Rattle.std.proofs.lemmas.List.Sums.{sum_by-append}
use Rattle.ref_forms.specs.Names.{NamesSeen}
use Rattle.ref_value.specs.Edn.{Edn}
use Rattle.ref_log.specs.declared.notices.Who.{Who}
use Rattle.ref_log.specs.declared.notices.Who.TheVariants.{Ref, Atom, Agent}
use Rattle.ref_agents.specs.declared.starts.AgentStart.{AgentStart}
use Rattle.ref_agents.specs.declared.starts.AtomStart.{AtomStart}
use Rattle.ref_agents.specs.declared.starts.RefStart.{RefStart}
use Rattle.ref_plan.specs.Declarations.{AreDeclared, agent_of, atom_of, ref_of, tallies}
use Rattle.ref_plan.specs.Named.{AreApart, IsNamed}
use Rattle.ref_plan.specs.Tables.{Adds, Knows, Table, found, refs_alone, refs_and_atoms}
use Rattle.ref_plan.proofs.Collected.{Collects, collects_more, next}
use Rattle.ref_plan.proofs.Tables.{all_names, free, get_end, get_longer, get_seam, grows_agent, grows_atom, grows_ref, knows_more}

-- ---- tallies

abbrev pub as_count : Bool → ℕ
as_count b = cond b 1 0

module _ (judged : Bool) (refs more : List RefStart) (start : RefStart) where
  two_parts : tallies judged (refs ++ start ∷ more) ≡ tallies judged refs + (as_count (judged && start.tally) + tallies judged more)
  two_parts =
      let f = λ (s : RefStart). as_count (judged && s.tally) in
      sum_by-append f refs (start ∷ more) ∙ ap (λ k. sum_by f refs + k) (sum_by-append f (start ∷ []) more ∙ ap (λ k. k + sum_by f more) (zero-add (as_count (judged && start.tally))))

-- a tally behind another one
second_tally : (n m : ℕ) (a b : Bool) → n ≡ as_count a → n + (as_count b + m) ≤ 1 → a ≡ true → b ≡ false
second_tally n m a true e few is = let one : n ≡ 1 = e ∙ ap as_count is in absurd (omega arith)
second_tally n m a false e few is = refl

one_more_tally : (n : ℕ) (a b : Bool) → n ≡ as_count a → (a ≡ true → b ≡ false) → n + (as_count b + 0) ≡ as_count (a || b)
one_more_tally n true true e only = let no = only refl in cc
one_more_tally n true false e only = omega arith
one_more_tally n false true e only = omega arith
one_more_tally n false false e only = omega arith

pub at_most_one : (n : ℕ) (a : Bool) → n ≡ as_count a → n ≤ 1
at_most_one n true e = omega arith
at_most_one n false e = omega arith

-- ---- refs

pub record RefsSoFar (judged : Bool) (all : List Edn) (i : ℕ) (names : List (List ℕ)) (starts : List RefStart) (table : Table) (has_tally : Bool) : Type 0 where
  pub collects : Collects (ref_of judged) all (drop i all) names starts
  pub known : Knows table (refs_alone names)
  pub count : length names ≡ i
  pub tally : tallies judged starts ≡ as_count has_tally

module _ (judged : Bool) (all : List Edn) (i : ℕ) (names : List (List ℕ)) (starts : List RefStart) (table : Table) (has_tally : Bool) (so_far : RefsSoFar judged all i names starts table has_tally)
    (x : Edn) (within : i < length all) (is : x ≡ get_or all i x) where
  pub refs_more : (name : List ℕ) (start : RefStart) (new : Table) → ref_of judged x ≡ Some (name, start) → Adds table name (Ref i) new → (has_tally ≡ true → (judged && start.tally) ≡ false)
      → RefsSoFar judged all (i + 1) (names ++ name ∷ []) (starts ++ start ∷ []) new (has_tally || (judged && start.tally))
  refs_more name start new says adds only = record {
    collects = collects_more (ref_of judged) all i x names starts so_far.collects within is name start says;
    known = knows_more table new (refs_alone names) (refs_alone (names ++ name ∷ [])) name (Ref (length names)) so_far.known (rw so_far.count adds) (grows_ref names name);
    count = length-append names (name ∷ []) ∙ ap (λ n. n + 1) so_far.count;
    tally = two_parts judged starts [] start ∙ one_more_tally (tallies judged starts) has_tally (judged && start.tally) so_far.tally only;
  }

  pub refs_fail : ((name : List ℕ) (start : RefStart) → ref_of judged x ≡ Some (name, start) → found table name ≡ None → (has_tally ≡ true → (judged && start.tally) ≡ false) → ⊥)
      → (whole : NamesSeen) (whole_starts : List RefStart) → AreDeclared (ref_of judged) all whole.refs whole_starts → AreApart whole → tallies judged whole_starts ≤ 1 → ⊥
  refs_fail none whole whole_starts declared apart one =
      let (b, n) = next (ref_of judged) all i x names starts so_far.collects within is whole.refs whole_starts declared in
      let names_are : whole.refs ≡ names ++ n.name ∷ n.more_names = b.names_are ∙ ap (λ l. names ++ l) n.names_are in
      let starts_are : whole_starts ≡ starts ++ n.start ∷ n.more_starts = b.starts_are ∙ ap (λ l. starts ++ l) n.starts_are in
      let counted = ap (tallies judged) starts_are ∙ two_parts judged starts n.more_starts n.start in
      let few : tallies judged starts + (as_count (judged && n.start.tally) + tallies judged n.more_starts) ≤ 1 = subst (λ k. k ≤ 1) counted one in
      none n.name n.start n.says
      (free table (refs_alone names) whole (Ref (length names)) n.name so_far.known (extends n.name n.more_names names_are) (get_end names) (ap (λ l. slice_get l (length names)) names_are ∙ get_seam names n.name n.more_names) apart)
      (second_tally (tallies judged starts) (tallies judged n.more_starts) has_tally (judged && n.start.tally) so_far.tally few)
    where
      extends : (name : List ℕ) (more : List (List ℕ)) → whole.refs ≡ names ++ name ∷ more → (w : Who) (m : List ℕ) → IsNamed (refs_alone names) w m → IsNamed whole w m
      extends name more e (Ref r) m h = ap (λ l. slice_get l r) e ∙ get_longer names (name ∷ more) r m h
      extends name more e (Atom a) m h = cc
      extends name more e (Agent g) m h = cc

-- ---- atoms

pub record AtomsSoFar (judged : Bool) (all : List Edn) (i : ℕ) (names : List (List ℕ)) (starts : List AtomStart) (before table : Table) : Type 0 where
  pub collects : Collects (atom_of judged) all (drop i all) names starts
  pub known : (refs : List (List ℕ)) → Knows before (refs_alone refs) → Knows table (refs_and_atoms refs names)
  pub count : length names ≡ i

module _ (judged : Bool) (all : List Edn) (i : ℕ) (names : List (List ℕ)) (starts : List AtomStart) (before table : Table) (so_far : AtomsSoFar judged all i names starts before table)
    (x : Edn) (within : i < length all) (is : x ≡ get_or all i x) where
  pub atoms_more : (name : List ℕ) (start : AtomStart) (new : Table) → atom_of judged x ≡ Some (name, start) → Adds table name (Atom i) new
      → AtomsSoFar judged all (i + 1) (names ++ name ∷ []) (starts ++ start ∷ []) before new
  atoms_more name start new says adds = record {
    collects = collects_more (atom_of judged) all i x names starts so_far.collects within is name start says;
    known = λ refs k. knows_more table new (refs_and_atoms refs names) (refs_and_atoms refs (names ++ name ∷ [])) name (Atom (length names)) (so_far.known refs k) (rw so_far.count adds) (grows_atom refs names name);
    count = length-append names (name ∷ []) ∙ ap (λ n. n + 1) so_far.count;
  }

  pub atoms_fail : ((name : List ℕ) (start : AtomStart) → atom_of judged x ≡ Some (name, start) → found table name ≡ None → ⊥)
      → (whole : NamesSeen) (whole_starts : List AtomStart) → Knows before (refs_alone whole.refs) → AreDeclared (atom_of judged) all whole.atoms whole_starts → AreApart whole → ⊥
  atoms_fail none whole whole_starts k declared apart =
      let (b, n) = next (atom_of judged) all i x names starts so_far.collects within is whole.atoms whole_starts declared in
      let names_are : whole.atoms ≡ names ++ n.name ∷ n.more_names = b.names_are ∙ ap (λ l. names ++ l) n.names_are in
      none n.name n.start n.says
      (free table (refs_and_atoms whole.refs names) whole (Atom (length names)) n.name (so_far.known whole.refs k) (extends n.name n.more_names names_are) (get_end names) (ap (λ l. slice_get l (length names)) names_are ∙ get_seam names n.name n.more_names) apart)
    where
      extends : (name : List ℕ) (more : List (List ℕ)) → whole.atoms ≡ names ++ name ∷ more → (w : Who) (m : List ℕ) → IsNamed (refs_and_atoms whole.refs names) w m → IsNamed whole w m
      extends name more e (Ref r) m h = h
      extends name more e (Atom a) m h = ap (λ l. slice_get l a) e ∙ get_longer names (name ∷ more) a m h
      extends name more e (Agent g) m h = cc

-- ---- agents

pub record AgentsSoFar (judged : Bool) (all : List Edn) (i : ℕ) (names : List (List ℕ)) (starts : List AgentStart) (before table : Table) : Type 0 where
  pub collects : Collects (agent_of judged) all (drop i all) names starts
  pub known : (refs atoms : List (List ℕ)) → Knows before (refs_and_atoms refs atoms) → Knows table (all_names refs atoms names)
  pub count : length names ≡ i

module _ (judged : Bool) (all : List Edn) (i : ℕ) (names : List (List ℕ)) (starts : List AgentStart) (before table : Table) (so_far : AgentsSoFar judged all i names starts before table)
    (x : Edn) (within : i < length all) (is : x ≡ get_or all i x) where
  pub agents_more : (name : List ℕ) (start : AgentStart) (new : Table) → agent_of judged x ≡ Some (name, start) → Adds table name (Agent i) new
      → AgentsSoFar judged all (i + 1) (names ++ name ∷ []) (starts ++ start ∷ []) before new
  agents_more name start new says adds = record {
    collects = collects_more (agent_of judged) all i x names starts so_far.collects within is name start says;
    known = λ refs atoms k. knows_more table new (all_names refs atoms names) (all_names refs atoms (names ++ name ∷ [])) name (Agent (length names)) (so_far.known refs atoms k) (rw so_far.count adds) (grows_agent refs atoms names name);
    count = length-append names (name ∷ []) ∙ ap (λ n. n + 1) so_far.count;
  }

  pub agents_fail : ((name : List ℕ) (start : AgentStart) → agent_of judged x ≡ Some (name, start) → found table name ≡ None → ⊥)
      → (whole : NamesSeen) (whole_starts : List AgentStart) → Knows before (refs_and_atoms whole.refs whole.atoms) → AreDeclared (agent_of judged) all whole.agents whole_starts → AreApart whole → ⊥
  agents_fail none whole whole_starts k declared apart =
      let (b, n) = next (agent_of judged) all i x names starts so_far.collects within is whole.agents whole_starts declared in
      let names_are : whole.agents ≡ names ++ n.name ∷ n.more_names = b.names_are ∙ ap (λ l. names ++ l) n.names_are in
      none n.name n.start n.says
      (free table (all_names whole.refs whole.atoms names) whole (Agent (length names)) n.name (so_far.known whole.refs whole.atoms k) (extends n.name n.more_names names_are) (get_end names) (ap (λ l. slice_get l (length names)) names_are ∙ get_seam names n.name n.more_names) apart)
    where
      extends : (name : List ℕ) (more : List (List ℕ)) → whole.agents ≡ names ++ name ∷ more → (w : Who) (m : List ℕ) → IsNamed (all_names whole.refs whole.atoms names) w m → IsNamed whole w m
      extends name more e (Ref r) m h = h
      extends name more e (Atom a) m h = h
      extends name more e (Agent g) m h = ap (λ l. slice_get l g) e ∙ get_longer names (name ∷ more) g m h

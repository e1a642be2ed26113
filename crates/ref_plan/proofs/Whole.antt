-- What a value that isn't taken as a workload would have to be.
use Rattle.std.proofs.Common.{◌≡◌, ℕ, true, List, None, Some, refl, sym, ◌∙◌, subst}
use Rattle.ref_value.specs.Edn.{Edn}
use Rattle.ref_forms.specs.Names.{NamesSeen}
use Rattle.ref_agents.specs.declared.starts.AgentStart.{AgentStart}
use Rattle.ref_agents.specs.declared.starts.AtomStart.{AtomStart}
use Rattle.ref_agents.specs.declared.starts.RefStart.{RefStart}
use Rattle.ref_forms.specs.Plain.{all_said, forms_under, map_said}
use Rattle.ref_plan.specs.Declarations.{AreReferences}
use Rattle.ref_plan.specs.Laws.{one_names}
use Rattle.ref_plan.specs.Plan.{PlanSeen}
use Rattle.ref_plan.specs.Steps.{worker_of}
use Rattle.ref_plan.specs.Words.{agents_word, atoms_word, refs_word, workers_word}
use Rattle.ref_plan.specs.Workload.{HasParts, HasReferences, IsWorkload, version_form}
use Rattle.ref_calls.specs.declared.words.Version.{Version}
use Rattle.ref_calls.specs.declared.words.Version.TheVariants.{One, Two}

one_version : (a b : Version) → version_form a ≡ version_form b → a ≡ b
one_version One One e = refl
one_version One Two e = absurd cc
one_version Two One e = absurd cc
one_version Two Two e = refl

some_inside : {A : Type 0} {x y : A} → Some x ≡ Some y → x ≡ y
some_inside e = cc

module _ (x : Edn) (entries : List (Edn × Edn)) (is_map : map_said x ≡ Some entries) (p : PlanSeen) (w : IsWorkload x p) where
  same_entries : w.entries ≡ entries
  same_entries =
      let both : Some w.entries ≡ Some entries = sym w.is_map ∙ is_map in
      cc

  its_parts : HasParts entries w.version p.pool
  its_parts = subst (λ es. HasParts es w.version p.pool) same_entries w.parts

  pub no_parts : ((version : Version) (pool : ℕ) → HasParts entries version pool → ⊥) → ⊥
  no_parts none = none w.version p.pool its_parts

  same_version : (version : Version) (pool : ℕ) → HasParts entries version pool → w.version ≡ version
  same_version version pool has =
      let both : Some (version_form w.version) ≡ Some (version_form version) = sym its_parts.version_is ∙ has.version_is in
      one_version w.version version (some_inside both)

  module _ (refs atoms agents workers : List Edn) (is_refs : refs ≡ forms_under entries refs_word) (is_atoms : atoms ≡ forms_under entries atoms_word)
      (is_agents : agents ≡ forms_under entries agents_word) (is_workers : workers ≡ forms_under entries workers_word) where
    its_references : AreReferences true refs atoms agents p.names p.refs p.atoms p.agents
    its_references =
        let its : HasReferences entries p = subst (λ es. HasReferences es p) same_entries w.references in
        subst (λ l. AreReferences true l atoms agents p.names p.refs p.atoms p.agents) (sym is_refs)
        (subst (λ l. AreReferences true (forms_under entries refs_word) l agents p.names p.refs p.atoms p.agents) (sym is_atoms)
        (subst (λ l. AreReferences true (forms_under entries refs_word) (forms_under entries atoms_word) l p.names p.refs p.atoms p.agents) (sym is_agents) its))

    pub no_workers : (version : Version) (pool : ℕ) → HasParts entries version pool → (names : NamesSeen) (rs : List RefStart) (cells : List AtomStart) (gs : List AgentStart) → AreReferences true refs atoms agents names rs cells gs
        → all_said (worker_of version names) workers ≡ None → ⊥
    no_workers version pool has names rs cells gs known none =
        let same = one_names true refs atoms agents p.names names p.refs rs p.atoms cells p.agents gs its_references known in
        let its : all_said (worker_of w.version p.names) (forms_under entries workers_word) ≡ Some p.workers = subst (λ es. all_said (worker_of w.version p.names) (forms_under es workers_word) ≡ Some p.workers) same_entries w.workers in
        let here : all_said (worker_of w.version p.names) workers ≡ Some p.workers = subst (λ l. all_said (worker_of w.version p.names) l ≡ Some p.workers) (sym is_workers) its in
        let named : all_said (worker_of w.version names) workers ≡ Some p.workers = subst (λ n. all_said (worker_of w.version n) workers ≡ Some p.workers) same here in
        let says : all_said (worker_of version names) workers ≡ Some p.workers = subst (λ v. all_said (worker_of v names) workers ≡ Some p.workers) (same_version version pool has) named in
        cc

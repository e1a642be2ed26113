-- What a value that isn't taken as a list of events would have to be.
use Rattle.std.proofs.Common.{◌≡◌, ℕ, false, List, Option, None, Some, sym, ◌∙◌, subst}
use Rattle.ref_value.specs.Edn.{Edn}
use Rattle.ref_forms.specs.Names.{NamesSeen}
use Rattle.ref_agents.specs.declared.starts.AgentStart.{AgentStart}
use Rattle.ref_agents.specs.declared.starts.AtomStart.{AtomStart}
use Rattle.ref_agents.specs.declared.starts.RefStart.{RefStart}
use Rattle.ref_forms.specs.Plain.{forms_under, map_said}
use Rattle.ref_plan.specs.Declarations.{AreReferences}
use Rattle.ref_plan.specs.Laws.{one_names}
use Rattle.ref_plan.specs.Words.{agents_word, atoms_word, refs_word}
use Rattle.ref_events.specs.Acts.{events_said}
use Rattle.ref_events.specs.Documents.{HasParts, IsScript, ScriptSeen}
use Rattle.ref_events.specs.Words.{events_word}

module _ (x : Edn) (entries : List (Edn × Edn)) (is_map : map_said x ≡ Some entries) (s : ScriptSeen) (w : IsScript x s) where
  same_entries : w.entries ≡ entries
  same_entries =
      let both : Some w.entries ≡ Some entries = sym w.is_map ∙ is_map in
      cc

  pub no_parts : (HasParts entries → ⊥) → ⊥
  no_parts none = none (subst HasParts same_entries w.parts)

  module _ (refs atoms agents : List Edn) (is_refs : refs ≡ forms_under entries refs_word) (is_atoms : atoms ≡ forms_under entries atoms_word) (is_agents : agents ≡ forms_under entries agents_word) where
    its_references : AreReferences false refs atoms agents s.names s.refs s.atoms s.agents
    its_references =
        let its : AreReferences false (forms_under entries refs_word) (forms_under entries atoms_word) (forms_under entries agents_word) s.names s.refs s.atoms s.agents =
        subst (λ es. AreReferences false (forms_under es refs_word) (forms_under es atoms_word) (forms_under es agents_word) s.names s.refs s.atoms s.agents) same_entries w.references in
        subst (λ l. AreReferences false l atoms agents s.names s.refs s.atoms s.agents) (sym is_refs)
        (subst (λ l. AreReferences false (forms_under entries refs_word) l agents s.names s.refs s.atoms s.agents) (sym is_atoms)
        (subst (λ l. AreReferences false (forms_under entries refs_word) (forms_under entries atoms_word) l s.names s.refs s.atoms s.agents) (sym is_agents) its))

    pub no_references : ((names : NamesSeen) (rs : List RefStart) (cells : List AtomStart) (gs : List AgentStart) → AreReferences false refs atoms agents names rs cells gs → ⊥) → ⊥
    no_references none = none s.names s.refs s.atoms s.agents its_references

    pub no_events : (events : List Edn) → events ≡ forms_under entries events_word → (names : NamesSeen) (rs : List RefStart) (cells : List AtomStart) (gs : List AgentStart)
        → AreReferences false refs atoms agents names rs cells gs → events_said names 0 events ≡ None → ⊥
    no_events events is_events names rs cells gs known none =
        let same = one_names false refs atoms agents s.names names s.refs rs s.atoms cells s.agents gs its_references known in
        let its : s.forms ≡ forms_under entries events_word = subst (λ es. s.forms ≡ forms_under es events_word) same_entries w.forms in
        let here : events_said s.names 0 events ≡ Some s.events = subst (λ l. events_said s.names 0 l ≡ Some s.events) (its ∙ sym is_events) w.events in
        let says : events_said names 0 events ≡ Some s.events = subst (λ n. events_said n 0 events ≡ Some s.events) same here in
        cc

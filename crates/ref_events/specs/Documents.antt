-- Which EDN data is a list of events, and what it says. It is a map:
--
--   {:version 1
--    :refs [REF ..] :atoms [ATOM ..] :agents [AGENT ..]
--    :events [[ACTOR ACT ARG ..] ..]}
--
-- All keys but the first may be left out: what is a vector is empty then. References are written and limited as in a workload, but what
-- they begin with isn't judged, and events as specs/Acts.antt says. There are at most as many events as a workload has steps.
use Rattle.std.specs.Prelude.{◌≡◌, ◌≤◌, ℕ, pos, true, false, List, Some, length}
use Rattle.ref_value.specs.Edn.{Edn, int}
use Rattle.ref_forms.specs.Names.{NamesSeen}
use Rattle.ref_agents.specs.declared.starts.AgentStart.{AgentStart}
use Rattle.ref_agents.specs.declared.starts.AtomStart.{AtomStart}
use Rattle.ref_agents.specs.declared.starts.RefStart.{RefStart}
use Rattle.ref_forms.specs.Plain.{are_known, forms_under, is_vector_or_none, map_said, under}
use Rattle.ref_plan.specs.Declarations.{AreReferences}
use Rattle.ref_plan.specs.Limits.{most_declared}
use Rattle.ref_plan.specs.Words.{agents_word, atoms_word, refs_word, version_word}
use Rattle.ref_play.specs.declared.events.Event.{Event}
use Rattle.ref_events.specs.Acts.{events_said}
use Rattle.ref_events.specs.Words.{events_word, known_words}

-- The references that are declared, by number, with their names; the events; and how each of them is written.
pub record ScriptSeen : Type 0 where
  pub names : NamesSeen
  pub refs : List RefStart
  pub atoms : List AtomStart
  pub agents : List AgentStart
  pub events : List Event
  pub forms : List Edn

-- how many events, as many as a workload may have steps
abbrev pub most_events : ℕ
most_events = 640000

-- What may be left out is a vector where it is there.
pub record HasVectors (entries : List (Edn × Edn)) : Type 0 where
  pub refs : is_vector_or_none (under entries refs_word) ≡ true
  pub atoms : is_vector_or_none (under entries atoms_word) ≡ true
  pub agents : is_vector_or_none (under entries agents_word) ≡ true
  pub events : is_vector_or_none (under entries events_word) ≡ true

-- There are no more references of a kind and no more events than may be.
pub record HasFew (entries : List (Edn × Edn)) : Type 0 where
  pub refs : length (forms_under entries refs_word) ≤ most_declared
  pub atoms : length (forms_under entries atoms_word) ≤ most_declared
  pub agents : length (forms_under entries agents_word) ≤ most_declared
  pub events : length (forms_under entries events_word) ≤ most_events

-- The entries have the keys of a list of events, the version, and no more of anything than may be.
pub record HasParts (entries : List (Edn × Edn)) : Type 0 where
  pub known : are_known known_words entries ≡ true
  pub version : under entries version_word ≡ Some (int (pos 1))
  pub vectors : HasVectors entries
  pub few : HasFew entries

-- The value is a list of events, and this is what it says.
pub record IsScript (x : Edn) (script : ScriptSeen) : Type 0 where
  pub entries : List (Edn × Edn)
  pub is_map : map_said x ≡ Some entries
  pub parts : HasParts entries
  pub references : AreReferences false (forms_under entries refs_word) (forms_under entries atoms_word) (forms_under entries agents_word) script.names script.refs script.atoms script.agents
  pub forms : script.forms ≡ forms_under entries events_word
  pub events : events_said script.names 0 script.forms ≡ Some script.events

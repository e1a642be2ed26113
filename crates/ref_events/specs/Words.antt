-- The words that stand in lists of events, each a keyword. Those of acts stand in ref_calls, those of marks in ref_forms and ref_plan.
use Rattle.std.specs.Prelude.{ℕ, List, [], ◌∷◌, codes}
use Rattle.ref_plan.specs.Words.{agents_word, atoms_word, refs_word, version_word}

-- the kinds of references that are named by number
abbrev pub ref_word : List ℕ
ref_word = codes "ref"

abbrev pub atom_word : List ℕ
atom_word = codes "atom"

abbrev pub agent_word : List ℕ
agent_word = codes "agent"

-- the key of the map under which the events stand; the others are those of a workload
abbrev pub events_word : List ℕ
events_word = codes "events"

abbrev pub known_words : List (List ℕ)
known_words = version_word ∷ refs_word ∷ atoms_word ∷ agents_word ∷ events_word ∷ []

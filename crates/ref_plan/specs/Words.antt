-- The words that stand in workloads, each a keyword. Those that steps and operations begin with stand in ref_calls, those of error modes
-- and of `:clear` in ref_forms.
use Rattle.std.specs.Prelude.{ℕ, List, [], ◌∷◌, codes}

-- behind the rule of a ref: that it is the tally
abbrev pub tally_word : List ℕ
tally_word = codes "tally"

-- the keys of the map
abbrev pub version_word : List ℕ
version_word = codes "version"

abbrev pub refs_word : List ℕ
refs_word = codes "refs"

abbrev pub atoms_word : List ℕ
atoms_word = codes "atoms"

abbrev pub agents_word : List ℕ
agents_word = codes "agents"

abbrev pub workers_word : List ℕ
workers_word = codes "workers"

abbrev pub pool_word : List ℕ
pool_word = codes "pool"

abbrev pub known_words : List (List ℕ)
known_words = version_word ∷ refs_word ∷ atoms_word ∷ agents_word ∷ workers_word ∷ pool_word ∷ []

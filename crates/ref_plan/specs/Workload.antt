-- Which EDN data is a workload, and what it says must be run. A workload is a map:
--
--   {:version V
--    :refs [REF ..] :atoms [ATOM ..] :agents [AGENT ..]
--    :workers [[STEP ..] ..]
--    :pool N}
--
-- The version is 1 or 2: in version 2 an action may carry sends.
-- All keys but the first may be left out: what is a vector is empty then, and the pool is 2. There are at most 4,096 references of a
-- kind, and at most 64 workers. References are written as specs/Declarations.antt says, steps as specs/Steps.antt and
-- specs/Operations.antt do.
use Rattle.std.specs.Prelude.{◌≡◌, ◌≤◌, ◌&&◌, ℕ, ℤ, pos, nat_le, Bool, true, List, Option, None, Some, is_some, length, option_and_then}
use Rattle.std.specs.List.{list_all}
use Rattle.ref_value.specs.Edn.{Edn, int}
use Rattle.ref_forms.specs.Plain.{all_said, are_known, elements_of, elements_within, forms_under, is_vector_or_none, map_said, only_if, under}
use Rattle.ref_plan.specs.Declarations.{AreReferences}
use Rattle.ref_plan.specs.Limits.{most_pool, most_declared, most_steps, most_workers}
use Rattle.ref_plan.specs.Plan.{PlanSeen}
use Rattle.ref_plan.specs.Steps.{worker_of}
use Rattle.ref_calls.specs.declared.words.Version.{Version}
use Rattle.ref_calls.specs.declared.words.Version.TheVariants.{One, Two}
use Rattle.ref_plan.specs.Words.{agents_word, atoms_word, known_words, pool_word, refs_word, version_word, workers_word}

-- the number of threads for actions, 2 where it is left out
abbrev pub pool_said : Option Edn → Option ℤ
pool_said None = Some (pos 2)
pool_said (Some (int n)) = Some n
pool_said (Some x) = None

abbrev pub pool_in_range : ℤ → Option ℕ
pool_in_range (pos n) = only_if (nat_le 1 n && nat_le n most_pool) n
pool_in_range n = None

abbrev pub pool_of : Option Edn → Option ℕ
pool_of x = option_and_then pool_in_range (pool_said x)

-- a vector, and one of no more elements than a worker may have steps
abbrev pub is_vector : Edn → Bool
is_vector x = is_some (elements_of x)

abbrev pub is_short_vector : Edn → Bool
is_short_vector x = is_some (elements_within most_steps x)

-- What may be left out is a vector where it is there.
pub record HasVectors (entries : List (Edn × Edn)) : Type 0 where
  pub refs : is_vector_or_none (under entries refs_word) ≡ true
  pub atoms : is_vector_or_none (under entries atoms_word) ≡ true
  pub agents : is_vector_or_none (under entries agents_word) ≡ true
  pub workers : is_vector_or_none (under entries workers_word) ≡ true

-- There are no more references of a kind and no more workers than may be.
pub record HasFew (entries : List (Edn × Edn)) : Type 0 where
  pub refs : length (forms_under entries refs_word) ≤ most_declared
  pub atoms : length (forms_under entries atoms_word) ≤ most_declared
  pub agents : length (forms_under entries agents_word) ≤ most_declared
  pub workers : length (forms_under entries workers_word) ≤ most_workers

abbrev pub version_form : Version → Edn
version_form One = int (pos 1)
version_form Two = int (pos 2)

-- The entries have the keys of a workload, this version, this pool, and no more of anything than may be.
pub record HasParts (entries : List (Edn × Edn)) (version : Version) (pool : ℕ) : Type 0 where
  pub known : are_known known_words entries ≡ true
  pub version_is : under entries version_word ≡ Some (version_form version)
  pub vectors : HasVectors entries
  pub few : HasFew entries
  pub short : list_all is_short_vector (forms_under entries workers_word) ≡ true
  pub pool_is : pool_of (under entries pool_word) ≡ Some pool

-- The value is a map with the parts of a workload, whatever they say.
pub record HasForm (x : Edn) : Type 0 where
  pub entries : List (Edn × Edn)
  pub version : Version
  pub pool : ℕ
  pub is_map : map_said x ≡ Some entries
  pub parts : HasParts entries version pool

-- the references that the entries declare
abbrev pub HasReferences : List (Edn × Edn) → PlanSeen → Type 0
HasReferences entries plan =
    AreReferences true (forms_under entries refs_word) (forms_under entries atoms_word) (forms_under entries agents_word)
    plan.names plan.refs plan.atoms plan.agents

pub record IsWorkload (x : Edn) (plan : PlanSeen) : Type 0 where
  pub entries : List (Edn × Edn)
  pub version : Version
  pub is_map : map_said x ≡ Some entries
  pub parts : HasParts entries version plan.pool
  pub references : HasReferences entries plan
  pub workers : all_said (worker_of version plan.names) (forms_under entries workers_word) ≡ Some plan.workers

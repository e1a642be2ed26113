-- How much of anything a workload may have.
use Rattle.std.specs.Prelude.{ℕ, nat_le, Bool}
use Rattle.ref_value.specs.Edn.{Edn, nesting}
use Rattle.ref_fun.specs.Limits.{most_nested_result}

-- references of a kind
abbrev pub most_declared : ℕ
most_declared = 4096

abbrev pub most_workers : ℕ
most_workers = 64

-- steps of a worker
abbrev pub most_steps : ℕ
most_steps = 10000

-- operations of a transaction
abbrev pub most_operations : ℕ
most_operations = 256

-- threads for actions
abbrev pub most_pool : ℕ
most_pool = 16

-- The values of a workload may nest as deep as the result of a function.
abbrev pub is_shallow : Edn → Bool
is_shallow x = nat_le (nesting x) most_nested_result

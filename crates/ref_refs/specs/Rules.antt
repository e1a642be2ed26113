-- The rules that a commit asks.
use Rattle.std.specs.Prelude.{◌≡◌, ℕ, Bool, List, None}
use Rattle.std.specs.List.{AllByRecursion}
use Rattle.ref_fun.specs.Rule.{unknown}
use Rattle.ref_log.specs.Guards.{rule_at}
use Rattle.ref_log.specs.declared.guards.Guard.{Guard}

-- A table knows the rules of all of these refs.
abbrev pub AreKnown : (ℕ → Bool) → List Guard → List ℕ → Type 0
AreKnown knows guards rs = AllByRecursion (λ r. unknown knows (rule_at guards r) ≡ None) rs

-- Members on their way into a tree, as pairs.
use Rattle.std.specs.Prelude.{◌≡◌, ℕ, List, length, take, drop}
use Rattle.ref_value.specs.Edn.{Edn}
use Rattle.ref_value.specs.Members.{twins}
use Rattle.ref_value.specs.declared.sequence.chunks.Member.{Member}
use Rattle.ref_value.specs.declared.sequence.chunks.Member.TheVariants.{One, Two}
use Rattle.ref_value.specs.declared.sequence.chunks.Rest.{Rest}
use Rattle.ref_value.specs.declared.sequence.chunks.Rest.TheVariants.{Values, Pairs}
use Rattle.ref_value.specs.declared.sequence.chunks.Run.{Run}
use Rattle.ref_value.specs.declared.sequence.chunks.Run.TheVariants as runs

abbrev pub member_of : Member → Edn × Edn
member_of (One x) = (x, x)
member_of (Two k x) = (k, x)

-- what is left to take
abbrev pub rest_of : Rest → List (Edn × Edn)
rest_of (Values xs) = twins xs.items
rest_of (Pairs es) = es.items

abbrev pub rest_len : Rest → ℕ
rest_len (Values xs) = length xs.items
rest_len (Pairs es) = length es.items

-- some members of a chunk, side by side
abbrev pub run_of : Run → List (Edn × Edn)
run_of (runs.Values xs) = twins xs.now
run_of (runs.Pairs es) = es.now

-- Two lists after as many steps, over members that are the same.
abbrev pub HavePassed : {T : Type 0} (xs ys xs-left ys-left : List T) → Type 0
HavePassed xs ys xs-left ys-left = (n : ℕ) × (take n xs ≡ take n ys) × (xs-left ≡ drop n xs) × (ys-left ≡ drop n ys)

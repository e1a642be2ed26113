-- What the sides of a fork hold together. A tree is seen as its entries and its height.
use Rattle.std.specs.Prelude.{◌≡◌, ℕ, ◌+◌, ◌/◌, ◌^◌, List, [], ◌∷◌, length, get_or, None}
use Rattle.std.specs.Ordering.{nat_cmp}
use Rattle.std.specs.FinMap.{FinMap, get, empty}
use Rattle.std.proofs.Math.ListN.{replicate}
use denote.Param.Weighed.{most}
use Rattle.ref_pmap.specs.Joined.{joined}
use Rattle.ref_pmap.specs.declared.blocks.Block.{Block}

module _ {V : Type 0} where
  -- the entries of all sides
  abbrev pub all_joined : List (FinMap nat_cmp V × ℕ) → FinMap nat_cmp V
  all_joined [] = empty
  all_joined (t ∷ ts) = joined t.0 (all_joined ts)

  -- one more than that of the highest side
  abbrev pub height : List (FinMap nat_cmp V × ℕ) → ℕ
  height ts = most (λ t. t.1 + 1) ts

  -- the entries of one side; none, where there is no such side
  abbrev pub side_map : List (FinMap nat_cmp V × ℕ) → ℕ → FinMap nat_cmp V
  side_map ts i = (get_or ts i (empty, 0)).0

  abbrev pub no_sides : List (FinMap nat_cmp V × ℕ)
  no_sides = replicate 16 (empty, 0)

  -- each key of a side is one of those that the block has for that side
  pub record IsFork (block : Block) (ts : List (FinMap nat_cmp V × ℕ)) : Type 0 where
    pub count : length ts ≡ 16
    pub apart : (i q : ℕ) → (q / 2 ^ block.shift ≡ block.first + i → ⊥) → get (side_map ts i) q ≡ None

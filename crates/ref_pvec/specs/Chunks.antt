-- What a vector's parts hold.
use Rattle.std.specs.Prelude.{◌≡◌, ℕ, ◌+◌, ◌≤◌, List, [], ◌++◌, length, drop, map, Option, None, Some, Vec}
use Rattle.std.specs.declared.sync.Arc.{Arc}
use Rattle.std.specs.declared.alloc.Global.{Global}

module _ {T : Type 0} where
  -- what the owners of items own
  abbrev pub values : List (Arc T Global) → List T
  values owners = map (λ owner. owner.value) owners

  -- the items of a chunk
  abbrev pub chunk_items : Arc (Vec (Arc T Global) Global) Global → List T
  chunk_items chunk = values chunk.value.items

  -- the items of the last chunk, which an empty vector lacks
  abbrev pub tail_items : Option (Arc (Vec (Arc T Global) Global) Global) → List T
  tail_items None = []
  tail_items (Some chunk) = chunk_items chunk

  -- the items of the tree, which a short vector lacks
  abbrev pub front_items : Option (List T × ℕ) → List T
  front_items None = []
  front_items (Some tree) = tree.0

  -- owners of some of the items, from the index on
  pub record IsRun (items : List T) (index : ℕ) (run : List (Arc T Global)) : Type 0 where
    pub within : index + length run ≤ length items
    pub parts : drop index items ≡ values run ++ drop (index + length run) items

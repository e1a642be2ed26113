use Rattle.std.proofs.Common.{◌≡◌, ◌*◌}
use Rattle.ref_agents.specs.Marks.{AreClear, HaveBlocks}
use Rattle.ref_agents.proofs.marks.Marks.first_behind.Given as goal

-- none so far is set
abbrev pub invariant-loop-block : goal.invariant-loop-block
invariant-loop-block l = record {
  same : l.self-inside.marks.items ≡ l.fn.self;
  blocks : HaveBlocks l.self-inside.marks.items l.self-inside.blocks.items;
  clear : AreClear l.self-inside.marks.items (1024 * l.first) (1024 * l.block);
}

use Rattle.std.proofs.Common.{◌≡◌, drop, fold}
use Rattle.std.specs.Prelude.{IsTrue}
use Rattle.ref_value.specs.Edn.{entries_of}
use Rattle.ref_value.specs.Collections.{entries_without}
use Rattle.ref_value.specs.Order.{keys_ascend}
use Rattle.ref_fun.proofs.collections.without_keys.Given as goal

abbrev pub invariant-loop-key : goal.invariant-loop-key
invariant-loop-key l = record {
  entries : fold entries_without l.left (drop l.key-index l.args) ≡ fold entries_without l.entries l.args;
  ascends : IsTrue (keys_ascend (entries_of l.left));
}

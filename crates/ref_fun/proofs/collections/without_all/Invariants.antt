use Rattle.std.proofs.Common.{◌≡◌, drop, fold}
use Rattle.std.specs.Prelude.{IsTrue}
use Rattle.ref_value.specs.Edn.{items_of}
use Rattle.ref_value.specs.Collections.{elements_without}
use Rattle.ref_value.specs.Order.{elements_ascend}
use Rattle.ref_fun.proofs.collections.without_all.Given as goal

abbrev pub invariant-loop-x : goal.invariant-loop-x
invariant-loop-x l = record {
  elements : fold elements_without l.left (drop l.x-index l.args) ≡ fold elements_without l.elements l.args;
  ascends : IsTrue (elements_ascend (items_of l.left));
}

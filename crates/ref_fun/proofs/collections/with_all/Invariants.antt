use Rattle.std.proofs.Common.{◌≡◌, drop, fold}
use Rattle.std.specs.Prelude.{IsTrue}
use Rattle.ref_value.specs.Edn.{items_of}
use Rattle.ref_value.specs.Collections.{elements_with}
use Rattle.ref_value.specs.Order.{elements_ascend}
use Rattle.ref_fun.proofs.collections.with_all.Given as goal

abbrev pub invariant-loop-x : goal.invariant-loop-x
invariant-loop-x l = record {
  elements : fold elements_with l.all (drop l.x-index l.args) ≡ fold elements_with l.elements l.args;
  ascends : IsTrue (elements_ascend (items_of l.all));
}

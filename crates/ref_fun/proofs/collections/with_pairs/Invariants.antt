use Rattle.std.proofs.Common.{◌≡◌, length}
use Rattle.std.specs.Prelude.{IsTrue}
use Rattle.ref_value.specs.Edn.{entries_of}
use Rattle.ref_value.specs.Order.{keys_ascend}
use Rattle.ref_fun.specs.Collections.{with_pairs}
use Rattle.ref_fun.proofs.collections.with_pairs.Given as goal

abbrev pub invariant-loop-rest : goal.invariant-loop-rest
invariant-loop-rest l = record {
  entries : with_pairs l.all l.rest ≡ with_pairs l.entries l.args;
  ascends : IsTrue (keys_ascend (entries_of l.all));
}

abbrev pub decreases-loop-rest : goal.decreases-loop-rest
decreases-loop-rest l = length l.rest

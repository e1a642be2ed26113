use Rattle.std.proofs.Common.{◌≡◌, ◌+◌, ◌≤◌, length}
use Rattle.ref_forms.specs.Laws.{Known}
use Rattle.ref_plan.specs.Operations.{op_of}
use Rattle.ref_plan.proofs.planning.operations.operations.Given as goal

abbrev pub invariant-loop-form : goal.invariant-loop-form
invariant-loop-form l = record {
  known : Known (op_of l.version l.declared) l.fn.forms l.form-iterator l.ops l.worst;
  count : l.seen + length l.form-iterator ≡ length l.fn.forms;
  few : l.seen ≤ 256;
}

use Rattle.std.proofs.Common.{◌≡◌, ◌+◌, length, true}
use Rattle.std.specs.List.{list_all}
use Rattle.ref_forms.specs.Laws.{in_front}
use Rattle.ref_forms.specs.Plain.{all_said}
use Rattle.ref_plan.specs.Steps.{worker_of}
use Rattle.ref_plan.specs.Workload.{is_short_vector}
use Rattle.ref_plan.proofs.planning.steps.workers.Given as goal

-- What was read, with what is left, is what all forms say.
abbrev pub invariant-loop-form : goal.invariant-loop-form
invariant-loop-form l = record {
  all : in_front l.workers.items (all_said (worker_of l.version l.declared) l.form-iterator) ≡ all_said (worker_of l.version l.declared) l.forms;
  count : length l.workers.items + length l.form-iterator ≡ length l.forms;
  short : list_all is_short_vector l.form-iterator ≡ true;
}

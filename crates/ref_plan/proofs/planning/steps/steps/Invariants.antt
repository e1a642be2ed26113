use Rattle.std.proofs.Common.{◌≡◌, ◌+◌, length}
use Rattle.ref_forms.specs.Laws.{in_front}
use Rattle.ref_forms.specs.Plain.{all_said}
use Rattle.ref_plan.specs.Steps.{step_of}
use Rattle.ref_plan.proofs.planning.steps.steps.Given as goal

-- What was read, with what is left, is what all forms say.
abbrev pub invariant-loop-form : goal.invariant-loop-form
invariant-loop-form l = record {
  all : in_front l.steps.items (all_said (step_of l.version l.declared) l.form-iterator) ≡ all_said (step_of l.version l.declared) l.forms;
  count : length l.steps.items + length l.form-iterator ≡ length l.forms;
}

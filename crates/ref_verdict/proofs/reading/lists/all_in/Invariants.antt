use Rattle.std.proofs.Common.{◌≡◌, ◌+◌, length}
use Rattle.ref_forms.specs.Laws.{in_front}
use Rattle.ref_forms.specs.Plain.{all_said}
use Rattle.ref_verdict.proofs.reading.lists.all_in.Given as goal

-- What was read, with what is left, is what all forms say.
abbrev pub invariant-loop-form : goal.invariant-loop-form
invariant-loop-form g l =
    let said = g.T.FromForm.said l.version in
    record {
      all : in_front l.all.items (all_said said l.form-iterator) ≡ all_said said l.forms;
      count : length l.all.items + length l.form-iterator ≡ length l.forms;
    }

use Rattle.std.proofs.Common.{◌≡◌, ◌+◌, ◌≤◌, length}
use Rattle.ref_forms.specs.Laws.{Known}
use Rattle.ref_forms.specs.References.{carry_said}
use Rattle.ref_forms.proofs.carrying.carries_in.Given as goal

abbrev pub invariant-loop-form : goal.invariant-loop-form
invariant-loop-form g l = record {
  known : Known (carry_said (g.D.Naming.named l.document) g.D.Values.is_value) l.fn.forms l.form-iterator l.carries.items l.worst;
  count : l.seen + length l.form-iterator ≡ length l.fn.forms;
  few : l.seen ≤ 8;
  short : length l.carries.items ≤ l.seen;
}

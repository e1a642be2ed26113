use Rattle.std.proofs.Common.{◌≡◌, ◌≤◌, ◌++◌, ◌∷◌, length, true}
use Rattle.std.specs.List.{list_all}
use Rattle.ref_forms.proofs.calls.several_args.Given as goal

-- What was read, with what is left, are all forms.
abbrev pub invariant-loop-form : goal.invariant-loop-form
invariant-loop-form g l = record {
  all : l.values.items ++ l.form-iterator ≡ l.fn.first ∷ l.fn.second ∷ l.fn.forms;
  few : length l.values.items ≤ 8;
  right : list_all g.V.Values.is_value l.values.items ≡ true;
}

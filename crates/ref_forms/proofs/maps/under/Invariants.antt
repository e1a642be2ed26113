use Rattle.std.proofs.Common.{◌≡◌}
use Rattle.ref_forms.specs.Plain.{under}
use Rattle.ref_forms.proofs.maps.under.Given as goal

abbrev pub invariant-loop-key : goal.invariant-loop-key
invariant-loop-key l = under l.key-iterator l.word ≡ under l.entries l.word

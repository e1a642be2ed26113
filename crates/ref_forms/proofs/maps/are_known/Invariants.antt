use Rattle.std.proofs.Common.{◌≡◌, map}
use Rattle.std.specs.List.{list_all, list_any}
use Rattle.ref_forms.specs.Plain.{is_word}
use Rattle.ref_forms.proofs.maps.are_known.Given as goal

abbrev pub invariant-loop-key : goal.invariant-loop-key
invariant-loop-key l =
    list_all (λ e. list_any (λ word. is_word word e.0) (map (λ w. w.now) l.words)) l.key-iterator
    ≡ list_all (λ e. list_any (λ word. is_word word e.0) (map (λ w. w.now) l.words)) l.entries

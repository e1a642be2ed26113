use Rattle.std.proofs.Common.{◌≡◌, drop, map}
use Rattle.std.specs.List.{list_any}
use Rattle.ref_forms.specs.Plain.{is_word}
use Rattle.ref_forms.proofs.maps.is_one_of.Given as goal

abbrev pub invariant-loop-word : goal.invariant-loop-word
invariant-loop-word l =
    list_any (λ word. is_word word l.key) (map (λ w. w.now) (drop l.word-index l.words)) ≡ list_any (λ word. is_word word l.key) (map (λ w. w.now) l.words)

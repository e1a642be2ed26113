use Rattle.std.proofs.Common.{◌≡◌, drop, map, is_some}
use Rattle.std.specs.List.{list_all}
use Rattle.ref_forms.specs.Plain.{under}
use Rattle.ref_verdict.proofs.reading.parts.are_there.Given as goal

abbrev pub invariant-loop-word : goal.invariant-loop-word
invariant-loop-word l =
    list_all (λ word. is_some (under l.entries word)) (map (λ w. w.now) (drop l.word-index l.words)) ≡ list_all (λ word. is_some (under l.entries word)) (map (λ w. w.now) l.words)

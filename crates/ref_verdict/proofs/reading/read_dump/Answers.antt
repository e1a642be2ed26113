use Rattle.std.proofs.Common.{◌≡◌, ap, ◌∙◌, Some, rules}
use Rattle.ref_value.specs.Edn as edn
use Rattle.ref_value.specs.Edn.{entries_of}
use Rattle.ref_verdict.specs.DumpForm.{dump_of, misfit, parts_unless}
use Rattle.ref_verdict.proofs.Maps.{dump_of_map, misfit_told}
use Rattle.ref_verdict.proofs.reading.read_dump.Goals as goal

pub returns-in-Some-clause-reads : goal.returns-in-Some-clause-reads
returns-in-Some-clause-reads c =
    let es = c.in-Map.entries in
    let told : misfit es ≡ Some c.in-Some.fault = search rules in
    let form : c.args.value.now ≡ edn.map (entries_of es) = search rules in
    (λ _. ap dump_of form ∙ dump_of_map es ∙ ap (λ o. parts_unless o es) told, λ is. absurd (misfit_told es c.in-Some.fault told is))

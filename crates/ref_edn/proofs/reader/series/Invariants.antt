use Rattle.std.proofs.Common.{length}
use Rattle.ref_edn.specs.ReadParts.{series_at}
use Rattle.ref_edn.proofs.WholeTexts.{ReadsSeries}
use Rattle.ref_edn.proofs.reader.series.Given as goal

abbrev pub invariant-loop-found : goal.invariant-loop-found
invariant-loop-found l = ReadsSeries l.found.items l.rest (series_at l.text)

abbrev pub decreases-loop-found : goal.decreases-loop-found
decreases-loop-found l = length l.rest

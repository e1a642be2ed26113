-- What a fault of a text says whose elements are printed.
use Rattle.std.proofs.Common.{◌≡◌, ℕ, List}
use Rattle.std.specs.Prelude.{◌≢◌, Result, Ok, Err, IfErr, IsErrAnd}
use Rattle.ref_value.specs.Edn.{Edn}
use Rattle.ref_edn.specs.Grammar.{AreTexts}
use Rattle.ref_edn.specs.declared.faults.ReadFault.{ReadFault}
use Rattle.ref_edn.specs.declared.faults.ReadFault.TheVariants as reads
use Rattle.ref_workload.specs.RunFaults.{edn_fault_of}
use Rattle.ref_workload.specs.Streams.{IsFaultOfAll}
use Rattle.ref_workload.specs.declared.faults.RunFault.{RunFault}
use Rattle.refrun.specs.Printing.{IsAtFault}

elements_fault : (text : List ℕ) (f : ReadFault) → (f ≢ reads.Memory → (v : List Edn) → AreTexts text v → ⊥) → IsFaultOfAll text f → (most : ℕ) → IsAtFault most text (edn_fault_of f)
elements_fault text reads.Memory none is most = tt
elements_fault text f none is most = (λ e. cc, none (λ e. cc), is)

-- what a call that hands on such a fault answers
pub elements_told : {T : Type 0} (r : Result T RunFault) (text : List ℕ) (f : ReadFault) → IsErrAnd r (λ g. g ≡ edn_fault_of f) → (f ≢ reads.Memory → (v : List Edn) → AreTexts text v → ⊥) → IsFaultOfAll text f
    → IfErr r (λ g. (most : ℕ) → IsAtFault most text g)
elements_told (Ok x) text f told none is = tt
elements_told (Err g) text f told none is = rw told (elements_fault text f none is)

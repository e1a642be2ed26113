-- How the parts of a dump are read. These words are for private functions.
use Rattle.std.specs.Prelude.{◌≡◌, ◌≢◌, Result, Ok, Err}
use Rattle.ref_forms.specs.declared.wrong.Wrong.{Wrong}
use Rattle.ref_forms.specs.declared.wrong.Wrong.TheVariants as wrongs
use Rattle.ref_verdict.specs.declared.reading.faults.DumpFault.{DumpFault}
use Rattle.ref_verdict.specs.declared.reading.faults.DumpFault.TheVariants.{BadPart, Memory}
use Rattle.ref_verdict.specs.declared.reading.faults.Key.{Key}

-- A value or the fault that is meant is returned; or memory is refused.
abbrev pub Told : {A : Type 0} → Result A DumpFault → Result A DumpFault → Type 0
Told meant (Ok x) = meant ≡ Ok x
Told meant (Err fault) = fault ≢ Memory → meant ≡ Err fault

-- the fault where the part under a key isn't read
abbrev pub fault_at : Key → Wrong → DumpFault
fault_at key wrongs.Memory = Memory
fault_at key wrong = BadPart key

-- What isn't made nests too deep, or memory was refused.
use Rattle.std.proofs.Common.{◌≡◌, ℕ, ◌<◌, ◌≤◌, true, arith}
use Rattle.ref_value.specs.Edn.{Entries, Items, map, vector, nesting}
use Rattle.ref_value.specs.Lawful.{AreLawful, AreLawfulEntries, IsLawful}
use Rattle.ref_value.specs.Order.{keys_ascend}
use Rattle.ref_audit.specs.Made.{IsMakeFault}
use Rattle.ref_audit.specs.declared.faults.DumpMakeFault.{DumpMakeFault}
use Rattle.ref_audit.specs.declared.faults.DumpMakeFault.TheVariants.{TooDeep, Memory}

-- What a part is too deep for, the whole is too deep for.
pub deeper_fault : (a b : ℕ) (fault : DumpMakeFault) → a ≤ b → IsMakeFault a fault → IsMakeFault b fault
deeper_fault a b fault le is = record {
  deep = λ e. omega (arith, is.deep e);
  named = is.named;
}

pub memory_fault : (depth : ℕ) (fault : DumpMakeFault) → fault ≡ Memory → IsMakeFault depth fault
memory_fault depth fault is = record {
  deep = λ e. absurd (cc);
  named = λ code e. cc;
}

above : (n : ℕ) → (n ≤ 64 → ⊥) → 64 < n
above n isnt = omega arith

pub deep_fault : (xs : Items) → AreLawful xs → (IsLawful (vector xs) → ⊥) → IsMakeFault (nesting (vector xs)) TooDeep
deep_fault xs are isnt = record {
  deep = λ e. above (nesting (vector xs)) (λ shallow. isnt (record { parts = are; shallow = shallow }));
  named = λ code e. cc;
}

pub deep_map_fault : (es : Entries) → AreLawfulEntries es → keys_ascend es ≡ true → (IsLawful (map es) → ⊥) → IsMakeFault (nesting (map es)) TooDeep
deep_map_fault es are ascend isnt = record {
  deep = λ e. above (nesting (map es)) (λ shallow. isnt (record { parts = (are, ascend); shallow = shallow }));
  named = λ code e. cc;
}

pub ruleset make_faults = (deeper_fault, memory_fault, deep_fault, deep_map_fault)

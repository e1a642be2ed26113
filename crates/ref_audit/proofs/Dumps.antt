-- What a dump tells.
use Rattle.std.proofs.Common.{◌≡◌, ℕ, ◌≤◌, false, None, Some, if◌then◌else◌, nat_lt, arith, ap, ◌∙◌}
use Rattle.std.specs.Option.{option_map, option_or}
use Rattle.std.proofs.lemmas.Bool.Decides.{nat_tests}
use Rattle.ref_value.specs.Edn.{nesting}
use Rattle.ref_world.specs.Seen.{WorldSeen}
use Rattle.ref_audit.specs.Dumped.{depth_refusal, dump_refusal, dumped, unnamed}
use Rattle.ref_audit.specs.declared.faults.DumpMakeFault.TheVariants.{TooDeep, Unnamed}

shallow_if : (n : ℕ) → n ≤ 64 → nat_lt 64 n ≡ false
shallow_if n shallow = grind (arith, nat_tests)

pub dump_told : (world : WorldSeen) → unnamed world ≡ None → nesting (dumped world) ≤ 64 → dump_refusal world ≡ None
dump_told world none shallow =
    ap (λ first. option_or (option_map Unnamed first) (depth_refusal (dumped world))) none
    ∙ ap (λ deep. if deep then Some TooDeep else None) (shallow_if (nesting (dumped world)) shallow)

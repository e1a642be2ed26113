use Rattle.std.proofs.Common.{◌≡◌, ◌-◌, vec_len}
use Rattle.ref_program.specs.Done.{AreFresh}
use Rattle.ref_world.specs.Shares.{all_parts, whole}
use Rattle.ref_program.proofs.running.parts.Given as goal

abbrev pub invariant-loop : goal.invariant-loop
invariant-loop g l = record {
  parts : AreFresh l.parts.items;
  count : vec_len l.parts ≡ l.counter;
  rest : l.share ≡ record (whole l.share.history) { parts = all_parts - l.counter };
}

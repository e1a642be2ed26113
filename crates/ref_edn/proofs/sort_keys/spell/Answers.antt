use Rattle.std.proofs.Common.{arith, ◌∙◌, ◌<◌}
use Rattle.ref_edn.specs.SortKeys.{spelled}
use Rattle.ref_edn.proofs.SortKeys.{bytes_from, room_is_small, step, more_room}
use Rattle.ref_edn.proofs.sort_keys.spell.Goals as goal

pub overflow_mul-key : goal.overflow_mul-key
overflow_mul-key c = let small = room_is_small c.loop-i.i c.loop-i.key c.loop-i-test.true c.loop-i.invariant.1 in omega (arith, small)

pub overflow_add-key : goal.overflow_add-key
overflow_add-key c = let small = room_is_small c.loop-i.i c.loop-i.key c.loop-i-test.true c.loop-i.invariant.1 in omega (arith, small, c.from.ensures, c.byte_or_0.type_inv)

pub loop-i-preserved : goal.loop-i-preserved
loop-i-preserved c =
    let byte = c.from.ensures ∙ c.byte_or_0.ensures in
    let bound : c.from.result < 256 = omega (arith, c.from.ensures, c.byte_or_0.type_inv) in (
      rw byte (step c.loop-i.i c.loop-i.key c.args.text.now (spelled 7 c.args.kind c.args.text.now) c.loop-i-test.true c.loop-i.invariant.0),
      more_room c.loop-i.i c.loop-i.key c.from.result c.loop-i.invariant.1 bound,
    )

pub returns-clause-bytes : goal.returns-clause-bytes
returns-clause-bytes c = bytes_from c.args.text.now c.type_inv.text

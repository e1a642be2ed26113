use Rattle.std.proofs.Common.{◌<◌, ◌/◌, max, ap, ◌∙◌, arith}
use Rattle.ref_pmap.proofs.HighBits.{four_more, room}
use Rattle.ref_pmap.proofs.blocks.+parting_of.Goals as goal

pub overflow_add-shift : goal.overflow_add-shift
overflow_add-shift t c =
    let small : c.args.shift < 32 = room (max c.args.old c.args.new) c.args.shift (omega arith) (omega arith) in
    omega arith

pub parting_of-requires : goal.parting_of-requires
parting_of-requires t c =
    let e = four_more 4294967295 c.args.shift in
    (omega arith, (c.if-old-new.true, (omega arith, omega arith)))

pub returns-then-old-new-clause-old : goal.returns-then-old-new-clause-old
returns-then-old-new-clause-old t c = λ q is. c.parting_of.ensures.old q (four_more q c.args.shift ∙ ap (λ n. n / 16) is)

pub returns-then-old-new-clause-new : goal.returns-then-old-new-clause-new
returns-then-old-new-clause-new t c = λ q is. c.parting_of.ensures.new q (four_more q c.args.shift ∙ ap (λ n. n / 16) is)

pub invariant_of-block : goal.invariant_of-block
invariant_of-block t c = record {
  small = room (max c.args.old c.args.new) c.args.shift (omega arith) (omega arith);
  aligned = omega arith;
  fits = omega arith;
}

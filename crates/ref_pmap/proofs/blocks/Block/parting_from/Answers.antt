use Rattle.std.proofs.Common.{◌≡◌, ◌≤◌, ◌/◌, ◌^◌, ◌∙◌, arith}
use Rattle.std.proofs.Math.Pow.{shr_mono}
use Rattle.ref_pmap.proofs.HighBits.{four_more}
use Rattle.ref_pmap.proofs.blocks.Block.parting_from.Goals as goal

pub parting_of-requires-clause-old_fits : goal.parting_of-requires-clause-old_fits
parting_of-requires-clause-old_fits c =
    let e = four_more 4294967295 c.args.self.now.shift in
    omega arith

pub parting_of-requires-clause-new_fits : goal.parting_of-requires-clause-new_fits
parting_of-requires-clause-new_fits c =
    let e = four_more 4294967295 c.args.self.now.shift in
    let fits : c.args.key ≤ 4294967295 = omega arith in
    let h = shr_mono c.args.self.now.shift fits in
    omega arith

pub returns-clause-old : goal.returns-clause-old
returns-clause-old c = λ q side low is.
    let one : q / 2 ^ c.args.self.now.shift / 16 ≡ c.args.self.now.first / 16 = omega arith in
    c.parting_of.ensures.old q (four_more q c.args.self.now.shift ∙ one)

pub returns-clause-new : goal.returns-clause-new
returns-clause-new c = c.parting_of.ensures.new c.args.key (four_more c.args.key c.args.self.now.shift)

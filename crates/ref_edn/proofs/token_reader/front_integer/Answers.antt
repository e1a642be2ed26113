use Rattle.std.proofs.Common.{◌≡◌, ◌<◌, length, get_or, arith}
use Rattle.std.specs.Int.{w64}
use Rattle.std.proofs.lemmas.Int.{to_z-of_z}
use Rattle.ref_edn.proofs.Numerals.{plus_at, minus_at}
use Rattle.ref_edn.proofs.token_reader.front_integer.Goals as goal

pub returns-in_ok-z-in-45-clause-value : goal.returns-in_ok-z-in-45-clause-value
returns-in_ok-z-in-45-clause-value c =
    let some : 0 < length c.args.text.now = omega arith in
    let sign : get_or c.args.text.now 0 0 ≡ 45 = omega arith in
    let z = c.in_ok-z-in-45 in
    rw (to_z-of_z w64 z.z z.ensures.fits) (minus_at c.in_ok-n-in-45.n c.args.text.now c.in_ok-n-in-45.rest.now z.z some sign c.in_ok-n-in-45.ensures.value z.ensures.value z.ensures.fits)

pub returns-in_ok-z-in-43-clause-value : goal.returns-in_ok-z-in-43-clause-value
returns-in_ok-z-in-43-clause-value c =
    let some : 0 < length c.args.text.now = omega arith in
    let sign : get_or c.args.text.now 0 0 ≡ 43 = omega arith in
    let z = c.in_ok-z-in-43 in
    rw (to_z-of_z w64 z.z z.ensures.fits) (plus_at c.in_ok-n-in-43.n c.args.text.now c.in_ok-n-in-43.rest.now z.z some sign c.in_ok-n-in-43.ensures.value z.ensures.value z.ensures.fits)

use Rattle.std.proofs.Common.{◌≡◌, ◌<◌, length, get_or, arith}
use Rattle.ref_edn.proofs.Numerals.{numeral_0}
use Rattle.ref_edn.proofs.token_reader.front_numeral.Goals as goal

pub returns-then-ends_token-clause-value : goal.returns-then-ends_token-clause-value
returns-then-ends_token-clause-value c =
    let some : 0 < length c.args.text.now = omega arith in
    let zero : get_or c.args.text.now 0 0 ≡ 48 = omega arith in
    numeral_0 c.args.text.now some zero (c.ends_token.ensures c.if-ends_token.true)

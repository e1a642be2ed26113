use Rattle.std.proofs.Common.{[], take, refl}
use Rattle.ref_edn.specs.ReadTokens.{body_at}
use Rattle.ref_edn.proofs.Bodies.{continues_start, continues_to, continues_closed}
use Rattle.ref_edn.proofs.string_reader.plain.Goals as goal

pub returns-then-at-eq34-clause-value : goal.returns-then-at-eq34-clause-value
returns-then-at-eq34-clause-value c =
    let text = c.args.text.now in
    let content = take c.in_ok-i.i text in
    let at = c.after-at.result.now in
    let p = continues_to [] text c.in_ok-i.i (body_at text) content at c.in_ok-i.ensures refl c.after-at.ensures (continues_start text) in
    rw c.after.ensures (continues_closed content at (body_at text) p.1 c.if-at-eq34.true p.0)
